-- Changes of each row, and of the first rows of a list. Assumes nothing.
use Rattle.std.proofs.Common.{◌≡◌, ℕ, zero, suc, ◌-◌, ◌≤◌, cond, List, length, take, drop, ◌++◌, refl, ap, ◌∙◌, subst, add-one, arith}
use Rattle.std.proofs.lemmas.List.{length-take, get_or-take, get_or_append_left, get_or-append_right, get_or-drop, length-append, length-drop}
use Rattle.std.proofs.lemmas.List.Sums.{sum_by_more}
use Rattle.equations.specs.Rounds.{members}
use Rattle.table_model.proofs.Lowest.{never}
use Rattle.table_model.specs.Rows.{row, is_pending, pending}
use Rattle.table_model.specs.declared.row.Mark.TheVariants.{Untouched, Pending, Final}
use Rattle.table_model.specs.declared.row.Row.{Row}
use Rattle.attribute_table.specs.Effects.{EachRow, EachReplaced, PendingReplaced, closed_as, closed_row, released_as, released_row, pending_rows}
use Rattle.attribute_table.specs.Lent.{rows_of}

module _ {V : Type 0} (bot : V) where
  pub each_by : {R Q : ℕ → Row V → Row V → Type 0} {n : ℕ} {before after : List (Row V)} → ((j : ℕ) (r x : Row V) → R j r x → Q j r x) → EachReplaced bot n R before after → EachReplaced bot n Q before after
  each_by {before = before} {after} gives each =
      record {
        first = λ j l. gives j (rows_of bot before j) (rows_of bot after j) (each.first j l);
        past = each.past;
        length = each.length;
      }

  -- A close and a give-up replace the pending rows.
  module _ {R : Row V → Row V → Type 0} {r x : Row V} (is : PendingReplaced R r x) where
    pub closed_by : (R r x → x ≡ row Final r.value) → x ≡ closed_row bot r
    closed_by final = elim r.mark as (λ m. r.mark ≡ m → x ≡ closed_as bot m r) [
      | Untouched ↦ λ q. is.kept (λ p. never (cc))
      | Pending ↦ λ q. final (is.pending q)
      | Final ↦ λ q. is.kept (λ p. never (cc))
    ] refl

    pub released_by : (R r x → x ≡ row Untouched bot) → x ≡ released_row bot r
    released_by released = elim r.mark as (λ m. r.mark ≡ m → x ≡ released_as bot m r) [
      | Untouched ↦ λ q. is.kept (λ p. never (cc))
      | Pending ↦ λ q. released (is.pending q)
      | Final ↦ λ q. is.kept (λ p. never (cc))
    ] refl

  counted : (rows : List (Row V)) (n : ℕ) → n ≤ length rows → pending_rows (take n rows) ≡ members (pending (rows_of bot rows)) n
  counted rows zero l = refl
  counted rows (suc n) l =
      let more = sum_by_more (λ (r : Row V). cond (is_pending r.mark) 1 0) rows n (row Untouched bot) (omega arith) in
      rw (← add-one n) (omega (arith, more, counted rows n (omega arith)))

  -- The first n rows of a list are lent.
  module _ {n m : ℕ} (size : n ≡ m) (rows : List (Row V)) (within : n ≤ length rows) where
    pub each_lent : {f : ℕ → Row V → Row V} {cut : List (Row V)} → EachRow bot (length (take n rows)) f (take n rows) cut → EachRow bot m f rows (cut ++ drop n rows)
    each_lent {f} {cut} each =
        let empty : Row V = row Untouched bot in
        let short : length (take n rows) ≡ n = omega (arith, length-take n rows) in
        let long : length cut ≡ n = each.length ∙ short in
        subst (λ k. EachRow bot k f rows (cut ++ drop n rows)) size
        (record {
          first = λ j l. get_or_append_left cut (drop n rows) empty j (omega arith) ∙ each.first j (omega arith) ∙ ap (f j) (get_or-take n rows j empty l);
          past = λ j l. get_or-append_right cut (drop n rows) n j empty long l ∙ get_or-drop n rows (j - n) empty ∙ ap (rows_of bot rows) (omega arith);
          length = length-append cut (drop n rows) ∙ omega (arith, length-drop n rows);
        })

    pub counts_lent : {count : ℕ} → count ≡ pending_rows (take n rows) → count ≡ members (pending (rows_of bot rows)) m
    counts_lent counts = counts ∙ counted rows n within ∙ ap (members (pending (rows_of bot rows))) size
