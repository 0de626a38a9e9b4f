-- A loop that replaces each pending row in turn, and counts them. Assumes nothing.
use Rattle.std.proofs.Common.{◌≡◌, ◌≢◌, ℕ, ◌+◌, ◌<◌, ◌≤◌, false, cond, List, length, get_or, set, take, sym, refl, ap, ◌∙◌, subst, ⊎_elim, arith}
use Rattle.std.proofs.lemmas.List.{length-set, get_or_read, get_or-set_same, get_or-set_other}
use Rattle.std.proofs.lemmas.List.Sums.{sum_by_more}
use Rattle.std.proofs.lemmas.Bool.{cases_lt}
use Rattle.table_model.specs.Rows.{row, is_pending}
use Rattle.table_model.specs.declared.row.Mark.{Mark}
use Rattle.table_model.specs.declared.row.Mark.TheVariants.{Untouched, Pending, Final}
use Rattle.table_model.specs.declared.row.Row.{Row}
use Rattle.attribute_table.specs.Effects.{EachReplaced, PendingReplaced, pending_rows}
use Rattle.attribute_table.specs.Lent.{rows_of}

not_pending : (m : Mark) → m ≢ Pending → is_pending m ≡ false
not_pending Untouched n = refl
not_pending Pending n = absurd (n refl)
not_pending Final n = refl

module _ {V : Type 0} (bot : V) (R : Row V → Row V → Type 0) (before : List (Row V)) where
  -- The first n rows are replaced where they were pending, and `count` of them were.
  pub record Counting (n : ℕ) (now : List (Row V)) (count : ℕ) : Type 0 where
    pub replaced : EachReplaced bot n (λ _. PendingReplaced R) before now
    pub counted : count ≡ pending_rows (take n before)
    pub few : count ≤ n

  -- The turn of row n, where r stands.
  module _ {n count : ℕ} {now : List (Row V)} (h : Counting n now count) (l : n < length now) (r : Row V) (read : r ≡ get_or now n r) where
    was : r ≡ rows_of bot before n
    was = get_or_read now n r l read (row Untouched bot) ∙ h.replaced.past n (omega arith)

    more : pending_rows (take (n + 1) before) ≡ pending_rows (take n before) + cond (is_pending r.mark) 1 0
    more =
        sum_by_more (λ (x : Row V). cond (is_pending x.mark) 1 0) before n (row Untouched bot) (omega (arith, h.replaced.length))
        ∙ ap (λ x. pending_rows (take n before) + cond (is_pending x.mark) 1 0) (sym was)

    -- Row n is replaced, and the others are as they were.
    next : (after : List (Row V)) → PendingReplaced R (rows_of bot before n) (rows_of bot after n) → ((j : ℕ) → (j ≡ n → ⊥) → rows_of bot after j ≡ rows_of bot now j) → length after ≡ length now → EachReplaced bot (n + 1) (λ _. PendingReplaced R) before after
    next after one other same =
        record {
          first = λ j k. ⊎_elim
              (λ (m : j < n). subst (PendingReplaced R (rows_of bot before j)) (sym (other j (λ q. omega arith))) (h.replaced.first j m))
              (λ (m : n ≤ j). let q : n ≡ j = omega arith in subst (λ z. PendingReplaced R (rows_of bot before z) (rows_of bot after z)) q one)
              (cases_lt j n);
          past = λ j k. other j (λ q. omega arith) ∙ h.replaced.past j (omega arith);
          length = same ∙ h.replaced.length;
        }

    pub counting_written : (x : Row V) (after : List (Row V)) (m : ℕ) → after ≡ set now n x → m ≡ count + 1 → r.mark ≡ Pending → R r x → Counting (n + 1) after m
    counting_written x after m write add p q =
        let at : rows_of bot (set now n x) n ≡ x = get_or-set_same now n x (row Untouched bot) l in
        let one : PendingReplaced R (rows_of bot before n) (rows_of bot (set now n x) n) = subst (λ z. PendingReplaced R z (rows_of bot (set now n x) n)) was (subst (PendingReplaced R r) (sym at) (record { pending = λ e. q; kept = λ ne. absurd (ne p) })) in
        let each = next (set now n x) one (λ j ne. get_or-set_other now n j x (row Untouched bot) ne) (length-set now n x) in
        let yes : ◌≡◌ {A = ℕ} (cond (is_pending r.mark) 1 0) 1 = ap (λ z. cond (is_pending z) 1 0) p in
        record {
          replaced = subst (EachReplaced bot (n + 1) (λ _. PendingReplaced R) before) (sym write) each;
          counted = omega (arith, add, h.counted, more, yes);
          few = omega (arith, add, h.few);
        }

    pub counting_kept : (after : List (Row V)) (m : ℕ) → after ≡ now → m ≡ count → r.mark ≢ Pending → Counting (n + 1) after m
    counting_kept after m kept same p =
        let stays : rows_of bot now n ≡ r = h.replaced.past n (omega arith) ∙ sym was in
        let one : PendingReplaced R (rows_of bot before n) (rows_of bot now n) = subst (λ z. PendingReplaced R z (rows_of bot now n)) was (record { pending = λ e. absurd (p e); kept = λ ne. stays }) in
        let each = next now one (λ j ne. refl) refl in
        let none : ◌≡◌ {A = ℕ} (cond (is_pending r.mark) 1 0) 0 = ap (λ b. cond b 1 0) (not_pending r.mark p) in
        record {
          replaced = subst (EachReplaced bot (n + 1) (λ _. PendingReplaced R) before) (sym kept) each;
          counted = omega (arith, same, h.counted, more, none);
          few = omega (arith, same, h.few);
        }
