-- Rounds until one changes nothing. Assumes nothing.
use Rattle.std.proofs.Common.{◌≡◌, ℕ, suc, ◌+◌, ◌-◌, ◌*◌, ◌^◌, ◌<◌, ◌≤◌, min, Bool, List, length, sym, ap, ◌∙◌, subst, ⊎_elim, arith}
use mathlib.Core.Path.{fun_ext}
use Rattle.std.proofs.lemmas.Bool.{cases_lt}
use Rattle.lattices.specs.Laws.{LatticeLaws}
use Rattle.equations.specs.Equations.{Equations, Lawful}
use Rattle.equations.specs.Rounds.{swept, changes, rounds, round_changes, members}
use Rattle.equations.proofs.Rising.{ranks, ranks_within, round_risen, rounds_rising, bottom_rising}
use Rattle.equations.proofs.Turns.{swept_unchanged}
use Rattle.table_model.specs.Calls.{counted}
use Rattle.table_model.specs.Rows.{pending, values}
use Rattle.table_model.specs.declared.row.Row.{Row}
use Rattle.attribute_table.specs.Effects.{Evaluated, Iterated, PendingAtBottom}
use Rattle.attribute_table.specs.Lent.{rows_of}
use Rattle.attribute_table.proofs.Sweeps.{SameMarks, pending_same}

counted_more : (k : ℕ) → min (counted k + 1) (2 ^ 32 - 1) ≡ counted (suc k)
counted_more k = omega arith

module _ {V : Type 0} (bot : V) (same : V → V → Bool) (e : Equations V) where
  -- k rounds changed something each; `count` counts these and the next one.
  pub record Iterating (before now : List (Row V)) (count : ℕ) : Type 0 where
    pub k : ℕ
    pub change : (j : ℕ) → j < k → 0 < round_changes same e (pending (rows_of bot before)) j (values (rows_of bot before))
    pub marks : SameMarks bot before now
    pub worked : (j : ℕ) → (rows_of bot now j).value ≡ rounds e (pending (rows_of bot before)) k (values (rows_of bot before)) j
    pub counts : count ≡ counted k
    pub length : length now ≡ length before

module _ {V : Type 0} {bot : V} {le : V → V → Type 0} {lub : V → V → V} {same : V → V → Bool} {height : ℕ} {rank : V → ℕ} (laws : LatticeLaws bot le lub same height rank) (e : Equations V) where
  -- A round more.
  module _ {before now after : List (Row V)} {count n : ℕ} (h : Iterating bot same e before now count) (r : Evaluated bot same e e.size now after n) where
    abbrev s : ℕ → Bool
    s = pending (rows_of bot before)

    abbrev w : ℕ → V
    w = values (rows_of bot before)

    pending_kept : pending (rows_of bot now) ≡ s
    pending_kept = pending_same bot before now h.marks

    values_so_far : values (rows_of bot now) ≡ rounds e s h.k w
    values_so_far = fun_ext h.worked

    values_after : values (rows_of bot after) ≡ rounds e s (suc h.k) w
    values_after = fun_ext r.worked ∙ (λ d. swept e (pending_kept d) e.size (values_so_far d))

    round_counts : n ≡ round_changes same e s h.k w
    round_counts = r.counts ∙ (λ d. changes same e (pending_kept d) e.size (values_so_far d))

    after_marks : SameMarks bot before after
    after_marks j = r.marks j ∙ h.marks j

    pub iterating_more : (z : ℕ) → 0 < n → z ≡ min (count + 1) (2 ^ 32 - 1) → Iterating bot same e before after z
    iterating_more z some q =
        record {
          k = suc h.k;
          change = λ j l. ⊎_elim (h.change j) (λ (u : h.k ≤ j). let p : h.k ≡ j = omega arith in subst (λ x. 0 < round_changes same e s x w) p (omega (arith, round_counts))) (cases_lt j h.k);
          marks = after_marks;
          worked = λ j. ap (λ u. u j) values_after;
          counts = q ∙ ap (λ x. min (x + 1) (2 ^ 32 - 1)) h.counts ∙ counted_more h.k;
          length = r.length ∙ h.length;
        }

    -- It changes nothing.
    pub iterating_done : n ≡ 0 → Iterated bot same e before after count
    iterating_done none =
        let still : round_changes same e s h.k w ≡ 0 = sym round_counts ∙ none in
        record {
          k = h.k;
          change = h.change;
          settle = still;
          marks = after_marks;
          worked = λ j. ap (λ u. u j) (values_after ∙ (swept_unchanged e s laws.same_decides (rounds e s h.k w) e.size still).0);
          counts = h.counts;
          length = r.length ∙ h.length;
        }

    -- A round that changes something raises the ranks.
    module _ (lawful : Lawful bot le e) (bottom : PendingAtBottom bot same e before) where
      pub ranks_rise : 0 < n → members s e.size * height - ranks rank e s (values (rows_of bot after)) < members s e.size * height - ranks rank e s (values (rows_of bot now))
      ranks_rise some =
          let u : ℕ → V = rounds e s h.k w in
          let risen = round_risen laws e lawful s u (rounds_rising laws e lawful s w (bottom_rising laws e lawful s w bottom) h.k) in
          let new : ranks rank e s (values (rows_of bot after)) ≡ ranks rank e s (rounds e s (suc h.k) w) = ap (ranks rank e s) values_after in
          let old : ranks rank e s (values (rows_of bot now)) ≡ ranks rank e s u = ap (ranks rank e s) values_so_far in
          omega (arith, new, old, risen.gains, round_counts, ranks_within laws e lawful s (rounds e s (suc h.k) w))
