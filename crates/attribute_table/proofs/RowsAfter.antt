-- What the changes of rows come to, by the definitions of the calls. Assumes nothing.
use Rattle.std.proofs.Common.{◌≡◌, ℕ, zero, suc, ◌<◌, ◌≤◌, Bool, true, false, eqb, List, get_or, sym, refl, ap, ◌∙◌, ⊎_elim, arith}
use Rattle.std.proofs.lemmas.Bool.{eq-eqb, ne_eqb}
use Rattle.equations.specs.Equations.{Equations, equation}
use Rattle.equations.specs.Reach.{Reach}
use Rattle.equations.specs.Rounds.{rounds}
use Rattle.equations.proofs.Turns.{put_both, rounds_keep}
use Rattle.reach_search.specs.Searched.{MarksReach}
use Rattle.table_model.proofs.Lowest.{never}
use Rattle.table_model.specs.Rows.{row, is_pending, pending, values, KeepsPast, Opened, Rounded, MadeFinal, Released}
use Rattle.table_model.specs.declared.row.Mark.{Mark}
use Rattle.table_model.specs.declared.row.Mark.TheVariants.{Untouched, Pending, Final}
use Rattle.table_model.specs.declared.row.Row.{Row}
use Rattle.attribute_table.specs.Effects.{opened_as, opened_row, closed_as, closed_row, released_as, released_row, EachRow, Evaluated, Iterated, PendingAtBottom}
use Rattle.attribute_table.specs.Lent.{rows_of}

module _ {V : Type 0} where
  row_same : (r x : Row V) → r.mark ≡ x.mark → r.value ≡ x.value → r ≡ x
  row_same r x m v = λ d. row (m d) (v d)

  rounds_past : (e : Equations V) (s : ℕ → Bool) (w : ℕ → V) (k j : ℕ) → e.size ≤ j → rounds e s k w j ≡ w j
  rounds_past e s w k =
      rounds_keep e s
      (λ u. (j : ℕ) → e.size ≤ j → u j ≡ w j)
      (λ u i l t p j n. put_both u i (equation e u i) j (λ x. x ≡ w j) (λ q. absurd (omega arith)) (λ _. p j n))
      w
      (λ j n. refl)
      k

-- Closing and releasing leave a row that is not pending.
module _ {V : Type 0} (bot : V) (r : Row V) where
  closed_kept : (m : Mark) → (m ≡ Pending → ⊥) → r ≡ closed_as bot m r
  closed_kept Untouched n = refl
  closed_kept Pending n = absurd (n refl)
  closed_kept Final n = refl

  released_kept : (m : Mark) → (m ≡ Pending → ⊥) → r ≡ released_as bot m r
  released_kept Untouched n = refl
  released_kept Pending n = absurd (n refl)
  released_kept Final n = refl

module _ {V : Type 0} (bot : V) where
  opened_reached : (m : Mark) (r : Row V) → (m ≡ Final → ⊥) → opened_as bot m true r ≡ row Pending bot
  opened_reached Untouched r h = refl
  opened_reached Pending r h = refl
  opened_reached Final r h = absurd (h refl)

  opened_bottom : (m : Mark) (b : Bool) (r : Row V) → r.mark ≡ m → is_pending (opened_as bot m b r).mark ≡ true → (opened_as bot m b r).value ≡ bot
  opened_bottom Untouched true r e h = refl
  opened_bottom Untouched false r e h = absurd (never (let z : false ≡ true = sym (ap is_pending e) ∙ h in cc))
  opened_bottom Pending true r e h = refl
  opened_bottom Pending false r e h = refl
  opened_bottom Final b r e h = absurd (never (let z : false ≡ true = sym (ap is_pending e) ∙ h in cc))

  module _ (e : Equations V) {rows after : List (Row V)} where
    module _ (i : ℕ) (marks : List ℕ) (reach : MarksReach e i marks) (each : EachRow bot e.size (λ j. opened_row bot (eqb (get_or marks j 0) 1)) rows after) where
      marked : (j : ℕ) → j < e.size → Reach e i j → eqb (get_or marks j 0) 1 ≡ true
      marked j l r = ⊎_elim (λ p. eq-eqb (get_or marks j 0) 1 p.0) (λ p. absurd (p.1 r)) (reach j l)

      unmarked : (j : ℕ) → j < e.size → (Reach e i j → ⊥) → eqb (get_or marks j 0) 1 ≡ false
      unmarked j l r = ⊎_elim (λ p. absurd (r p.1)) (λ p. ne_eqb (get_or marks j 0) 1 (λ q. never (sym p.0 ∙ q))) (reach j l)

      pub rows_opened : Opened bot e i (rows_of bot rows) (rows_of bot after)
      rows_opened =
          record {
            final = λ j l m. each.first j l ∙ ap (λ x. opened_as bot x (eqb (get_or marks j 0) 1) (rows_of bot rows j)) m;
            reached = λ j l m r.
                each.first j l ∙ ap (λ b. opened_row bot b (rows_of bot rows j)) (marked j l r)
                ∙ opened_reached (rows_of bot rows j).mark (rows_of bot rows j) m;
            released = λ j l m r.
                each.first j l ∙ ap (λ b. opened_row bot b (rows_of bot rows j)) (unmarked j l r)
                ∙ ap (λ x. opened_as bot x false (rows_of bot rows j)) m;
            untouched = λ j l m r.
                each.first j l ∙ ap (λ b. opened_row bot b (rows_of bot rows j)) (unmarked j l r)
                ∙ ap (λ x. opened_as bot x false (rows_of bot rows j)) m;
            past = each.past;
          }

    pub pending_at_bottom : (same : V → V → Bool) (marks : List ℕ) → EachRow bot e.size (λ j. opened_row bot (eqb (get_or marks j 0) 1)) rows after → PendingAtBottom bot same e after
    pending_at_bottom same marks each j l p =
        let is = each.first j l in
        ap (λ r. r.value) is
        ∙ opened_bottom (rows_of bot rows j).mark (eqb (get_or marks j 0) 1) (rows_of bot rows j) refl (ap (λ r. is_pending r.mark) (sym is) ∙ p)

    pub closed_rows : EachRow bot e.size (λ _. closed_row bot) rows after → MadeFinal bot e (rows_of bot rows) (rows_of bot after)
    closed_rows each =
        record {
          made = λ j l m. each.first j l ∙ ap (λ x. closed_as bot x (rows_of bot rows j)) m;
          kept = λ j l m. each.first j l ∙ sym (closed_kept bot (rows_of bot rows j) (rows_of bot rows j).mark m);
          past = each.past;
        }

    pub released_rows : EachRow bot e.size (λ _. released_row bot) rows after → Released bot e (rows_of bot rows) (rows_of bot after)
    released_rows each =
        record {
          released = λ j l m. each.first j l ∙ ap (λ x. released_as bot x (rows_of bot rows j)) m;
          kept = λ j l m. each.first j l ∙ sym (released_kept bot (rows_of bot rows j) (rows_of bot rows j).mark m);
          past = each.past;
        }

    -- Rounds leave the rows past the last instance.
    pub evaluated_past : {same : V → V → Bool} {count : ℕ} → Evaluated bot same e e.size rows after count → KeepsPast bot e (rows_of bot rows) (rows_of bot after)
    evaluated_past done j n =
        row_same (rows_of bot after j) (rows_of bot rows j) (done.marks j) (done.worked j ∙ rounds_past e (pending (rows_of bot rows)) (values (rows_of bot rows)) (suc zero) j n)

    pub iterated_past : {same : V → V → Bool} {count : ℕ} → Iterated bot same e rows after count → KeepsPast bot e (rows_of bot rows) (rows_of bot after)
    iterated_past done j n =
        row_same (rows_of bot after j) (rows_of bot rows j) (done.marks j) (done.worked j ∙ rounds_past e (pending (rows_of bot rows)) (values (rows_of bot rows)) done.k j n)

    pub rounded_rows : {same : V → V → Bool} {count : ℕ} → Evaluated bot same e e.size rows after count → Rounded bot e same (rows_of bot rows) (rows_of bot after) count
    rounded_rows done = record { marks = done.marks; worked = done.worked; counts = done.counts }
