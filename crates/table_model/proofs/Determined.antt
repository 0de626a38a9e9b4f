-- At every table and call there is exactly one answer and one table after. Assumes nothing.
use Rattle.std.proofs.Common.{◌≡◌, ℕ, ◌<◌, ◌≤◌, Bool, ◌⊎◌, refl, ap, inl, inr, ⊎_elim}
use Rattle.std.proofs.lemmas.Bool.{cases_lt, cases_eq}
use Rattle.lattices.specs.Laws.{LatticeLaws}
use Rattle.equations.specs.Equations.{Equations, Lawful}
use Rattle.equations.specs.Reach.{Whole}
use Rattle.equations.specs.Rounds.{swept, changes}
use Rattle.table_model.specs.declared.fault.DanglingOperand.{DanglingOperand}
use Rattle.table_model.specs.declared.record.Evaluation.{Evaluation}
use Rattle.table_model.specs.declared.record.State.{State}
use Rattle.table_model.specs.declared.record.State.TheVariants.{Idle, Iterating, Settled}
use Rattle.table_model.specs.declared.row.Mark.TheVariants.{Final}
use Rattle.table_model.specs.Calls.{Call, open_at, round_of, close_of, give_up_open, give_up_settled, demand_at, read_at, Answer, TableModel, evaluation, LowestDangling}
use Rattle.table_model.specs.Rows.{Rows, pending, values, row, Rounded}
use Rattle.table_model.specs.Steps.{Step, open_busy, open_none, open_final, open_dangling, open_done, round_done, round_unfit, close_none, close_unfit, close_done, give_open, give_open_unfit, give_settled, give_settled_unfit, demand_busy, demand_none, demand_final, demand_dangling, demand_done, read_none, read_not, read_done}
use Rattle.table_model.specs.Laws.{CallsAreDetermined}
use Rattle.table_model.proofs.Lowest.{never, lowest_dangling}
use Rattle.table_model.proofs.RowsAfter.{final_cases, opened_some, made_final_some, released_some}
use Rattle.table_model.proofs.Work.{worked_some}
use Rattle.table_model.proofs.One.{step_one}

idle_cases : (s : State) → (s ≡ Idle) ⊎ (s ≡ Idle → ⊥)
idle_cases Idle = inl refl
idle_cases (Iterating x) = inr (λ p. never (cc))
idle_cases (Settled x) = inr (λ p. never (cc))

-- A state with an evaluation is at instance i, with a number of rounds, or it is not.
at_cases : (state : Evaluation → State) → ((x y : Evaluation) → state x ≡ state y → x ≡ y) → (x : Evaluation) (i : ℕ) → ((k : ℕ) × (state x ≡ state (evaluation i k))) ⊎ ((k : ℕ) → state x ≡ state (evaluation i k) → ⊥)
at_cases state same x i =
    ⊎_elim
    (λ q. inl (x.rounds, ap (λ n. state (evaluation n x.rounds)) q))
    (λ n. inr (λ k p. n (ap (λ y. y.instance) (same x (evaluation i k) p))))
    (cases_eq x.instance i)

iterating_cases : (s : State) (i : ℕ) → ((k : ℕ) × (s ≡ Iterating (evaluation i k))) ⊎ ((k : ℕ) → s ≡ Iterating (evaluation i k) → ⊥)
iterating_cases Idle i = inr (λ k p. never (cc))
iterating_cases (Iterating x) i = at_cases Iterating (λ x y p. cc) x i
iterating_cases (Settled x) i = inr (λ k p. never (cc))

settled_cases : (s : State) (i : ℕ) → ((k : ℕ) × (s ≡ Settled (evaluation i k))) ⊎ ((k : ℕ) → s ≡ Settled (evaluation i k) → ⊥)
settled_cases Idle i = inr (λ k p. never (cc))
settled_cases (Iterating x) i = inr (λ k p. never (cc))
settled_cases (Settled x) i = at_cases Settled (λ x y p. cc) x i

module _ {V : Type 0} {bot : V} {le : V → V → Type 0} {lub : V → V → V} {same : V → V → Bool} {height : ℕ} {rank : V → ℕ} (laws : LatticeLaws bot le lub same height rank) (e : Equations V) (lawful : Lawful bot le e) where
  module _ (s : State) (rows : Rows V) where
    -- There is a step of the call.
    abbrev Possible : Call → Type 0
    Possible c = (a : Answer V) × (u : TableModel V) × Step bot same e s rows c a u

    possible : {c : Call} {a : Answer V} {u : TableModel V} → Step bot same e s rows c a u → Possible c
    possible {c} {a} {u} p = (a, u, p)

    -- The cases of an open and of a demand.
    asked_cases : (i : ℕ) (C : Type 0) → ((s ≡ Idle → ⊥) → C) → (s ≡ Idle → e.size ≤ i → C) → (s ≡ Idle → i < e.size → (rows i).mark ≡ Final → C) → (s ≡ Idle → i < e.size → ((rows i).mark ≡ Final → ⊥) → (d : DanglingOperand) → LowestDangling e i d → C) → (s ≡ Idle → i < e.size → ((rows i).mark ≡ Final → ⊥) → Whole e i → C) → C
    asked_cases i C busy none final dangling done =
        ⊎_elim
        (λ p.
        ⊎_elim
        (λ l.
        ⊎_elim
        (final p l)
        (λ n. ⊎_elim (done p l n) (λ h. dangling p l n h.0 h.1) (lowest_dangling e lawful i l))
        (final_cases (rows i).mark))
        (none p)
        (cases_lt i e.size))
        busy
        (idle_cases s)

    abbrev round_rows : Rows V
    round_rows j = row (rows j).mark (swept e (pending rows) e.size (values rows) j)

    round_some : Rounded bot e same rows round_rows (changes same e (pending rows) e.size (values rows))
    round_some = record { marks = λ j. refl; worked = λ j. refl; counts = refl }

    step_some : (c : Call) → Possible c
    step_some (open_at i) =
        asked_cases i (Possible (open_at i))
        (λ n. possible (open_busy n))
        (λ p l. possible (open_none p l))
        (λ p l f. possible (open_final p l f))
        (λ p l n d h. possible (open_dangling p l n h))
        (λ p l n w. possible (open_done p l n w (opened_some bot e lawful i l rows)))
    step_some (round_of i) =
        ⊎_elim (λ f. possible (round_done f.1 round_some)) (λ n. possible (round_unfit n)) (iterating_cases s i)
    step_some (close_of i) =
        ⊎_elim
        (λ l. ⊎_elim (λ f. possible (close_done l f.1 (made_final_some bot e rows).1)) (λ n. possible (close_unfit l n)) (settled_cases s i))
        (λ l. possible (close_none l))
        (cases_lt i e.size)
    step_some (give_up_open i) =
        ⊎_elim (λ f. possible (give_open f.1 (released_some bot e rows).1)) (λ n. possible (give_open_unfit n)) (iterating_cases s i)
    step_some (give_up_settled i) =
        ⊎_elim (λ f. possible (give_settled f.1 (released_some bot e rows).1)) (λ n. possible (give_settled_unfit n)) (settled_cases s i)
    step_some (demand_at i) =
        asked_cases i (Possible (demand_at i))
        (λ n. possible (demand_busy n))
        (λ p l. possible (demand_none p l))
        (λ p l f. possible (demand_final p l f))
        (λ p l n d h. possible (demand_dangling p l n h))
        (λ p l n w. possible (demand_done p l n w (worked_some laws e lawful i l rows).2))
    step_some (read_at i) =
        ⊎_elim
        (λ l. ⊎_elim (λ f. possible (read_done l f)) (λ n. possible (read_not l n)) (final_cases (rows i).mark))
        (λ l. possible (read_none l))
        (cases_lt i e.size)

  pub calls_are_determined : CallsAreDetermined bot le same height e
  calls_are_determined = record { some = step_some; one = step_one laws e lawful }
