-- The values that are told are the least solution's, and a demand at an idle table is refused exactly for a dangling name. Assumes nothing.
use Rattle.std.proofs.Common.{◌≡◌, ℕ, ◌<◌, Bool, ◌↔◌, refl, ◌∙◌, subst, arith}
use Rattle.lattices.specs.Laws.{LatticeLaws}
use Rattle.equations.specs.Equations.{Equations, Lawful}
use Rattle.equations.specs.Reach.{ReachesDangling, Least}
use Rattle.equations.proofs.Least.{solution, solution_least, least_unique}
use Rattle.table_model.specs.declared.fault.TableFault.{TableFault}
use Rattle.table_model.specs.declared.record.State.{State}
use Rattle.table_model.specs.declared.record.State.TheVariants.{Idle}
use Rattle.table_model.specs.Calls.{demand_at, Result, Answer, refused, demanded, TableModel}
use Rattle.table_model.specs.Laws.{IsLeast, Refused, AnswersAreLeast}
use Rattle.table_model.specs.Rows.{Rows}
use Rattle.table_model.specs.Runs.{Log, Finished, by_close, by_demand, rounds_since_open}
use Rattle.table_model.specs.Steps.{Step, demand_busy, demand_none, demand_final, demand_dangling, demand_done}
use Rattle.table_model.proofs.Finals.{Finals}
use Rattle.table_model.proofs.Standing.{Standing, idle_state}
use Rattle.table_model.proofs.Invariant.{holds}
use Rattle.table_model.proofs.Told.{RightAt, Told}
use Rattle.table_model.proofs.Tells.{close_tells, demand_tells, read_tells}

-- A result that is told is right.
pub finished_right : {V : Type 0} {e : Equations V} {v : ℕ → V} {height : ℕ} {begin : TableModel V} {log : Log V} {rows : Rows V} {i : ℕ} {r : Result V} → Told e v height begin log rows → Finished log i r → RightAt e v rows i r.value
finished_right t (by_close p) = t.answered _ _ _ _ p close_tells
finished_right t (by_demand p) = t.answered _ _ _ _ p demand_tells

not_refused : {V : Type 0} {r : Result V} {f : TableFault} → demanded r ≡ refused f → ⊥
not_refused p = let z : ◌≡◌ {A = ℕ} 0 1 = cc in omega arith

-- At an idle table with right final rows.
pub demand_refused : {V : Type 0} (bot : V) (same : V → V → Bool) (e : Equations V) (v : ℕ → V) (s : State) (rows : Rows V) → Finals e v rows → s ≡ Idle → {i : ℕ} {a : Answer V} {u : TableModel V} → i < e.size → Step bot same e s rows (demand_at i) a u → Refused a ↔ ReachesDangling e i
demand_refused bot same e v s rows finals idle l (demand_busy n) = absurd (n idle)
demand_refused bot same e v s rows finals idle l (demand_none p m) = absurd (omega arith)
demand_refused bot same e v s rows finals idle l (demand_final {i = i} p m q) =
    (λ r. absurd (not_refused r.1), λ d. absurd ((finals.whole i m q).1 d))
demand_refused bot same e v s rows finals idle l (demand_dangling {d = d} p m n low) =
    (λ r. (d.instance, d.operand, d.dangling, low.reaches, low.dangles), λ r. (_, refl))
demand_refused bot same e v s rows finals idle l (demand_done p m n whole w) =
    (λ r. absurd (not_refused r.1), λ d. absurd (whole d))

module _ {V : Type 0} {bot : V} {le : V → V → Type 0} {lub : V → V → V} {same : V → V → Bool} {height : ℕ} {rank : V → ℕ} (laws : LatticeLaws bot le lub same height rank) (e : Equations V) (lawful : Lawful bot le e) where
  -- The value of a final row is that of every least solution.
  pub right_least : {v : ℕ → V} {rows : Rows V} {i : ℕ} {x : V} → Least le e v → Finals e v rows → RightAt e v rows i x → IsLeast bot le same height e i x
  right_least {v = v} {i = i} least finals r =
      let whole = finals.whole i r.0 r.1 in (whole, λ w other. r.2 ∙ least_unique laws e v w least other i whole)

  pub answers_are_least : AnswersAreLeast bot le same height e
  answers_are_least =
      let v = solution laws e lawful.step_mono in
      let least = solution_least laws e lawful in
      record {
        exists = (v, least);
        finished = λ begin start log t run i r f.
            let h = holds laws e lawful v least begin start run in right_least least h.finals (finished_right h.told f);
        read = λ begin start log t run i x p.
            let h = holds laws e lawful v least begin start run in right_least least h.finals (h.told.answered _ _ _ _ p read_tells);
        demand_refused = λ begin start log t run idle i l a u step.
            let h = holds laws e lawful v least begin start run in
            let now = subst (λ b. Standing le rank e v b (rounds_since_open log) t.rows t.state) idle h.standing in
            demand_refused bot same e v t.state t.rows h.finals (idle_state le rank e v (rounds_since_open log) t.rows t.state now) l step;
      }
