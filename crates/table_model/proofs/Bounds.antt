-- The told rounds are few, in all and in a session. Assumes nothing.
use Rattle.std.proofs.Common.{◌≡◌, ℕ, suc, ◌*◌, ◌<◌, ◌≤◌, Bool, ◌∷◌, ap, subst, arith}
use Rattle.lattices.specs.Laws.{LatticeLaws}
use Rattle.equations.specs.Equations.{Equations, Lawful}
use Rattle.equations.proofs.Least.{solution, solution_least}
use Rattle.table_model.specs.declared.record.Evaluation.{Evaluation}
use Rattle.table_model.specs.declared.record.State.TheVariants.{Iterating}
use Rattle.table_model.specs.declared.row.Mark.TheVariants.{Final}
use Rattle.table_model.specs.Calls.{open_at, round_of, rounded, TableModel}
use Rattle.table_model.specs.Laws.{RoundsAreBounded}
use Rattle.table_model.specs.Rows.{Rows, pending_count}
use Rattle.table_model.specs.Runs.{Log, event, Run, more, Start, told_idle, ToldFinal, from_begin, from_finished, rounds_since_open, NoneOpened}
use Rattle.table_model.proofs.Lowest.{never}
use Rattle.table_model.proofs.Marks.{is_final, final, final_from}
use Rattle.table_model.proofs.Finals.{Finals, final_reach}
use Rattle.table_model.proofs.Sessions.{few_ranks}
use Rattle.table_model.proofs.Told.{Told}
use Rattle.table_model.proofs.SinceOpen.{more_none_opened, rounds_since, run_append, pending_since, round_iterates}
use Rattle.table_model.proofs.Standing.{Standing}
use Rattle.table_model.proofs.Invariant.{holds}
use Rattle.table_model.proofs.LeastAnswers.{finished_right}

-- A row that was told final is final.
pub told_final : {V : Type 0} {bot : V} {le : V → V → Type 0} (e : Equations V) → Lawful bot le e → {v : ℕ → V} {height : ℕ} {begin : TableModel V} {log : Log V} {rows : Rows V} {j : ℕ} → Finals e v rows → Told e v height begin log rows → j < e.size → ToldFinal e begin log j → (rows j).mark ≡ Final
told_final e lawful {j = j} finals t l (from_begin p) = t.kept j l p
told_final e lawful finals t l (from_finished f r) =
    let right = finished_right t f in final_reach e lawful finals right.0 right.1 r

module _ {V : Type 0} {bot : V} {le : V → V → Type 0} {lub : V → V → V} {same : V → V → Bool} {height : ℕ} {rank : V → ℕ} (laws : LatticeLaws bot le lub same height rank) (e : Equations V) (lawful : Lawful bot le e) where
  -- In a session that is not settled the rounds since the last answered open are at most the pending rows times the height.
  session_few : {begin : TableModel V} → Start bot le e begin → {log : Log V} {t : TableModel V} → Run bot same e begin log t → {x : Evaluation} → t.state ≡ Iterating x → rounds_since_open log ≤ pending_count bot e t.rows * height
  session_few {begin = begin} start {log = log} {t = t} run fits =
      let v = solution laws e lawful.step_mono in
      let least = solution_least laws e lawful in
      let h = holds laws e lawful v least begin start run in
      let now = subst (Standing le rank e v (told_idle log) (rounds_since_open log) t.rows) fits h.standing in
      omega (arith, now.2, few_ranks laws e lawful v least t.rows)

  pub rounds_are_bounded : RoundsAreBounded bot le same height e
  rounds_are_bounded =
      let v = solution laws e lawful.step_mono in
      let least = solution_least laws e lawful in
      record {
        told = λ begin start log t run.
            let h = holds laws e lawful v least begin start run in (
              final t.rows,
              λ j l. (λ p. h.told.told j l (final_from (t.rows j).mark p), λ p. ap is_final (told_final e lawful h.finals h.told l p)),
              h.told.few,
            );
        session = λ begin start log t run x fits. session_few start run fits;
        after_open = λ begin start log t run i u opens later w since not j n x round.
            let now = round_iterates round in
            let all = more since round in
            let no : NoneOpened (event (round_of j) (rounded (suc n)) ∷ later) = more_none_opened (λ p. never (cc)) not in
            let few = session_few start (run_append (more run opens) all) now.1 in
            omega (arith, few, rounds_since _ log (open_at i) no, ap (λ k. k * height) (pending_since all no now));
      }
