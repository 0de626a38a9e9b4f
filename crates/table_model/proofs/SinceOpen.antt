-- The calls since an answered open: their rounds, and the marks they keep while the session is not settled. Assumes nothing.
use Rattle.std.proofs.Common.{◌≡◌, ℕ, suc, ◌+◌, Bool, eqb, [], ◌∷◌, ◌++◌, sym, refl, ap, ◌∙◌, ⊎_elim, arith}
use mathlib.Core.Path.{fun_ext}
use Rattle.std.proofs.lemmas.Bool.{cond_both, eqb-true}
use Rattle.equations.specs.Equations.{Equations}
use Rattle.equations.specs.Rounds.{members}
use Rattle.table_model.specs.declared.record.Evaluation.{Evaluation}
use Rattle.table_model.specs.declared.record.State.{State}
use Rattle.table_model.specs.declared.record.State.TheVariants.{Iterating, Settled}
use Rattle.table_model.specs.Calls.{Call, round_of, Answer, refused, opened, rounded, closed, gave_up, demanded, valued, TableModel, evaluation, counted}
use Rattle.table_model.specs.Rows.{Rows, is_pending, pending_count}
use Rattle.table_model.specs.Runs.{Log, event, Run, none, more, newest, older, since_open, rounds_since_open, answered_round, answered_rounds, NoneOpened}
use Rattle.table_model.specs.Steps.{Step, open_busy, open_none, open_final, open_dangling, open_done, round_done, round_unfit, close_none, close_unfit, close_done, give_open, give_open_unfit, give_settled, give_settled_unfit, demand_busy, demand_none, demand_final, demand_dangling, demand_done, read_none, read_not, read_done}
use Rattle.table_model.proofs.Told.{in_cases}
use Rattle.table_model.proofs.Lowest.{never}

-- An answer that is not `opened` adds its round.
since_round : {V : Type 0} (a : Answer V) → (a ≡ opened → ⊥) → (n : ℕ) → since_open a n ≡ answered_round a + n
since_round (refused f) not n = omega arith
since_round opened not n = absurd (not refl)
since_round (rounded m) not n = omega arith
since_round (closed r) not n = omega arith
since_round (gave_up m) not n = omega arith
since_round (demanded r) not n = omega arith
since_round (valued x) not n = omega arith

module _ {V : Type 0} {c : Call} {a : Answer V} {log : Log V} where
  -- The newest answer is not `opened`.
  newest_not_opened : NoneOpened (event c a ∷ log) → a ≡ opened → ⊥
  newest_not_opened not p = not c (rw p newest)

  older_none_opened : NoneOpened (event c a ∷ log) → NoneOpened log
  older_none_opened not d p = not d (older p)

  pub more_none_opened : (a ≡ opened → ⊥) → NoneOpened log → NoneOpened (event c a ∷ log)
  more_none_opened new not d p = ⊎_elim (λ q. new (sym (ap (λ x. x.answer) q))) (not d) (in_cases p)

-- With one answered open, the oldest call, the rounds since the open are all the answered rounds after it.
pub rounds_since : {V : Type 0} (later log : Log V) (c : Call) → NoneOpened later → rounds_since_open (later ++ (event c opened ∷ log)) ≡ answered_rounds later
rounds_since [] log c not = refl
rounds_since (x ∷ later) log c not =
    since_round x.answer (newest_not_opened not) (rounds_since_open (later ++ (event c opened ∷ log))) ∙ ap (λ n. answered_round x.answer + n) (rounds_since later log c (older_none_opened not))

-- In a session that is not settled.
abbrev pub InSession : State → Type 0
InSession s = (x : Evaluation) × (s ≡ Iterating x)

module _ {V : Type 0} {bot : V} {same : V → V → Bool} {e : Equations V} where
  pub run_append : {begin t u : TableModel V} {log later : Log V} → Run bot same e begin log t → Run bot same e t later u → Run bot same e begin (later ++ log) u
  run_append r none = r
  run_append r (more q step) = more (run_append r q) step

  -- If the table is in a session that is not settled after a call that is not an answered open, it was in one before, and has the same marks.
  step_back : {s : State} {rows : Rows V} {c : Call} {a : Answer V} {u : TableModel V} → Step bot same e s rows c a u → (a ≡ opened → ⊥) → InSession u.state → InSession s × ((j : ℕ) → (u.rows j).mark ≡ (rows j).mark)
  step_back (open_busy n) not h = (h, λ j. refl)
  step_back (open_none p l) not h = (h, λ j. refl)
  step_back (open_final p l q) not h = (h, λ j. refl)
  step_back (open_dangling p l n d) not h = (h, λ j. refl)
  step_back (open_done p l n whole opens) not h = absurd (not refl)
  step_back (round_done fits round) not h = ((_, fits), round.marks)
  step_back (round_unfit n) not h = (h, λ j. refl)
  step_back (close_none l) not h = (h, λ j. refl)
  step_back (close_unfit l n) not h = (h, λ j. refl)
  step_back (close_done l fits makes) not h = absurd (never (cc h.1))
  step_back (give_open fits releases) not h = absurd (never (cc h.1))
  step_back (give_open_unfit n) not h = (h, λ j. refl)
  step_back (give_settled fits releases) not h = absurd (never (cc h.1))
  step_back (give_settled_unfit n) not h = (h, λ j. refl)
  step_back (demand_busy n) not h = (h, λ j. refl)
  step_back (demand_none p l) not h = (h, λ j. refl)
  step_back (demand_final p l q) not h = (h, λ j. refl)
  step_back (demand_dangling p l n d) not h = (h, λ j. refl)
  step_back (demand_done p l n whole w) not h = absurd (never (cc h.1))
  step_back (read_none l) not h = (h, λ j. refl)
  step_back (read_not l n) not h = (h, λ j. refl)
  step_back (read_done l p) not h = (h, λ j. refl)

  marks_since : {t u : TableModel V} {later : Log V} → Run bot same e t later u → NoneOpened later → InSession u.state → (j : ℕ) → (u.rows j).mark ≡ (t.rows j).mark
  marks_since none not h j = refl
  marks_since (more r step) not h j =
      let back = step_back step (newest_not_opened not) h in
      back.1 j ∙ marks_since r (older_none_opened not) back.0 j

  -- In a session that is not settled as many rows are pending as after the open.
  pub pending_since : {t u : TableModel V} {later : Log V} → Run bot same e t later u → NoneOpened later → InSession u.state → pending_count bot e u.rows ≡ pending_count bot e t.rows
  pending_since r not h = ap (λ s. members s e.size) (fun_ext (λ j. ap is_pending (marks_since r not h j)))

  -- After a round that changes a row the session is not settled.
  pub round_iterates : {s : State} {rows : Rows V} {i n : ℕ} {u : TableModel V} → Step bot same e s rows (round_of i) (rounded (suc n)) u → InSession u.state
  round_iterates {n = n} (round_done {i = i} {k = k} fits round) =
      cond_both (eqb (suc n) 0) (Settled (evaluation i (counted k))) (Iterating (evaluation i (counted k))) InSession
      (λ z. absurd (omega (arith, eqb-true (suc n) 0 z)))
      (λ z. (_, refl))
