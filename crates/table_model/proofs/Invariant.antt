-- Every call keeps what holds at every point of a run. Assumes nothing.
use Rattle.std.proofs.Common.{◌≡◌, ℕ, zero, suc, ◌*◌, ◌<◌, ◌≤◌, Bool, true, eqb, [], ◌∷◌, sym, refl, ap, ◌∙◌, subst, arith}
use Rattle.std.proofs.lemmas.Bool.{cond_both, eqb-true, eqb-false}
use Rattle.lattices.specs.Laws.{LatticeLaws}
use Rattle.equations.specs.Equations.{Equations, Lawful}
use Rattle.equations.specs.Reach.{WholeInstance, Least}
use Rattle.equations.specs.Rounds.{members}
use Rattle.table_model.specs.declared.fault.TableFault.{TableFault}
use Rattle.table_model.specs.declared.record.State.{State}
use Rattle.table_model.specs.declared.record.State.TheVariants.{Idle, Iterating, Settled}
use Rattle.table_model.specs.declared.row.Mark.TheVariants.{Final}
use Rattle.table_model.specs.Calls.{Call, close_of, demand_at, Result, Answer, refused, opened, rounded, closed, gave_up, demanded, TableModel, evaluation, counted}
use Rattle.table_model.specs.Rows.{Rows, is_pending, pending, Opened, Rounded, MadeFinal, Released, pending_count}
use Rattle.table_model.specs.Runs.{Log, event, newest, Run, none, more, Start, idle_now, told_idle, rounds_of, by_close, by_demand, from_begin, from_finished, since_open, rounds_since_open}
use Rattle.table_model.specs.Steps.{Step, open_busy, open_none, open_final, open_dangling, open_done, round_done, round_unfit, close_none, close_unfit, close_done, give_open, give_open_unfit, give_settled, give_settled_unfit, demand_busy, demand_none, demand_final, demand_dangling, demand_done, read_none, read_not, read_done, round_state, FitsOpen, FitsSettled, Worked}
use Rattle.table_model.proofs.Sets.{members_some}
use Rattle.table_model.proofs.Finals.{finals_same, opened_finals, rounds_finals, released_finals}
use Rattle.table_model.proofs.Sessions.{Session, AfterRounds, after_rounds, few_ranks, rounds_session, rounds_least, round_still, round_ranks, rounds_few, opened_session}
use Rattle.table_model.proofs.Closing.{made_finals}
use Rattle.table_model.proofs.Tells.{Tells, refused_silent, opened_silent, rounded_silent, gave_silent, close_value, demand_value, read_value}
use Rattle.table_model.proofs.Told.{RightAt, in_none, told_rows, told_more, made_told}
use Rattle.table_model.proofs.Standing.{Standing, Holds}

-- A give-up of more than 0 tells that the table is idle.
gave_idle : (V : Type 0) (n : ℕ) → 1 ≤ n → (was : Bool) → idle_now {V = V} (gave_up n) was ≡ true
gave_idle V zero l was = absurd (omega arith)
gave_idle V (suc n) l was = refl

module _ {V : Type 0} {bot : V} {le : V → V → Type 0} {lub : V → V → V} {same : V → V → Bool} {height : ℕ} {rank : V → ℕ} (laws : LatticeLaws bot le lub same height rank) (e : Equations V) (lawful : Lawful bot le e) (v : ℕ → V) (least : Least le e v) (begin : TableModel V) where
  abbrev HoldsAt : Log V → State → Rows V → Type 0
  HoldsAt = Holds le rank height e v begin

  holds_start : Start bot le e begin → HoldsAt [] begin.state begin.rows
  holds_start start =
      record {
        finals = record { closed = start.closed; whole = start.whole; at = start.least v least };
        told = record {
          kept = λ j l p. p;
          told = λ j l p. from_begin p;
          answered = λ c a i x p. absurd (in_none p);
          few = omega arith;
        };
        standing = subst (Standing le rank e v true 0 begin.rows) (sym start.idle) refl;
      }

  module _ {log : Log V} {s : State} {rows : Rows V} (h : HoldsAt log s rows) where
    -- What holds in the state.
    now_in : {state : State} → s ≡ state → Standing le rank e v (told_idle log) (rounds_since_open log) rows state
    now_in p = subst (Standing le rank e v (told_idle log) (rounds_since_open log) rows) p h.standing

    -- The value of a final row is right.
    final_right : (i : ℕ) → i < e.size → (rows i).mark ≡ Final → (j : ℕ) (x : V) → (i ≡ j) × (x ≡ (rows i).value) → RightAt e v rows j x
    final_right i l p j x q = subst (λ k. RightAt e v rows k x) q.0 (l, p, q.1 ∙ h.finals.at i l p)

    -- A call that changes nothing, and tells no value or that of a final row.
    kept_same : {c : Call} {a : Answer V} → rounds_of a ≡ 0 → ((i : ℕ) (x : V) → Tells c a i x → RightAt e v rows i x) → Standing le rank e v (idle_now a (told_idle log)) (since_open a (rounds_since_open log)) rows s → HoldsAt (event c a ∷ log) s rows
    kept_same z new now =
        record { finals = h.finals; told = told_more e lawful v height begin z new h.told; standing = now }

    kept_refused : {c : Call} {f : TableFault} → HoldsAt (event c (refused f) ∷ log) s rows
    kept_refused = kept_same refl (λ i x t. absurd (refused_silent t)) h.standing

    kept_gave_none : {c : Call} → HoldsAt (event c (gave_up 0) ∷ log) s rows
    kept_gave_none = kept_same refl (λ i x t. absurd (gave_silent t)) h.standing

    kept_open : {i : ℕ} {after : Rows V} {c : Call} → WholeInstance e i → ((rows i).mark ≡ Final → ⊥) → Opened bot e i rows after → HoldsAt (event c opened ∷ log) (Iterating (evaluation i 0)) after
    kept_open whole new opens =
        let same = opened_finals e lawful whole.0 opens in
        record {
          finals = finals_same e lawful same h.finals;
          told = told_more e lawful v height begin refl (λ i x t. absurd (opened_silent t)) (told_rows e lawful v height begin same h.told);
          standing = (refl, opened_session laws e lawful v least whole new opens, omega arith, omega arith);
        }

    kept_round : {i k count : ℕ} {after : Rows V} {c : Call} → FitsOpen s i k → Rounded bot e same rows after count → HoldsAt (event c (rounded count) ∷ log) (round_state i k count) after
    kept_round {i = i} {k = k} {count = count} {after = after} fits round =
        let now = now_in fits in
        let worked : AfterRounds e 1 rows after = record { marks = round.marks; worked = round.worked } in
        let finals = rounds_finals e lawful 1 round.marks round.worked in
        let session = rounds_session laws e lawful v least h.finals now.1 worked in
        let more = round_ranks laws e lawful v least h.finals now.1 worked in
        record {
          finals = finals_same e lawful finals h.finals;
          told = told_more e lawful v height begin refl (λ i x t. absurd (rounded_silent t)) (told_rows e lawful v height begin finals h.told);
          standing = cond_both (eqb count 0) (Settled (evaluation i (counted k))) (Iterating (evaluation i (counted k)))
              (Standing le rank e v (told_idle log) (suc (rounds_since_open log)) after)
              (λ z.
              let none = sym round.counts ∙ eqb-true count 0 z in
              (now.0, session, rounds_least laws e lawful v least h.finals now.1 (round_still laws e lawful v least h.finals now.1 worked none) none, omega (arith, more, now.3)))
              (λ z.
              let some = eqb-false count 0 z in
              (now.0, session, omega (arith, more, now.2, round.counts, some), omega (arith, more, now.3, round.counts, some)));
        }

    kept_close : {i k : ℕ} {after : Rows V} → FitsSettled s i k → MadeFinal bot e rows after → HoldsAt (event (close_of i) (closed (record { value = (rows i).value; made_final = pending_count bot e rows; rounds = k })) ∷ log) Idle after
    kept_close fits makes =
        let now = now_in fits in
        record {
          finals = made_finals e lawful makes h.finals now.1 now.2;
          told = made_told e lawful v height begin now.1 now.2 makes (omega (arith, now.3, few_ranks laws e lawful v least rows))
              (λ j r. from_finished (by_close newest) r) (λ j x t. close_value t) h.told;
          standing = refl;
        }

    kept_give : {i : ℕ} {after : Rows V} {c : Call} → Session le e v i rows → Released bot e rows after → HoldsAt (event c (gave_up (pending_count bot e rows)) ∷ log) Idle after
    kept_give {i = i} session releases =
        let same = released_finals e lawful releases in
        record {
          finals = finals_same e lawful same h.finals;
          told = told_more e lawful v height begin refl (λ i x t. absurd (gave_silent t)) (told_rows e lawful v height begin same h.told);
          standing = gave_idle V (pending_count bot e rows) (members_some (pending rows) e.size i session.whole.0 (ap is_pending session.asked)) (told_idle log);
        }

    -- A demand opens, works its rounds and closes.
    kept_worked : {i : ℕ} {after : Rows V} {result : Result V} → WholeInstance e i → ((rows i).mark ≡ Final → ⊥) → told_idle log ≡ true → Worked bot same e i rows after result → HoldsAt (event (demand_at i) (demanded result) ∷ log) Idle after
    kept_worked {i = i} {result = result} whole new idle w =
        let opens = opened_finals e lawful whole.0 w.opens in
        let begun = finals_same e lawful opens h.finals in
        let asked = opened_session laws e lawful v least whole new w.opens in
        let worked : AfterRounds e w.k w.begun w.ended = record { marks = w.marks; worked = w.worked } in
        let rounds = rounds_finals e lawful w.k w.marks w.worked in
        let session = rounds_session laws e lawful v least begun asked worked in
        let settled = rounds_least laws e lawful v least begun asked worked w.settle in
        let few : w.k ≤ pending_count bot e w.ended * height =
        after_rounds e worked (λ s u. w.k ≤ members s e.size * height) (rounds_few laws e lawful v least begun asked w.k w.change) in
        record {
          finals = made_finals e lawful w.closes (finals_same e lawful rounds begun) session settled;
          told = made_told e lawful v height begin session settled w.closes (omega (arith, few, w.rounds)) (λ j r. from_finished (by_demand newest) r)
              (λ j x t. let q = demand_value t in (q.0, q.1 ∙ w.value)) (told_rows e lawful v height begin rounds (told_rows e lawful v height begin opens h.told));
          standing = idle;
        }

    -- Every step keeps it.
    kept : {c : Call} {a : Answer V} {u : TableModel V} → Step bot same e s rows c a u → HoldsAt (event c a ∷ log) u.state u.rows
    kept (open_busy n) = kept_refused
    kept (open_none p l) = kept_refused
    kept (open_final p l q) = kept_refused
    kept (open_dangling p l n d) = kept_refused
    kept (open_done p l n whole opens) = kept_open (l, whole) n opens
    kept (round_done fits round) = kept_round fits round
    kept (round_unfit n) = kept_refused
    kept (close_none l) = kept_refused
    kept (close_unfit l n) = kept_refused
    kept (close_done l fits makes) = kept_close fits makes
    kept (give_open fits releases) = kept_give (now_in fits).1 releases
    kept (give_open_unfit n) = kept_gave_none
    kept (give_settled fits releases) = kept_give (now_in fits).1 releases
    kept (give_settled_unfit n) = kept_gave_none
    kept (demand_busy n) = kept_refused
    kept (demand_none p l) = kept_refused
    kept (demand_final {i = i} p l q) = kept_same refl (λ j x t. final_right i l q j x (demand_value t)) h.standing
    kept (demand_dangling p l n d) = kept_refused
    kept (demand_done p l n whole w) = kept_worked (l, whole) n (now_in p) w
    kept (read_none l) = kept_refused
    kept (read_not l n) = kept_refused
    kept (read_done {i = i} l p) = kept_same refl (λ j x t. final_right i l p j x (read_value t)) h.standing

  pub holds : Start bot le e begin → {log : Log V} {t : TableModel V} → Run bot same e begin log t → HoldsAt log t.state t.rows
  holds start none = holds_start start
  holds start (more r step) = kept (holds start r) step
