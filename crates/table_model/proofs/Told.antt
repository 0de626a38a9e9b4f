-- What the calls of a run tell of the final rows, and how a call adds to it. Assumes nothing.
use Rattle.std.proofs.Common.{◌≡◌, ℕ, ◌+◌, ◌*◌, ◌<◌, ◌≤◌, ◌⊎◌, [], ◌∷◌, refl, ap, ◌∙◌, subst, inl, inr, ⊎_elim, mul-le-mul_right, arith}
use Rattle.equations.specs.Equations.{Equations, Lawful}
use Rattle.equations.specs.Reach.{Reach}
use Rattle.equations.specs.Rounds.{members}
use Rattle.table_model.specs.declared.row.Mark.TheVariants.{Final}
use Rattle.table_model.specs.Calls.{Call, Result, Answer, TableModel}
use Rattle.table_model.specs.Rows.{Rows, is_pending, pending, MadeFinal, pending_count}
use Rattle.table_model.specs.Runs.{Event, Log, event, In, newest, older, Finished, by_close, by_demand, ToldFinal, from_begin, from_finished, rounds_of, told_rounds}
use Rattle.table_model.proofs.Sets.{members_some, rounds_within}
use Rattle.table_model.proofs.Marks.{final}
use Rattle.table_model.proofs.Tells.{Tells}
use Rattle.table_model.proofs.Finals.{SameFinals, same_mark, same_members}
use Rattle.table_model.proofs.Sessions.{Session, AtLeast}
use Rattle.table_model.proofs.Closing.{made_mark, made_back, made_members}

-- Row i is final, and x is its value of v.
abbrev pub RightAt : {V : Type 0} → Equations V → (ℕ → V) → Rows V → ℕ → V → Type 0
RightAt e v rows i x = (i < e.size) × ((rows i).mark ≡ Final) × (x ≡ v i)

-- The final rows are those told final, the told values are theirs, and the told rounds are few.
pub record Told {V : Type 0} (e : Equations V) (v : ℕ → V) (height : ℕ) (begin : TableModel V) (log : Log V) (rows : Rows V) : Type 0 where
  pub kept : (j : ℕ) → j < e.size → (begin.rows j).mark ≡ Final → (rows j).mark ≡ Final
  pub told : (j : ℕ) → j < e.size → (rows j).mark ≡ Final → ToldFinal e begin log j
  pub answered : (c : Call) (a : Answer V) (i : ℕ) (x : V) → In (event c a) log → Tells c a i x → RightAt e v rows i x
  pub few : told_rounds log ≤ members (final rows) e.size * (height + 1)

pub in_cases : {V : Type 0} {x y : Event V} {log : Log V} → In x (y ∷ log) → (x ≡ y) ⊎ In x log
in_cases newest = inl refl
in_cases (older p) = inr p

-- No event is in the empty log.
pub in_none : {V : Type 0} {x : Event V} → In x [] → ⊥
in_none p = elim p [ ]

finished_older : {V : Type 0} {y : Event V} {log : Log V} {i : ℕ} {r : Result V} → Finished log i r → Finished (y ∷ log) i r
finished_older (by_close p) = by_close (older p)
finished_older (by_demand p) = by_demand (older p)

told_older : {V : Type 0} {e : Equations V} {begin : TableModel V} {y : Event V} {log : Log V} {j : ℕ} → ToldFinal e begin log j → ToldFinal e begin (y ∷ log) j
told_older (from_begin p) = from_begin p
told_older (from_finished f r) = from_finished (finished_older f) r

module _ {V : Type 0} {bot : V} {le : V → V → Type 0} (e : Equations V) (lawful : Lawful bot le e) (v : ℕ → V) (height : ℕ) (begin : TableModel V) where
  -- The table changes, and its final rows do not.
  pub told_rows : {log : Log V} {before after : Rows V} → SameFinals e before after → Told e v height begin log before → Told e v height begin log after
  told_rows same t =
      record {
        kept = λ j l p. same_mark e lawful same j l (t.kept j l p);
        told = λ j l p. t.told j l (same.back j l p);
        answered = λ c a i x p q. let r = t.answered c a i x p q in (r.0, same_mark e lawful same i r.0 r.1, r.2);
        few = omega (arith, t.few, mul-le-mul_right (height + 1) (same_members e lawful same));
      }

  module _ {log : Log V} {c : Call} {a : Answer V} where
    -- What holds of the values told before and of those that the call tells, holds of all.
    answered_more : {P : ℕ → V → Type 0} → ((d : Call) (b : Answer V) (i : ℕ) (x : V) → In (event d b) log → Tells d b i x → P i x) → ((i : ℕ) (x : V) → Tells c a i x → P i x) → (d : Call) (b : Answer V) (i : ℕ) (x : V) → In (event d b) (event c a ∷ log) → Tells d b i x → P i x
    answered_more old new d b i x p q =
        ⊎_elim (λ same. new i x (subst (λ y. Tells y.call y.answer i x) same q)) (λ p. old d b i x p q) (in_cases p)

    -- A call with no rounds, that tells no value or that of a final row.
    pub told_more : {rows : Rows V} → rounds_of a ≡ 0 → ((i : ℕ) (x : V) → Tells c a i x → RightAt e v rows i x) → Told e v height begin log rows → Told e v height begin (event c a ∷ log) rows
    told_more z new t =
        record {
          kept = t.kept;
          told = λ j l p. told_older (t.told j l p);
          answered = answered_more t.answered new;
          few = omega (arith, z, t.few);
        }

    -- A call that makes the pending rows of a session at i final, and tells no value but that of i.
    pub made_told : {i : ℕ} {before after : Rows V} → Session le e v i before → AtLeast e v before → MadeFinal bot e before after → rounds_of a ≤ pending_count bot e before * height + 1 → ((j : ℕ) → Reach e i j → ToldFinal e begin (event c a ∷ log) j) → ((j : ℕ) (x : V) → Tells c a j x → (i ≡ j) × (x ≡ (before i).value)) → Told e v height begin log before → Told e v height begin (event c a ∷ log) after
    made_told {i = i} {before = before} {after = after} session least makes few reason new t =
        let within = session.whole.0 in
        let old : (j : ℕ) (x : V) → RightAt e v before j x → RightAt e v after j x = λ j x r. (r.0, made_mark e lawful makes j r.0 (inr r.1), r.2) in
        let now : (j : ℕ) (x : V) → Tells c a j x → RightAt e v after j x =
        λ j x q. let n = new j x q in subst (λ k. RightAt e v after k x) n.0 (within, made_mark e lawful makes i within (inl session.asked), n.1 ∙ least i within session.asked) in
        record {
          kept = λ j l p. made_mark e lawful makes j l (inr (t.kept j l p));
          told = λ j l f. ⊎_elim (λ p. reason j (session.reached j l p)) (λ p. told_older (t.told j l p)) (made_back e lawful makes j l f).0;
          answered = answered_more (λ d b j x p q. old j x (t.answered d b j x p q)) now;
          few = omega (
            arith,
            t.few,
            rounds_within (members (final before) e.size) (pending_count bot e before) (members (final after) e.size) height (rounds_of a) (made_members e lawful makes)
                (members_some (pending before) e.size i within (ap is_pending session.asked)) few,
          );
        }
