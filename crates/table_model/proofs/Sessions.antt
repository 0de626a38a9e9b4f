-- The pending rows of a session: opened at the bottom, kept by rounds, at the least solution's values when a round changes nothing. Assumes nothing.
use Rattle.std.proofs.Common.{◌≡◌, ℕ, suc, ◌+◌, ◌*◌, ◌<◌, ◌≤◌, Bool, ◌⊎◌, sym, ap, ◌∙◌, subst, inl, inr, ⊎_elim}
use mathlib.Core.Path.{fun_ext}
use Rattle.lattices.specs.Laws.{LatticeLaws}
use Rattle.equations.specs.Equations.{Equations, Lawful}
use Rattle.equations.specs.Reach.{Reach, here, Uses, WholeInstance, Least}
use Rattle.equations.specs.Rounds.{changes, rounds, round_changes}
use Rattle.equations.specs.Theory.{AtBottom}
use Rattle.equations.proofs.Paths.{reach_trans, reach_uses, whole_instance_reach}
use Rattle.equations.proofs.Rising.{Rising, ranks, round_risen, rounds_rising, rounds_rise, ranks_within, bottom_rising}
use Rattle.equations.proofs.ToLeast.{Low, LowClosed, rounds_low, rounds_to_least, bottom_low}
use Rattle.table_model.specs.declared.row.Mark.TheVariants.{Pending, Final}
use Rattle.table_model.specs.Rows.{Rows, is_pending, pending, values, Opened, pending_count}
use Rattle.table_model.proofs.Marks.{pending_from, pending_not_final, untouched_not_pending, cases_final}
use Rattle.table_model.proofs.Finals.{Finals, OpenedAt, as_final, as_pending, as_untouched, opened_at}

-- The rows of a session at i: i is whole and pending; the pending rows are in its reach, and their operands pending or final;
-- their values are at or below their equations' values, and those of v.
pub record Session {V : Type 0} (le : V → V → Type 0) (e : Equations V) (v : ℕ → V) (i : ℕ) (rows : Rows V) : Type 0 where
  pub whole : WholeInstance e i
  pub asked : (rows i).mark ≡ Pending
  pub reached : (j : ℕ) → j < e.size → (rows j).mark ≡ Pending → Reach e i j
  pub uses : (j k : ℕ) → j < e.size → (rows j).mark ≡ Pending → Uses e j k → ((rows k).mark ≡ Pending) ⊎ ((rows k).mark ≡ Final)
  pub low : Low le e v (pending rows) (values rows)
  pub rising : Rising le e (pending rows) (values rows)

-- The pending rows are at their values of v.
abbrev pub AtLeast : {V : Type 0} → Equations V → (ℕ → V) → Rows V → Type 0
AtLeast e v rows = (j : ℕ) → j < e.size → (rows j).mark ≡ Pending → (rows j).value ≡ v j

-- The sum of the ranks of the pending rows.
abbrev pub row_ranks : {V : Type 0} → (V → ℕ) → Equations V → Rows V → ℕ
row_ranks rank e rows = ranks rank e (pending rows) (values rows)

-- The rows after k rounds over the pending rows.
pub record AfterRounds {V : Type 0} (e : Equations V) (k : ℕ) (before after : Rows V) : Type 0 where
  pub marks : (j : ℕ) → (after j).mark ≡ (before j).mark
  pub worked : (j : ℕ) → (after j).value ≡ rounds e (pending before) k (values before) j

-- What holds of the pending rows and their values after the rounds holds of the rows.
pub after_rounds : {V : Type 0} (e : Equations V) {k : ℕ} {before after : Rows V} → AfterRounds e k before after → (P : (ℕ → Bool) → (ℕ → V) → Type 0) → P (pending before) (rounds e (pending before) k (values before)) → P (pending after) (values after)
after_rounds e {before = before} {after = after} a P p =
    subst (λ s. P s (values after)) (fun_ext (λ j. ap is_pending (sym (a.marks j))))
    (subst (P (pending before)) (fun_ext (λ j. sym (a.worked j))) p)

module _ {V : Type 0} {bot : V} {le : V → V → Type 0} {lub : V → V → V} {same : V → V → Bool} {height : ℕ} {rank : V → ℕ} (laws : LatticeLaws bot le lub same height rank) (e : Equations V) (lawful : Lawful bot le e) (v : ℕ → V) (least : Least le e v) where
  pub few_ranks : (rows : Rows V) → row_ranks rank e rows ≤ pending_count bot e rows * height
  few_ranks rows = ranks_within laws e lawful (pending rows) (values rows)

  module _ {i : ℕ} {rows : Rows V} (finals : Finals e v rows) (session : Session le e v i rows) where
    session_closed : LowClosed bot le same height e v (pending rows) (values rows)
    session_closed = (
      session.low,
      λ j l t.
          let p = pending_from (rows j).mark t in (
            whole_instance_reach e lawful i j session.whole (session.reached j l p),
            λ k u.
                let m = lawful.operand_within j u.0 k u.2 in
                ⊎_elim (λ q. inl (ap is_pending q)) (λ q. inr (finals.whole k m q, finals.at k m q)) (session.uses j k l p u),
          ),
    )

    module _ {k : ℕ} {after : Rows V} (worked : AfterRounds e k rows after) where
      pub rounds_session : Session le e v i after
      rounds_session =
          record {
            whole = session.whole;
            asked = worked.marks i ∙ session.asked;
            reached = λ j l p. session.reached j l (sym (worked.marks j) ∙ p);
            uses = λ j k l p u. ⊎_elim (λ q. inl (worked.marks k ∙ q)) (λ q. inr (worked.marks k ∙ q)) (session.uses j k l (sym (worked.marks j) ∙ p) u);
            low = after_rounds e worked (Low le e v) (rounds_low laws e lawful v least (pending rows) (values rows) session_closed k).0;
            rising = after_rounds e worked (Rising le e) (rounds_rising laws e lawful (pending rows) (values rows) session.rising k);
          }

      -- If the next round changes nothing, the rows are at the least solution.
      pub rounds_least : round_changes same e (pending rows) k (values rows) ≡ 0 → AtLeast e v after
      rounds_least z j l p =
          worked.worked j ∙ (rounds_to_least laws e lawful v least (pending rows) (values rows) session_closed).least k z j l (ap is_pending (sym (worked.marks j) ∙ p))

    -- A round that changes nothing leaves the rows.
    pub round_still : {k : ℕ} {after : Rows V} → AfterRounds e (suc k) rows after → round_changes same e (pending rows) k (values rows) ≡ 0 → AfterRounds e k rows after
    round_still {k = k} worked z =
        record {
          marks = worked.marks;
          worked = λ j. worked.worked j ∙ (rounds_rise laws e lawful (pending rows) (values rows) session.rising).still k z j;
        }

    -- A round adds its changes to the ranks.
    pub round_ranks : {after : Rows V} → AfterRounds e 1 rows after → row_ranks rank e rows + changes same e (pending rows) e.size (values rows) ≤ row_ranks rank e after
    round_ranks worked =
        after_rounds e worked (λ s w. row_ranks rank e rows + changes same e (pending rows) e.size (values rows) ≤ ranks rank e s w)
        (round_risen laws e lawful (pending rows) (values rows) session.rising).gains

    -- At most N × H rounds in a row change a value.
    pub rounds_few : (k : ℕ) → ((j : ℕ) → j < k → 0 < round_changes same e (pending rows) j (values rows)) → k ≤ pending_count bot e rows * height
    rounds_few = (rounds_rise laws e lawful (pending rows) (values rows) session.rising).few

  -- An opening begins a session.
  module _ {i : ℕ} {before after : Rows V} (whole : WholeInstance e i) (new : (before i).mark ≡ Final → ⊥) (opens : Opened bot e i before after) where
    pending_at : (j : ℕ) → OpenedAt e lawful i j (before j) (after j) → (after j).mark ≡ Pending → Reach e i j × ((after j).value ≡ bot)
    pending_at j (as_final p q) t = absurd (pending_not_final (after j).mark t (ap (λ x. x.mark) q ∙ p))
    pending_at j (as_pending n r q) t = (r, ap (λ x. x.value) q)
    pending_at j (as_untouched n q) t = absurd (untouched_not_pending (after j).mark q t)

    opened_pending : (j : ℕ) → j < e.size → (after j).mark ≡ Pending → Reach e i j × ((after j).value ≡ bot)
    opened_pending j l = pending_at j (opened_at e lawful whole.0 opens j l)

    opened_uses : (j k : ℕ) → j < e.size → (after j).mark ≡ Pending → Uses e j k → ((after k).mark ≡ Pending) ⊎ ((after k).mark ≡ Final)
    opened_uses j k l p u =
        let m = lawful.operand_within j u.0 k u.2 in
        ⊎_elim
        (λ q. inr (ap (λ x. x.mark) (opens.final k m q) ∙ q))
        (λ n. inl (ap (λ x. x.mark) (opens.reached k m n (reach_trans (opened_pending j l p).0 (reach_uses u)))))
        (cases_final (before k).mark)

    opened_bottom : AtBottom bot le same height e (pending after) (values after)
    opened_bottom j l t = (opened_pending j l (pending_from (after j).mark t)).1

    pub opened_session : Session le e v i after
    opened_session =
        record {
          whole = whole;
          asked = ap (λ x. x.mark) (opens.reached i whole.0 new here);
          reached = λ j l p. (opened_pending j l p).0;
          uses = opened_uses;
          low = bottom_low laws e lawful v least (pending after) (values after) opened_bottom;
          rising = bottom_rising laws e lawful (pending after) (values after) opened_bottom;
        }
