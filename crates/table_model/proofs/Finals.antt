-- The final rows: what holds of them, and which changes of the rows keep them. Assumes nothing.
use Rattle.std.proofs.Common.{◌≡◌, ℕ, ◌<◌, ◌≤◌, sym, ap, ◌∙◌, ⊎_elim}
use Rattle.equations.specs.Equations.{Equations, Lawful}
use Rattle.equations.specs.Reach.{Reach, here, along, Uses, WholeInstance}
use Rattle.equations.specs.Rounds.{rounds, members}
use Rattle.equations.proofs.Decided.{reach_decided}
use Rattle.equations.proofs.Turns.{rounds_outside}
use Rattle.table_model.specs.declared.row.Mark.TheVariants.{Untouched, Pending, Final}
use Rattle.table_model.specs.declared.row.Row.{Row}
use Rattle.table_model.specs.Rows.{Rows, is_pending, pending, values, row, Opened, Released}
use Rattle.table_model.proofs.Sets.{members_le}
use Rattle.table_model.proofs.Marks.{is_final, final, final_from, pending_not_final, untouched_not_final, cases_mark, cases_final, cases_pending}

-- The final rows hold their operands, and are whole and at their values of v.
pub record Finals {V : Type 0} (e : Equations V) (v : ℕ → V) (rows : Rows V) : Type 0 where
  pub closed : (i j : ℕ) → i < e.size → (rows i).mark ≡ Final → Uses e i j → (rows j).mark ≡ Final
  pub whole : (i : ℕ) → i < e.size → (rows i).mark ≡ Final → WholeInstance e i
  pub at : (i : ℕ) → i < e.size → (rows i).mark ≡ Final → (rows i).value ≡ v i

-- The same rows are final, with the same values.
pub record SameFinals {V : Type 0} (e : Equations V) (before after : Rows V) : Type 0 where
  pub kept : (j : ℕ) → j < e.size → (before j).mark ≡ Final → after j ≡ before j
  pub back : (j : ℕ) → j < e.size → (after j).mark ≡ Final → (before j).mark ≡ Final

module _ {V : Type 0} {bot : V} {le : V → V → Type 0} (e : Equations V) (lawful : Lawful bot le e) where
  -- What a final row reaches is final.
  pub final_reach : {v : ℕ → V} {rows : Rows V} → Finals e v rows → {i j : ℕ} → i < e.size → (rows i).mark ≡ Final → Reach e i j → (rows j).mark ≡ Final
  final_reach f l p here = p
  final_reach f l p (along {i = i} {j = k} o m q r) =
      final_reach f (lawful.operand_within i o k q) (f.closed i k l p (o, m, q)) r

  module _ {before after : Rows V} (same : SameFinals e before after) where
    pub same_mark : (j : ℕ) → j < e.size → (before j).mark ≡ Final → (after j).mark ≡ Final
    same_mark j l p = ap (λ x. x.mark) (same.kept j l p) ∙ p

    pub finals_same : {v : ℕ → V} → Finals e v before → Finals e v after
    finals_same f =
        record {
          closed = λ i j l p u. same_mark j (lawful.operand_within i u.0 j u.2) (f.closed i j l (same.back i l p) u);
          whole = λ i l p. f.whole i l (same.back i l p);
          at = λ i l p. let q = same.back i l p in ap (λ x. x.value) (same.kept i l q) ∙ f.at i l q;
        }

    pub same_members : members (final before) e.size ≤ members (final after) e.size
    same_members =
        members_le (final before) (final after) e.size (λ j l t. ap is_final (same_mark j l (final_from (before j).mark t)))

  -- What an opening at i leaves at j.
  pub data OpenedAt (i j : ℕ) (before after : Row V) : Type 0 where
    as_final : before.mark ≡ Final → after ≡ before → OpenedAt i j before after
    as_pending : (before.mark ≡ Final → ⊥) → Reach e i j → after ≡ row Pending bot → OpenedAt i j before after
    as_untouched : (before.mark ≡ Final → ⊥) → after.mark ≡ Untouched → OpenedAt i j before after

  module _ {before after : Rows V} where
    module _ {i : ℕ} (within : i < e.size) (opens : Opened bot e i before after) where
      pub opened_at : (j : ℕ) → j < e.size → OpenedAt i j (before j) (after j)
      opened_at j l =
          ⊎_elim
          (λ p. as_final p (opens.final j l p))
          (λ n.
          ⊎_elim
          (λ r. as_pending n r (opens.reached j l n r))
          (λ far.
          as_untouched n
          (⊎_elim (λ p. absurd (n p))
          (⊎_elim (λ p. ap (λ x. x.mark) (opens.released j l p far)) (λ p. ap (λ x. x.mark) (opens.untouched j l p far) ∙ p))
          (cases_mark (before j).mark)))
          (reach_decided e lawful i j within))
          (cases_final (before j).mark)

      final_back : (j : ℕ) → OpenedAt i j (before j) (after j) → (after j).mark ≡ Final → (before j).mark ≡ Final
      final_back j (as_final p q) f = p
      final_back j (as_pending n r q) f = absurd (pending_not_final (after j).mark (ap (λ x. x.mark) q) f)
      final_back j (as_untouched n q) f = absurd (untouched_not_final (after j).mark q f)

      pub opened_finals : SameFinals e before after
      opened_finals = record { kept = opens.final; back = λ j l. final_back j (opened_at j l) }

    -- Rounds leave every row outside the set.
    pub rounds_finals : (k : ℕ) → ((j : ℕ) → (after j).mark ≡ (before j).mark) → ((j : ℕ) → (after j).value ≡ rounds e (pending before) k (values before) j) → SameFinals e before after
    rounds_finals k marks worked =
        record {
          kept = λ j l p. let q = worked j ∙ rounds_outside e (pending before) (values before) k j (ap is_pending p) in λ d. record { mark = marks j d; value = q d };
          back = λ j l p. sym (marks j) ∙ p;
        }

    pub released_finals : Released bot e before after → SameFinals e before after
    released_finals r =
        record {
          kept = λ j l p. r.kept j l (λ q. pending_not_final (before j).mark q p);
          back = λ j l p.
              ⊎_elim
              (λ q. absurd (untouched_not_final (after j).mark (ap (λ x. x.mark) (r.released j l q)) p))
              (λ n. ap (λ x. x.mark) (sym (r.kept j l n)) ∙ p)
              (cases_pending (before j).mark);
        }
