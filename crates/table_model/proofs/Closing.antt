-- A close makes the pending rows final, and their values are the least solution's. Assumes nothing.
use Rattle.std.proofs.Common.{◌≡◌, ℕ, ◌+◌, ◌<◌, ◌≤◌, cond, ◌⊎◌, sym, ap, ◌∙◌, inl, inr, ⊎_elim, arith}
use Rattle.equations.specs.Equations.{Equations, Lawful}
use Rattle.equations.specs.Rounds.{members}
use Rattle.equations.proofs.Paths.{whole_instance_reach}
use Rattle.table_model.specs.declared.row.Mark.TheVariants.{Pending, Final}
use Rattle.table_model.specs.Rows.{Rows, pending, MadeFinal}
use Rattle.table_model.proofs.Sets.{total_both}
use Rattle.table_model.proofs.Marks.{final, pending_not_final, cases_mark, cases_pending}
use Rattle.table_model.proofs.Finals.{Finals}
use Rattle.table_model.proofs.Sessions.{Session, AtLeast}

module _ {V : Type 0} {bot : V} {le : V → V → Type 0} (e : Equations V) (lawful : Lawful bot le e) {before after : Rows V} (makes : MadeFinal bot e before after) where
  pub made_mark : (j : ℕ) → j < e.size → ((before j).mark ≡ Pending) ⊎ ((before j).mark ≡ Final) → (after j).mark ≡ Final
  made_mark j l =
      ⊎_elim (λ p. ap (λ x. x.mark) (makes.made j l p)) (λ p. ap (λ x. x.mark) (makes.kept j l (λ q. pending_not_final (before j).mark q p)) ∙ p)

  pub made_back : (j : ℕ) → j < e.size → (after j).mark ≡ Final → (((before j).mark ≡ Pending) ⊎ ((before j).mark ≡ Final)) × ((after j).value ≡ (before j).value)
  made_back j l f =
      ⊎_elim (λ p. (inl p, ap (λ x. x.value) (makes.made j l p)))
      (λ n. let same = makes.kept j l n in (inr (ap (λ x. x.mark) (sym same) ∙ f), ap (λ x. x.value) same)) (cases_pending (before j).mark)

  pub made_finals : {v : ℕ → V} {i : ℕ} → Finals e v before → Session le e v i before → AtLeast e v before → Finals e v after
  made_finals {i = i} finals session least =
      record {
        closed = λ j k l f u.
            made_mark k (lawful.operand_within j u.0 k u.2)
            (⊎_elim (λ p. session.uses j k l p u) (λ p. inr (finals.closed j k l p u)) (made_back j l f).0);
        whole = λ j l f.
            ⊎_elim (λ p. whole_instance_reach e lawful i j session.whole (session.reached j l p)) (finals.whole j l) (made_back j l f).0;
        at = λ j l f. let b = made_back j l f in b.1 ∙ ⊎_elim (least j l) (finals.at j l) b.0;
      }

  pub made_members : members (final before) e.size + members (pending before) e.size ≤ members (final after) e.size
  made_members =
      total_both (λ j. cond (final before j) 1 0) (λ j. cond (pending before j) 1 0) (λ j. cond (final after j) 1 0) e.size
      (λ j l.
      ⊎_elim
      (λ p. let q : (after j).mark ≡ Final = made_mark j l (inr p) in rw (p, q) (omega arith))
      (⊎_elim
      (λ p. let q : (after j).mark ≡ Final = made_mark j l (inl p) in rw (p, q) (omega arith))
      (λ p. rw p (omega arith)))
      (cases_mark (before j).mark))
