-- Fixed-point induction: what the bottom has, and equations pass on from operands, the least solution has. Assumes nothing.
use Rattle.std.proofs.Common.{ℕ, zero, suc, Bool, subst}
use Rattle.lattices.specs.Laws.{LatticeLaws}
use Rattle.equations.specs.Equations.{Equations, equation, Lawful}
use Rattle.equations.specs.Reach.{Uses, WholeInstance, Least}
use Rattle.equations.proofs.Least.{iterate, stationary, solution, solution_least, least_unique}
use Rattle.equations.proofs.Paths.{whole_operand}

module _ {V : Type 0} {bot : V} {le : V → V → Type 0} {lub : V → V → V} {same : V → V → Bool} {height : ℕ} {rank : V → ℕ} (laws : LatticeLaws bot le lub same height rank) (e : Equations V) (lawful : Lawful bot le e) where
  module _ (P : ℕ → V → Type 0) (base : (i : ℕ) → P i bot) (keep : (w : ℕ → V) (i : ℕ) → WholeInstance e i → ((j : ℕ) → Uses e i j → P j (w j)) → P i (equation e w i)) where
    iterate_has : (t i : ℕ) → WholeInstance e i → P i (iterate e bot t i)
    iterate_has zero i whole = base i
    iterate_has (suc t) i whole =
        keep (iterate e bot t) i whole (λ j u. iterate_has t j (whole_operand e lawful i j whole u))

    solution_has : (i : ℕ) → WholeInstance e i → P i (solution laws e lawful.step_mono i)
    unfolding solution
    solution_has = iterate_has (stationary laws e lawful.step_mono).0

  pub least_induction : (v : ℕ → V) → Least le e v → (P : ℕ → V → Type 0) → ((i : ℕ) → P i bot) → ((w : ℕ → V) (i : ℕ) → WholeInstance e i → ((j : ℕ) → Uses e i j → P j (w j)) → P i (equation e w i)) → (i : ℕ) → WholeInstance e i → P i (v i)
  least_induction v least P base keep i whole =
      subst (P i)
      (least_unique laws e (solution laws e lawful.step_mono) v (solution_least laws e lawful) least i whole)
      (solution_has P base keep i whole)
