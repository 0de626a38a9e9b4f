-- Equality of a lattice's values is decided, and the rank rises with the value. Assumes nothing.
use Rattle.std.proofs.Common.{◌≡◌, ℕ, ◌+◌, ◌≤◌, Bool, true, false, cond, ◌⊎◌, sym, ap, subst, inl, inr, ⊎_elim, arith}
use Rattle.std.proofs.lemmas.Bool.{cases_Bool, both_ways}
use Rattle.lattices.specs.Laws.{LatticeLaws}

module _ {V : Type 0} {bot : V} {le : V → V → Type 0} {lub : V → V → V} {same : V → V → Bool} {height : ℕ} {rank : V → ℕ} (laws : LatticeLaws bot le lub same height rank) where
  pub le_from_eq : (x y : V) → x ≡ y → le x y
  le_from_eq x y p = subst (le x) p (laws.le_refl x)

  differ : (x y : V) → same x y ≡ false → x ≡ y → ⊥
  differ x y n q = both_ways (same x y) n ((laws.same_decides x y).1 q)

  pub same_cases : (x y : V) → (x ≡ y) ⊎ (x ≡ y → ⊥)
  same_cases x y = ⊎_elim (λ t. inl ((laws.same_decides x y).0 t)) (λ n. inr (differ x y n)) (cases_Bool (same x y))

  pub rank_le : (x y : V) → le x y → rank x ≤ rank y
  rank_le x y p = ⊎_elim (λ q. omega (arith, ap rank q)) (λ n. omega (arith, laws.rank_rises x y p n)) (same_cases x y)

  pub rank_same : (x y : V) → le x y → rank x ≡ rank y → x ≡ y
  rank_same x y p r = ⊎_elim (λ q. q) (λ n. absurd (omega (arith, laws.rank_rises x y p n))) (same_cases x y)

  -- A change to a value at or above the old one raises the rank.
  pub rank_gain : (x y : V) → le x y → rank x + cond (same y x) 0 1 ≤ rank y
  rank_gain x y p =
      ⊎_elim
      (λ (t : same y x ≡ true). rw t (omega (arith, rank_le x y p)))
      (λ (n : same y x ≡ false). rw n (omega (arith, laws.rank_rises x y p (λ q. differ y x n (sym q)))))
      (cases_Bool (same y x))
