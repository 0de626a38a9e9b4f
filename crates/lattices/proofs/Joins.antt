-- A value is at or below another where their join is the other. Assumes nothing.
use Rattle.std.proofs.Common.{ℕ, Bool, Decides, subst}
use Rattle.std.proofs.lemmas.Bool.Decides.{Decides-like}
use Rattle.lattices.specs.Laws.{LatticeLaws}

pub join_decides : {V : Type 0} {bot : V} {le : V → V → Type 0} {lub : V → V → V} {same : V → V → Bool} {height : ℕ} {rank : V → ℕ} → LatticeLaws bot le lub same height rank → (x y : V) → Decides (same (lub x y) y) (le x y)
join_decides {le = le} {lub = lub} {same = same} laws x y =
    Decides-like (same (lub x y) y) (λ e. subst (le x) e (laws.le_lub_left x y))
    (λ p. laws.le_antisym (lub x y) y (laws.lub_le x y y p (laws.le_refl y)) (laws.le_lub_right x y))
    (laws.same_decides (lub x y) y)
