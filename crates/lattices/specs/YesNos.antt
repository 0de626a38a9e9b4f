-- Bool is the lattice of no and yes, with no at the bottom. Assumes nothing.
use Rattle.std.specs.Prelude.{◌≡◌, ℕ, Bool, true, false, cond, ◌||◌}
use Rattle.std.specs.Bool.{beq}
use Rattle.std.proofs.Common.{rules}
use Rattle.lattices.specs.Laws.{LatticeLaws}

-- No is below yes.
abbrev pub yes_le : Bool → Bool → Type 0
yes_le x y = x ≡ true → y ≡ true

-- No has the rank 0, yes the rank 1.
abbrev pub yes_rank : Bool → ℕ
yes_rank x = cond x 1 0

-- The join is `||`, equality is `beq`, and the height is 1.
pub yes_laws : LatticeLaws false yes_le ◌||◌ beq 1 yes_rank
yes_laws = search rules
