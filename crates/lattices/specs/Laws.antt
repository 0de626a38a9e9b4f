-- What a lattice of finite height is. Assumes nothing.
use Rattle.std.specs.Prelude.{◌≡◌, ℕ, ◌<◌, ◌≤◌, Bool, Decides, ◌≢◌}

-- The rules for a bottom, an order, a join, an equality, a height and a rank of the values of V.
pub record LatticeLaws {V : Type 0} (bot : V) (le : V → V → Type 0) (lub : V → V → V) (same : V → V → Bool) (height : ℕ) (rank : V → ℕ) : Type 0 where
  -- The order is partial, with the bottom least.
  pub le_refl : (x : V) → le x x
  pub le_trans : (x y z : V) → le x y → le y z → le x z
  pub le_antisym : (x y : V) → le x y → le y x → x ≡ y
  pub bot_le : (x : V) → le bot x
  -- A join is the least upper bound.
  pub le_lub_left : (x y : V) → le x (lub x y)
  pub le_lub_right : (x y : V) → le y (lub x y)
  pub lub_le : (x y z : V) → le x z → le y z → le (lub x y) z
  -- Equality says yes exactly for equal values.
  pub same_decides : (x y : V) → Decides (same x y) (x ≡ y)
  -- Each value has a rank from 0 to the height, greater for a greater value.
  pub rank_within : (x : V) → rank x ≤ height
  pub rank_rises : (x y : V) → le x y → (x ≢ y) → rank x < rank y
