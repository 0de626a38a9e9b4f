-- The theory of a lawful system over a lattice. Assumes nothing.
use Rattle.std.specs.Prelude.{◌≡◌, ℕ, suc, ◌*◌, ◌<◌, ◌≤◌, Bool, true, false, ◌⊎◌}
use Rattle.equations.specs.Equations.{Equations}
use Rattle.equations.specs.Reach.{Reach, Uses, ReachesDangling, Whole, WholeInstance, Least}
use Rattle.equations.specs.Rounds.{rounds, round_changes, members}

module _ {V : Type 0} (bot : V) (le : V → V → Type 0) (same : V → V → Bool) (height : ℕ) (e : Equations V) where
  -- The instances of the set are at the bottom.
  abbrev pub AtBottom : (ℕ → Bool) → (ℕ → V) → Type 0
  AtBottom s w = (i : ℕ) → i < e.size → s i ≡ true → w i ≡ bot

  -- Rounds over a set from the bottom, whatever the values outside the set are.
  pub record RoundsRise (s : ℕ → Bool) (w : ℕ → V) : Type 0 where
    -- Each round gives each instance a value at or above the one before.
    pub rises : (k i : ℕ) → le (rounds e s k w i) (rounds e s (suc k) w i)
    -- No value outside the set changes.
    pub outside : (k i : ℕ) → s i ≡ false → rounds e s k w i ≡ w i
    -- At most N × H rounds in a row change a value, where the set has N instances.
    pub few : (k : ℕ) → ((j : ℕ) → j < k → 0 < round_changes same e s j w) → k ≤ members s e.size * height
    -- A round that counts no change changes nothing.
    pub still : (k : ℕ) → round_changes same e s k w ≡ 0 → (i : ℕ) → rounds e s (suc k) w i ≡ rounds e s k w i

  -- Each instance of the set is whole, and each of its operands is in the set, or whole and at its value of v.
  abbrev pub Closed : (ℕ → V) → (ℕ → Bool) → (ℕ → V) → Type 0
  Closed v s w =
      (i : ℕ) → i < e.size → s i ≡ true →
      WholeInstance e i × ((j : ℕ) → Uses e i j → (s j ≡ true) ⊎ (WholeInstance e j × (w j ≡ v j)))

  -- Rounds over a closed set from the bottom.
  pub record RoundsToLeast (v : ℕ → V) (s : ℕ → Bool) (w : ℕ → V) : Type 0 where
    -- They stay at or below the least solution.
    pub low : (k i : ℕ) → i < e.size → s i ≡ true → le (rounds e s k w i) (v i)
    -- Where a round counts no change, they are at the least solution.
    pub least : (k : ℕ) → round_changes same e s k w ≡ 0 → (i : ℕ) → i < e.size → s i ≡ true → rounds e s k w i ≡ v i

  pub record Theory : Type 0 where
    -- Reach is decided.
    pub reach_decided : (i j : ℕ) → i < e.size → Reach e i j ⊎ (Reach e i j → ⊥)
    -- An instance is whole or reaches a dangling name.
    pub whole_decided : (i : ℕ) → i < e.size → Whole e i ⊎ ReachesDangling e i
    -- There is a least solution.
    pub least_exists : (v : ℕ → V) × Least le e v
    -- Any two agree on the whole instances.
    pub least_unique : (v w : ℕ → V) → Least le e v → Least le e w → (i : ℕ) → WholeInstance e i → v i ≡ w i
    pub rounds_rise : (s : ℕ → Bool) (w : ℕ → V) → AtBottom s w → RoundsRise s w
    pub rounds_to_least : (v : ℕ → V) → Least le e v → (s : ℕ → Bool) (w : ℕ → V) → AtBottom s w → Closed v s w → RoundsToLeast v s w
