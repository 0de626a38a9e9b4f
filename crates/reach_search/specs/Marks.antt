-- A mark for each instance, and a queue of those that are marked. Assumes nothing.
use Rattle.std.specs.Prelude.{◌≡◌, ℕ, ◌<◌, Bool, List, length, ◌==◌, slice_index}

-- Instance j is marked.
abbrev pub Marked : List ℕ → ℕ → Type 0
Marked marks j = (j < length marks) × (slice_index marks j ≡ 1)

-- The same as a test, of the marks alone.
abbrev pub is_marked : List ℕ → ℕ → Bool
is_marked marks j = slice_index marks j == 1

-- Instance j has one of the first `count` places of the queue.
abbrev pub HasPlace : List ℕ → ℕ → ℕ → Type 0
HasPlace queue count j = ∥ ((p : ℕ) × (p < count) × (slice_index queue p ≡ j)) ∥₁
