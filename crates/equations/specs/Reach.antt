-- What an instance depends on, and the least solution. Assumes nothing.
use Rattle.std.specs.Prelude.{◌≡◌, ℕ, ◌<◌, Ok, Err}
use Rattle.references.specs.declared.Dangling.{Dangling}
use Rattle.equations.specs.Equations.{Equations, equation}

-- The reach of i: i, its operands, their operands, and so on.
pub data Reach {V : Type 0} (e : Equations V) : ℕ → ℕ → Type 0 where
  here : {i : ℕ} → Reach e i i
  along : {i j k : ℕ} (o : ℕ) → o < e.count i → e.operand i o ≡ Ok j → Reach e j k → Reach e i k

-- j is an operand of i.
abbrev pub Uses : {V : Type 0} → Equations V → ℕ → ℕ → Type 0
Uses e i j = (o : ℕ) × (o < e.count i) × (e.operand i o ≡ Ok j)

-- Operand o of j dangles, by d.
abbrev pub DanglesAt : {V : Type 0} → Equations V → ℕ → ℕ → Dangling → Type 0
DanglesAt e j o d = (o < e.count j) × (e.operand j o ≡ Err d)

-- Some instance in the reach of i has a dangling operand.
abbrev pub ReachesDangling : {V : Type 0} → Equations V → ℕ → Type 0
ReachesDangling e i = (j : ℕ) × (o : ℕ) × (d : Dangling) × Reach e i j × DanglesAt e j o d

-- No instance in the reach of i has a dangling operand.
abbrev pub Whole : {V : Type 0} → Equations V → ℕ → Type 0
Whole e i = ReachesDangling e i → ⊥

abbrev pub WholeInstance : {V : Type 0} → Equations V → ℕ → Type 0
WholeInstance e i = (i < e.size) × Whole e i

-- The family v gives each whole instance a value that satisfies its equation, and it is at or below every family w
-- that is at or above its equations' values over w at the whole instances.
pub record Least {V : Type 0} (le : V → V → Type 0) (e : Equations V) (v : ℕ → V) : Type 0 where
  pub solves : (i : ℕ) → WholeInstance e i → v i ≡ equation e v i
  pub least : (w : ℕ → V) → ((i : ℕ) → WholeInstance e i → le (equation e w i) (w i)) → (i : ℕ) → WholeInstance e i → le (v i) (w i)
