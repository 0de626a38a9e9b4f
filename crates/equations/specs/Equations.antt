-- A system of equations over the values of a lattice. Assumes nothing.
use Rattle.std.specs.Prelude.{◌≡◌, ℕ, zero, suc, ◌<◌, ◌≤◌, Ok, Err, Result}
use Rattle.references.specs.declared.Dangling.{Dangling}

-- An operand of an instance: an instance, or a reference that dangles.
abbrev pub Operand : Type 0
Operand = Result ℕ Dangling

-- The instances are numbered from 0. Each has operands, a start value, and a step for each operand, from the value so far and the operand's value.
pub record Equations (V : Type 0) : Type 0 where
  pub size : ℕ
  pub count : ℕ → ℕ
  pub operand : ℕ → ℕ → Operand
  pub start : ℕ → V
  pub step : ℕ → ℕ → V → V → V

-- The rules of a system.
pub record Lawful {V : Type 0} (bot : V) (le : V → V → Type 0) (e : Equations V) : Type 0 where
  pub size_within : e.size ≤ 4096
  pub count_within : (i : ℕ) → e.count i ≤ 4096
  -- An operand is an instance of the system, or it dangles.
  pub operand_within : (i k j : ℕ) → e.operand i k ≡ Ok j → j < e.size
  -- Each step is monotone in the value so far and in the operand's value.
  pub step_mono : (i k : ℕ) (x y v w : V) → le x y → le v w → le (e.step i k x v) (e.step i k y w)
  -- Past the last instance there is no operand, and the start is the bottom.
  pub count_past : (i : ℕ) → e.size ≤ i → e.count i ≡ 0
  pub start_past : (i : ℕ) → e.size ≤ i → e.start i ≡ bot
  -- Past its last operand an instance has one that dangles at 65,535, with a step that gives back the value so far.
  pub operand_past : (i k : ℕ) → e.count i ≤ k → e.operand i k ≡ Err (record { reference = 65535 })
  pub step_past : (i k : ℕ) (x v : V) → e.count i ≤ k → e.step i k x v ≡ x

-- One step: a dangling operand is passed over.
abbrev pub stepped : {V : Type 0} → Equations V → (ℕ → V) → ℕ → ℕ → V → Operand → V
stepped e w i k x (Ok j) = e.step i k x (w j)
stepped e w i k x (Err d) = x

-- The start value of i, taken through the first n steps over the values w.
abbrev pub after : {V : Type 0} → Equations V → (ℕ → V) → ℕ → ℕ → V
after e w i zero = e.start i
after e w i (suc k) = stepped e w i k (after e w i k) (e.operand i k)

-- The value of the equation of i over the values w.
abbrev pub equation : {V : Type 0} → Equations V → (ℕ → V) → ℕ → V
equation e w i = after e w i (e.count i)
