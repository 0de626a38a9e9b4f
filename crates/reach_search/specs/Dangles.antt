-- The lowest dangling operand of a set of instances. Assumes nothing.
use Rattle.std.specs.Prelude.{◌≡◌, ℕ, ◌<◌, ◌≤◌, ◌⊎◌, Result, MatchResult}
use Rattle.equations.specs.Equations.{Equations}
use Rattle.equations.specs.Reach.{DanglesAt}
use Rattle.references.specs.declared.Dangling.{Dangling}
use Rattle.table_model.specs.declared.fault.DanglingOperand.{DanglingOperand}

module _ {V : Type 0} (e : Equations V) (P : ℕ → Type 0) where
  -- No instance of P has a dangling operand.
  abbrev pub NoneDangles : Type 0
  NoneDangles = (j o : ℕ) (x : Dangling) → P j → DanglesAt e j o x → ⊥

  -- d is the lowest instance of P that has a dangling operand, its lowest such operand, and the reference.
  pub record LowestOf (d : DanglingOperand) : Type 0 where
    pub member : P d.instance
    pub dangles : DanglesAt e d.instance d.operand d.dangling
    pub lowest : (j o : ℕ) (x : Dangling) → P j → DanglesAt e j o x → (d.instance < j) ⊎ ((d.instance ≡ j) × (d.operand ≤ o))

  abbrev pub TellsLowest : Result Unit DanglingOperand → Type 0
  TellsLowest r = MatchResult r (λ _. NoneDangles) LowestOf
