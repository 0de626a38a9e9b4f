-- What an instance of a grammar's system depends on. Assumes nothing.
use Rattle.std.specs.Prelude.{List, ◌∷◌, Ok, Err}
use Rattle.references.specs.declared.Dangling.{Dangling}
use Rattle.grammar_equations.specs.GrammarEquations.{InstanceOperand, operands}
use Rattle.grammar_equations.specs.Instances.{Instance}
use Rattle.grammar_equations.specs.Rules.{Rules}

-- The operand is in the list.
pub data In (o : InstanceOperand) : List InstanceOperand → Type 0 where
  head : {os : List InstanceOperand} → In o (o ∷ os)
  tail : {p : InstanceOperand} {os : List InstanceOperand} → In o os → In o (p ∷ os)

-- y is x, or an operand of x, or an operand of that, and so on.
pub data Leads (g : Rules) : Instance → Instance → Type 0 where
  here : {x : Instance} → Leads g x x
  along : {x y z : Instance} → In (Ok y) (operands g x) → Leads g y z → Leads g x z

-- x depends on an instance with a dangling operand.
abbrev pub LeadsToDangling : Rules → Instance → Type 0
LeadsToDangling g x = (y : Instance) × (d : Dangling) × Leads g x y × In (Err d) (operands g y)

abbrev pub Complete : Rules → Instance → Type 0
Complete g x = LeadsToDangling g x → ⊥
