-- A solution of a grammar's equations by its instances. Assumes nothing.
use Rattle.std.proofs.Common.{◌≡◌, Ok}
use Rattle.grammar_equations.specs.GrammarEquations.{operands, evaluated}
use Rattle.grammar_equations.specs.Instances.{Instance, Valid}
use Rattle.grammar_equations.specs.Paths.{In, Complete}
use Rattle.grammar_equations.specs.Rules.{Rules}
use Rattle.grammar_equations.specs.Values.{Value, bottom}

-- The values of complete instances satisfy their equations, and have each property that equations pass on from operands and that the bottom has.
pub record Solution (g : Rules) (v : Instance → Value) : Type 1 where
  pub solves : (x : Instance) → Valid g x → Complete g x → v x ≡ evaluated g v x
  pub induction : (P : Instance → Value → Type 0) → ((x : Instance) → P x bottom) →
      ((w : Instance → Value) (x : Instance) → Valid g x → Complete g x → ((y : Instance) → In (Ok y) (operands g x) → P y (w y)) → P x (evaluated g w x)) →
      (x : Instance) → Valid g x → Complete g x → P x (v x)
