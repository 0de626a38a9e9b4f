-- The least solution of a grammar's equations, by its instances. Assumes nothing.
use Rattle.std.proofs.Common.{ℕ, Ok, sym, refl, ◌∙◌, subst}
use Rattle.equations.specs.Equations.{equation}
use Rattle.equations.specs.Reach.{Uses, Whole, WholeInstance, Least}
use Rattle.equations.proofs.Induction.{least_induction}
use Rattle.grammar_equations.specs.GrammarEquations.{operands, evaluated, grammar_equations}
use Rattle.grammar_equations.specs.Instances.{Instance, Valid, number, decode}
use Rattle.grammar_equations.specs.Paths.{In, Complete}
use Rattle.grammar_equations.specs.Rules.{Rules, WellFormed}
use Rattle.grammar_equations.specs.Values.{Value, le}
use Rattle.grammar_equations.proofs.Bridge.{uses_in, whole_bridge, equation_bridge}
use Rattle.grammar_equations.proofs.Lawfulness.{grammar_lawful}
use Rattle.grammar_equations.proofs.Numbering.{number_within, decoded, has_number}
use Rattle.grammar_equations.proofs.Operands.{operand_valid}
use Rattle.grammar_equations.proofs.Solutions.{Solution}
use Rattle.grammar_equations.proofs.Steps.{value_laws}

module _ (g : Rules) (wf : WellFormed g) where
  -- A valid and complete instance is whole by its number.
  whole_number : (x : Instance) → Valid g x → Complete g x → WholeInstance (grammar_equations g) (number g x)
  whole_number x valid complete = (number_within g x valid, (whole_bridge g wf x valid).1 complete)

  module _ (P : Instance → Value → Type 0) where
    -- The property of the instance with a number.
    abbrev AtNumber : ℕ → Value → Type 0
    AtNumber i u = P (decode g i) u

    abbrev Keeps : Type 0
    Keeps =
        (w : Instance → Value) (x : Instance) → Valid g x → Complete g x →
        ((y : Instance) → In (Ok y) (operands g x) → P y (w y)) → P x (evaluated g w x)

    keeps_at : Keeps → (w : ℕ → Value) (x : Instance) → Valid g x → Whole (grammar_equations g) (number g x) → ((j : ℕ) → Uses (grammar_equations g) (number g x) j → AtNumber j (w j)) → P x (equation (grammar_equations g) w (number g x))
    keeps_at keep w x valid whole each =
        subst (P x) (sym (equation_bridge g w x valid))
        (keep (λ y. w (number g y)) x valid ((whole_bridge g wf x valid).0 whole) (λ y i.
        subst (λ z. P z (w (number g y))) (decoded g y (operand_valid g wf x y valid i))
        (each (number g y) ((uses_in g x valid (number g y)).1 (y, i, refl)))))

    keeps_number : Keeps → (w : ℕ → Value) (i : ℕ) → WholeInstance (grammar_equations g) i → ((j : ℕ) → Uses (grammar_equations g) i j → AtNumber j (w j)) → AtNumber i (equation (grammar_equations g) w i)
    keeps_number keep w i whole =
        let is = has_number g i whole.0 in
        subst (λ k. Whole (grammar_equations g) k → ((j : ℕ) → Uses (grammar_equations g) k j → AtNumber j (w j)) → P (decode g i) (equation (grammar_equations g) w k))
        is.1 (keeps_at keep w (decode g i) is.0) whole.1

  pub solved : (v : ℕ → Value) → Least le (grammar_equations g) v → Solution g (λ x. v (number g x))
  solved v least =
      record {
        solves = λ x valid complete. least.solves (number g x) (whole_number x valid complete) ∙ equation_bridge g v x valid;
        induction = λ P base keep x valid complete.
            subst (λ z. P z (v (number g x))) (decoded g x valid)
            (least_induction value_laws (grammar_equations g) (grammar_lawful g wf) v least (AtNumber P) (λ i. base (decode g i)) (keeps_number P keep) (number g x) (whole_number x valid complete));
      }

pub solution : {g : Rules} → WellFormed g → (v : ℕ → Value) → Least le (grammar_equations g) v → Solution g (λ x. v (number g x))
solution {g} = solved g
