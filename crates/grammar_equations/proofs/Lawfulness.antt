-- The rules of a system hold for a grammar's equations. Assumes nothing.
use Rattle.std.proofs.Common.{◌≡◌, ℕ, zero, suc, ◌<◌, ◌≤◌, ltb, List, [], ◌∷◌, length, Some, None, Ok, Err, Option, sym, refl, ap, ◌∙◌, subst, ⊎_elim, arith}
use Rattle.equations.specs.Equations.{Lawful}
use Rattle.std.specs.List.{slice_get}
use Rattle.std.proofs.lemmas.Option.{slice_get_past}
use Rattle.std.proofs.lemmas.Bool.{cases_lt, cond-true, cond-false, lt-ltb, le-ltb}
use Rattle.grammar_equations.specs.GrammarEquations.{InstanceOperand, operands, instance_at, operands_at, start_at, numbered_operand, step_at, step_sort, grammar_equations}
use Rattle.grammar_equations.specs.Instances.{Instance, Valid, number, decode, instance_count}
use Rattle.grammar_equations.specs.Rules.{Rules, WellFormed}
use Rattle.grammar_equations.specs.Values.{Value, le, bottom}
use Rattle.grammar_equations.proofs.Numbering.{number_within, decoded, has_number}
use Rattle.grammar_equations.proofs.Operands.{ValidOperands, operands_valid, operands_few}
use Rattle.grammar_equations.proofs.Steps.{stepped_mono}

module _ (g : Rules) where
  pub instance_within : (i : ℕ) → i < instance_count g → instance_at g i ≡ Some (decode g i)
  instance_within i l = cond-true (ltb i (instance_count g)) _ _ (lt-ltb i (instance_count g) l)

  pub instance_past : (i : ℕ) → instance_count g ≤ i → instance_at g i ≡ None
  instance_past i l = cond-false (ltb i (instance_count g)) _ _ (le-ltb i (instance_count g) l)

  -- The instance with the number of x is x.
  pub instance_of : (x : Instance) → Valid g x → instance_at g (number g x) ≡ Some x
  instance_of x v = instance_within (number g x) (number_within g x v) ∙ ap Some (decoded g x v)

  -- What holds of the instances of the system, and past the last, holds of each number.
  by_instance : (P : Option Instance → Type 0) → ((x : Instance) → Valid g x → P (Some x)) → P None → (i : ℕ) → P (instance_at g i)
  by_instance P some none i =
      ⊎_elim
      (λ l. subst P (sym (instance_within i l)) (some (decode g i) (has_number g i l).0))
      (λ l. subst P (sym (instance_past i l)) none)
      (cases_lt i (instance_count g))

  numbered_within : (os : List InstanceOperand) → ValidOperands g os → (k j : ℕ) → numbered_operand g (slice_get os k) ≡ Ok j → j < instance_count g
  numbered_within [] v k j q = let z : ◌≡◌ {A = ℕ} 0 1 = cc in absurd (omega arith)
  numbered_within (Ok x ∷ os) v zero j q = let e : number g x ≡ j = cc in omega (arith, number_within g x v.0)
  numbered_within (Err d ∷ os) v zero j q = let z : ◌≡◌ {A = ℕ} 0 1 = cc in absurd (omega arith)
  numbered_within (o ∷ os) v (suc k) j q = numbered_within os v.1 k j q

  step_at_mono : (m : Option Instance) (k : ℕ) (o : Option InstanceOperand) (x y v w : Value) → le x y → le v w → le (step_at g m k o x v) (step_at g m k o y w)
  step_at_mono None k o x y v w p q = p
  step_at_mono (Some i) k None x y v w p q = p
  step_at_mono (Some i) k (Some o) x y v w p q = stepped_mono (step_sort g i k) x y v w p q

  step_at_past : (m : Option Instance) (k : ℕ) (x v : Value) → step_at g m k None x v ≡ x
  step_at_past None k x v = refl
  step_at_past (Some i) k x v = refl

pub grammar_lawful : (g : Rules) → WellFormed g → Lawful bottom le (grammar_equations g)
grammar_lawful g w =
    record {
      size_within = omega (arith, w.terminals, w.nonterminals, w.rules, w.names);
      count_within = by_instance g (λ m. length (operands_at g m) ≤ 4096) (λ x v. operands_few g w x) (omega arith);
      operand_within = by_instance g (λ m. (k j : ℕ) → numbered_operand g (slice_get (operands_at g m) k) ≡ Ok j → j < instance_count g)
          (λ x v. numbered_within g (operands g x) (operands_valid g w x v))
          (numbered_within g [] tt);
      step_mono = λ i k x y v w. step_at_mono g (instance_at g i) k (slice_get (operands_at g (instance_at g i)) k) x y v w;
      count_past = λ i l. ap (λ m. length (operands_at g m)) (instance_past g i l);
      start_past = λ i l. ap (start_at g) (instance_past g i l);
      operand_past = λ i k l. ap (numbered_operand g) (slice_get_past (operands_at g (instance_at g i)) k l);
      step_past = λ i k x v l.
          ap (λ o. step_at g (instance_at g i) k o x v) (slice_get_past (operands_at g (instance_at g i)) k l) ∙ step_at_past g (instance_at g i) k x v;
    }
