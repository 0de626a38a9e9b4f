-- The equations of a grammar. Assumes nothing.
use Rattle.std.specs.Prelude.{ℕ, zero, suc, ◌+◌, ◌-◌, Bool, false, cond, List, [], ◌∷◌, ◌++◌, map, length, Some, None, Ok, Err, Option, Result, ◌==◌, nat_eq, nat_lt}
use Rattle.equations.specs.Equations.{Equations, Operand}
use Rattle.lattices.specs.Pairs.{pair}
use Rattle.references.specs.declared.Dangling.{Dangling}
use Rattle.std.specs.List.{slice_get}
use Rattle.grammar_equations.specs.Instances.{Instance, symbol, suffix, occurrence, follow, instance_count, number, decode}
use Rattle.grammar_equations.specs.Rules.{Letter, known, dangling, Rules, rule_count, first_name, left_of, right_of}
use Rattle.grammar_equations.specs.Values.{Value, bottom, empty_form, end_mark, StepSort, join, concatenate, followed, stepped, single}

-- The numbers below n that pass the test, in ascending order.
abbrev pub ascending : (ℕ → Bool) → ℕ → List ℕ
ascending test zero = []
ascending test (suc n) = ascending test n ++ cond (test n) (n ∷ []) []

-- An operand: an instance, or a dangling name by its reference.
abbrev pub InstanceOperand : Type 0
InstanceOperand = Result Instance Dangling

module _ (g : Rules) where
  -- The productions of nonterminal a.
  abbrev pub productions_of : ℕ → List ℕ
  productions_of a = ascending (λ p. nat_eq (left_of g p) a) (rule_count g)

  -- Whether the letter is nonterminal a.
  abbrev pub is_nonterminal : ℕ → Option Letter → Bool
  is_nonterminal a None = false
  is_nonterminal a (Some (dangling name)) = false
  is_nonterminal a (Some (known s)) = s == g.terminals + a

  -- The occurrences of nonterminal a in production p, and in the productions below n.
  abbrev pub occurrences_in : ℕ → ℕ → List Instance
  occurrences_in a p = map (occurrence p) (ascending (λ k. is_nonterminal a (slice_get (right_of g p) k)) (length (right_of g p)))

  abbrev pub occurrences_below : ℕ → ℕ → List Instance
  occurrences_below a zero = []
  occurrences_below a (suc p) = occurrences_below a p ++ occurrences_in a p

  -- What a name of production p at k reads: its symbol.
  abbrev pub letter_operand : ℕ → ℕ → Letter → InstanceOperand
  letter_operand p k (known s) = Ok (symbol s)
  letter_operand p k (dangling name) = Err (record { reference = first_name g p + k })

  abbrev pub suffix_operands : ℕ → ℕ → Option Letter → List InstanceOperand
  suffix_operands p k None = []
  suffix_operands p k (Some a) = letter_operand p k a ∷ Ok (suffix p (suc k)) ∷ []

  -- The operands of an instance, in order.
  abbrev pub operands : Instance → List InstanceOperand
  operands (symbol s) = cond (nat_lt s g.terminals) [] (map (λ p. Ok (suffix p 0)) (productions_of (s - g.terminals)))
  operands (suffix p k) = suffix_operands p k (slice_get (right_of g p) k)
  operands (occurrence p k) = Ok (suffix p (suc k)) ∷ Ok (follow (left_of g p)) ∷ []
  operands (follow a) = map Ok (occurrences_below a (rule_count g))

  -- The value that an instance starts from.
  abbrev pub start_of : Instance → Value
  start_of (symbol s) = cond (nat_lt s g.terminals) (pair false (single s)) bottom
  start_of (suffix p k) = empty_form
  start_of (occurrence p k) = empty_form
  start_of (follow a) = cond (a == 0) (pair false (single end_mark)) bottom

  -- How an instance takes in its operand k.
  abbrev pub step_sort : Instance → ℕ → StepSort
  step_sort (symbol s) k = join
  step_sort (suffix p k₁) k = concatenate
  step_sort (occurrence p k₁) zero = concatenate
  step_sort (occurrence p k₁) (suc k) = followed
  step_sort (follow a) k = join

  -- The value of an instance over the values w: from its start through its operands from number k on, dangling ones passed over.
  abbrev pub evaluated_from : (Instance → Value) → Instance → ℕ → Value → List InstanceOperand → Value
  evaluated_from w x k v [] = v
  evaluated_from w x k v (Ok y ∷ ys) = evaluated_from w x (suc k) (stepped (step_sort x k) v (w y)) ys
  evaluated_from w x k v (Err d ∷ ys) = evaluated_from w x (suc k) v ys

  abbrev pub evaluated : (Instance → Value) → Instance → Value
  evaluated w x = evaluated_from w x 0 (start_of x) (operands x)

  -- The instance with number i, if there is one.
  abbrev pub instance_at : ℕ → Option Instance
  instance_at i = cond (nat_lt i (instance_count g)) (Some (decode g i)) None

  abbrev pub operands_at : Option Instance → List InstanceOperand
  operands_at None = []
  operands_at (Some x) = operands x

  abbrev pub start_at : Option Instance → Value
  start_at None = bottom
  start_at (Some x) = start_of x

  abbrev pub numbered_operand : Option InstanceOperand → Operand
  numbered_operand None = Err (record { reference = 65535 })
  numbered_operand (Some (Ok x)) = Ok (number g x)
  numbered_operand (Some (Err d)) = Err d

  abbrev pub step_at : Option Instance → ℕ → Option InstanceOperand → Value → Value → Value
  step_at None k o v w = v
  step_at (Some x) k None v w = v
  step_at (Some x) k (Some o) v w = stepped (step_sort x k) v w

  abbrev pub grammar_equations : Equations Value
  grammar_equations = record {
    size = instance_count g;
    count = λ i. length (operands_at (instance_at i));
    operand = λ i k. numbered_operand (slice_get (operands_at (instance_at i)) k);
    start = λ i. start_at (instance_at i);
    step = λ i k. step_at (instance_at i) k (slice_get (operands_at (instance_at i)) k);
  }
