-- The operands of a valid instance are valid, and few. Assumes nothing.
use Rattle.std.proofs.Common.{◌≡◌, ℕ, zero, suc, ◌+◌, ◌-◌, ◌<◌, ◌≤◌, Bool, true, cond, eqb, ltb, List, [], ◌∷◌, map, length, take, Some, None, Ok, Err, Option, sym, refl, ap, subst, arith}
use Rattle.std.specs.List.{AllByRecursion, slice_get}
use Rattle.std.proofs.ByRecursion.{All-append, All-map, All-weaker}
use Rattle.std.proofs.lemmas.List.{length-append, length-map, take_all}
use Rattle.std.proofs.lemmas.Bool.{cond_both}
use Rattle.grammar_equations.specs.GrammarEquations.{InstanceOperand, ascending, productions_of, is_nonterminal, occurrences_in, occurrences_below, suffix_operands, operands}
use Rattle.grammar_equations.specs.Instances.{Instance, symbol, suffix, occurrence, follow, Valid}
use Rattle.grammar_equations.specs.Paths.{In, head, tail}
use Rattle.grammar_equations.specs.Rules.{Letter, known, dangling, Rule, Rules, WellFormed, rule_count, name_count, first_name, left_of, right_of, left_from, right_from, total_length}
use Rattle.grammar_equations.proofs.Lists.{nth_within}
use Rattle.grammar_equations.proofs.Numbering.{rule_at}

-- What holds of each operand of a list holds of one in it.
pub all_in : (P : InstanceOperand → Type 0) (o : InstanceOperand) (os : List InstanceOperand) → AllByRecursion P os → In o os → P o
all_in P o [] h i = elim i [ ]
all_in P o (p ∷ os) h head = h.0
all_in P o (p ∷ os) h (tail i) = all_in P o os h.1 i

-- The numbers listed in ascending order are below the bound and pass the test, and are no more than the bound.
pub ascending_passes : (test : ℕ → Bool) (n : ℕ) → AllByRecursion (λ k. (k < n) × (test k ≡ true)) (ascending test n)
ascending_passes test zero = tt
ascending_passes test (suc n) =
    All-append (λ k. (k < suc n) × (test k ≡ true)) (ascending test n) (cond (test n) (n ∷ []) [])
    (All-weaker (λ k. (k < n) × (test k ≡ true)) (λ k. (k < suc n) × (test k ≡ true)) (λ k h. (omega (arith, h.0), h.1)) (ascending test n) (ascending_passes test n))
    (cond_both (test n) (n ∷ []) [] (AllByRecursion (λ k. (k < suc n) × (test k ≡ true))) (λ t. ((omega arith, t), tt)) (λ f. tt))

pub ascending_length : (test : ℕ → Bool) (n : ℕ) → length (ascending test n) ≤ n
ascending_length test zero = omega arith
ascending_length test (suc n) =
    let one : length (cond (test n) (n ∷ []) []) ≤ 1 = cond_both (test n) (n ∷ []) [] (λ l. length l ≤ 1) (λ t. omega arith) (λ f. omega arith) in
    omega (arith, length-append (ascending test n) (cond (test n) (n ∷ []) []), ascending_length test n)

-- The number of names before a production, one production on.
pub names_more : (rs : List Rule) (p : ℕ) → total_length (take (suc p) rs) ≡ total_length (take p rs) + length (right_from (slice_get rs p))
names_more [] zero = refl
names_more [] (suc p) = refl
names_more (r ∷ rs) zero = omega arith
names_more (r ∷ rs) (suc p) = omega (arith, names_more rs p)

module _ (g : Rules) where
  abbrev pub ValidOperand : InstanceOperand → Type 0
  ValidOperand (Ok x) = Valid g x
  ValidOperand (Err d) = Unit {0}

  abbrev pub ValidOperands : List InstanceOperand → Type 0
  ValidOperands = AllByRecursion ValidOperand

  -- The occurrences of a nonterminal are valid.
  occurrences_in_valid : (a p : ℕ) → p < rule_count g → AllByRecursion (Valid g) (occurrences_in g a p)
  occurrences_in_valid a p l =
      let test : ℕ → Bool = λ k. is_nonterminal g a (slice_get (right_of g p) k) in
      let n : ℕ = length (right_of g p) in
      All-map (Valid g) (occurrence p) (ascending test n)
      (All-weaker (λ k. (k < n) × (test k ≡ true)) (λ k. Valid g (occurrence p k)) (λ k h. (l, h.0)) (ascending test n) (ascending_passes test n))

  occurrences_below_valid : (a p : ℕ) → p ≤ rule_count g → AllByRecursion (Valid g) (occurrences_below g a p)
  occurrences_below_valid a zero l = tt
  occurrences_below_valid a (suc p) l =
      All-append (Valid g) (occurrences_below g a p) (occurrences_in g a p) (occurrences_below_valid a p (omega arith)) (occurrences_in_valid a p l)

  occurrences_below_length : (a p : ℕ) → length (occurrences_below g a p) ≤ first_name g p
  occurrences_below_length a zero = omega arith
  occurrences_below_length a (suc p) =
      let test : ℕ → Bool = λ k. is_nonterminal g a (slice_get (right_of g p) k) in
      let n : ℕ = length (right_of g p) in
      omega (
        arith,
        length-append (occurrences_below g a p) (occurrences_in g a p),
        length-map (ascending test n) (occurrence p),
        ascending_length test n,
        names_more g.rules p,
        occurrences_below_length a p,
      )

  pub names_all : first_name g (rule_count g) ≡ name_count g
  names_all = ap total_length (take_all (rule_count g) g.rules (omega arith))

  abbrev Few : List InstanceOperand → Type 0
  Few os = length os ≤ 4096

  suffix_operands_few : (p k : ℕ) (o : Option Letter) → Few (suffix_operands g p k o)
  suffix_operands_few p k None = omega arith
  suffix_operands_few p k (Some a) = omega arith

  module _ (w : WellFormed g) where
    suffix_operands_valid : (p k : ℕ) (r : Rule) → slice_get g.rules p ≡ Some r → (o : Option Letter) → slice_get r.right k ≡ o → right_of g p ≡ r.right → ValidOperands (suffix_operands g p k o)
    suffix_operands_valid p k r q None e f = tt
    suffix_operands_valid p k r q (Some (known s)) e f =
        (w.letters p r q k (known s) e, ((nth_within g.rules p q, omega (arith, nth_within r.right k e, ap length f)), tt))
    suffix_operands_valid p k r q (Some (dangling name)) e f =
        (tt, ((nth_within g.rules p q, omega (arith, nth_within r.right k e, ap length f)), tt))

    pub operands_valid : (x : Instance) → Valid g x → ValidOperands (operands g x)
    operands_valid (symbol s) v =
        let test : ℕ → Bool = λ p. eqb (left_of g p) (s - g.terminals) in
        cond_both (ltb s g.terminals) [] (map (λ p. Ok (suffix p 0)) (productions_of g (s - g.terminals))) ValidOperands
        (λ t. tt)
        (λ f.
        All-map ValidOperand (λ p. Ok (suffix p 0)) (ascending test (rule_count g))
        (All-weaker (λ p. (p < rule_count g) × (test p ≡ true)) (λ p. Valid g (suffix p 0)) (λ p h. (h.0, omega arith)) (ascending test (rule_count g)) (ascending_passes test (rule_count g))))
    operands_valid (suffix p k) v =
        let r = rule_at g p v.0 in
        suffix_operands_valid p k r.0 r.1 (slice_get (right_of g p) k) (ap (λ f. slice_get f k) (sym r.2)) r.2
    operands_valid (occurrence p k) v =
        let r = rule_at g p v.0 in
        ((v.0, v.1), (subst (λ a. a < g.nonterminals) (sym (ap left_from r.1)) (w.lefts p r.0 r.1), tt))
    operands_valid (follow a) v = All-map ValidOperand Ok (occurrences_below g a (rule_count g)) (occurrences_below_valid a (rule_count g) (omega arith))

    pub operands_few : (x : Instance) → Few (operands g x)
    operands_few (symbol s) =
        let all : List ℕ = productions_of g (s - g.terminals) in
        cond_both (ltb s g.terminals) [] (map (λ p. Ok (suffix p 0)) all) Few
        (λ t. omega arith)
        (λ f. omega (arith, length-map {B = InstanceOperand} all (λ p. Ok (suffix p 0)), ascending_length (λ p. eqb (left_of g p) (s - g.terminals)) (rule_count g), w.rules))
    operands_few (suffix p k) = suffix_operands_few p k (slice_get (right_of g p) k)
    operands_few (occurrence p k) = omega arith
    operands_few (follow a) =
        let all : List Instance = occurrences_below g a (rule_count g) in
        omega (arith, length-map {B = InstanceOperand} all Ok, occurrences_below_length a (rule_count g), names_all, w.names)

-- An operand of a valid instance is valid.
pub operand_valid : (g : Rules) → WellFormed g → (x y : Instance) → Valid g x → In (Ok y) (operands g x) → Valid g y
operand_valid g w x y v i = all_in (ValidOperand g) (Ok y) (operands g x) (operands_valid g w x v) i
