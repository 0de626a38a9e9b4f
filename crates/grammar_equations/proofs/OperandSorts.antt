-- What the operands of each instance are, and what is complete. Assumes nothing.
use Rattle.std.proofs.Common.{◌≡◌, ℕ, zero, suc, ◌+◌, ◌-◌, ◌<◌, ◌≤◌, Bool, true, false, cond, eqb, ltb, ◌⊎◌, List, [], ◌∷◌, ◌++◌, map, length, Some, None, Ok, Err, Option, sym, refl, ap, ◌∙◌, subst, inl, inr, ⊎_elim, arith}
use Rattle.references.specs.declared.Dangling.{Dangling}
use Rattle.std.specs.List.{slice_get}
use Rattle.std.proofs.lemmas.List.{map-append}
use Rattle.std.proofs.lemmas.Bool.{cases_eq, ltb-false, le-ltb, eqb-true, eq-eqb, false≢true}
use Rattle.grammar_equations.specs.Derivations.{nonterminal}
use Rattle.grammar_equations.specs.GrammarEquations.{InstanceOperand, ascending, productions_of, is_nonterminal, occurrences_in, occurrences_below, suffix_operands, operands}
use Rattle.grammar_equations.specs.Instances.{Instance, symbol, suffix, occurrence, follow}
use Rattle.grammar_equations.specs.Paths.{In, head, tail, here, along, LeadsToDangling, Complete}
use Rattle.grammar_equations.specs.Rules.{Letter, known, dangling, Rule, Rules, rule_count, first_name, left_from, right_from, left_of, right_of, WellFormed}
use Rattle.grammar_equations.proofs.Lists.{none_is_some, nth_within, nth_some}

-- The operands of each instance, one by one.
pub data Reads (g : Rules) : Instance → InstanceOperand → Type 0 where
  production : (p : ℕ) → p < rule_count g → Reads g (symbol (g.terminals + left_of g p)) (Ok (suffix p 0))
  letter : (p k s : ℕ) → slice_get (right_of g p) k ≡ Some (known s) → Reads g (suffix p k) (Ok (symbol s))
  unknown : (p k : ℕ) (name : List ℕ) → slice_get (right_of g p) k ≡ Some (dangling name) → Reads g (suffix p k) (Err (record { reference = first_name g p + k }))
  rest : (p k : ℕ) (x : Letter) → slice_get (right_of g p) k ≡ Some x → Reads g (suffix p k) (Ok (suffix p (suc k)))
  behind : (p k : ℕ) → Reads g (occurrence p k) (Ok (suffix p (suc k)))
  above : (p k : ℕ) → Reads g (occurrence p k) (Ok (follow (left_of g p)))
  occurs : (p k a : ℕ) → slice_get (right_of g p) k ≡ Some (nonterminal g a) → Reads g (follow a) (Ok (occurrence p k))

in_none : {o : InstanceOperand} → In o [] → ⊥
in_none i = elim i [ ]

in_cons : {o p : InstanceOperand} {os : List InstanceOperand} → In o (p ∷ os) → (p ≡ o) ⊎ In o os
in_cons head = inl refl
in_cons (tail i) = inr i

in_left : {o : InstanceOperand} {xs : List InstanceOperand} (ys : List InstanceOperand) → In o xs → In o (xs ++ ys)
in_left ys head = head
in_left ys (tail i) = tail (in_left ys i)

in_right : {o : InstanceOperand} (xs : List InstanceOperand) {ys : List InstanceOperand} → In o ys → In o (xs ++ ys)
in_right [] i = i
in_right (x ∷ xs) i = tail (in_right xs i)

in_cases : {o : InstanceOperand} (xs : List InstanceOperand) {ys : List InstanceOperand} → In o (xs ++ ys) → In o xs ⊎ In o ys
in_cases [] i = inr i
in_cases {o} (x ∷ xs) i =
    elim (in_cons i) [
      | inl e ↦ inl (subst (λ y. In o (y ∷ xs)) (sym e) head)
      | inr t ↦ ⊎_elim (λ j. inl (tail j)) (λ j. inr j) (in_cases xs t)
    ]

map_map : {A B C : Type 0} (f : B → C) (h : A → B) (xs : List A) → map f (map h xs) ≡ map (λ x. f (h x)) xs
map_map f h [] = refl
map_map {C = C} f h (x ∷ xs) = ap {B = List C} (λ r. f (h x) ∷ r) (map_map f h xs)

-- The numbers below m that pass the test, as operands.
module _ (f : ℕ → InstanceOperand) (test : ℕ → Bool) where
  in_one : (b : Bool) (n : ℕ) → b ≡ true → In (f n) (map f (cond b (n ∷ []) []))
  in_one true n e = head
  in_one false n e = absurd (false≢true e)

  one_in : (b : Bool) (n : ℕ) {o : InstanceOperand} → In o (map f (cond b (n ∷ []) [])) → (b ≡ true) × (f n ≡ o)
  one_in true n i = elim (in_cons i) [ inl e ↦ (refl, e) | inr j ↦ absurd (in_none j) ]
  one_in false n i = absurd (in_none i)

  in_ascending : (m n : ℕ) → n < m → test n ≡ true → In (f n) (map f (ascending test m))
  in_ascending zero n l t = absurd (omega arith)
  in_ascending (suc m) n l t =
      rw map-append (elim (cases_eq n m) [
        | inl e ↦ in_right (map f (ascending test m)) (subst (λ k. In (f n) (map f (cond (test k) (k ∷ []) []))) e (in_one (test n) n t))
        | inr e ↦ in_left _ (in_ascending m n (omega arith) t)
      ])

  ascending_in : (m : ℕ) {o : InstanceOperand} → In o (map f (ascending test m)) → (n : ℕ) × (n < m) × (test n ≡ true) × (f n ≡ o)
  ascending_in zero i = absurd (in_none i)
  ascending_in (suc m) i =
      elim (in_cases (map f (ascending test m)) (rw map-append at i)) [
        | inl j ↦ (let q = ascending_in m j in (q.0, omega (arith, q.1), q.2, q.3))
        | inr j ↦ (let q = one_in (test m) m j in (m, omega arith, q.0, q.1))
      ]

module _ (g : Rules) where
  letter_is : (a : ℕ) (o : Option Letter) → is_nonterminal g a o ≡ true → o ≡ Some (nonterminal g a)
  letter_is a None e = absurd (false≢true e)
  letter_is a (Some (dangling name)) e = absurd (false≢true e)
  letter_is a (Some (known s)) e = ap (λ x. Some (known x)) (eqb-true s (g.terminals + a) e)

  is_letter : (a : ℕ) → is_nonterminal g a (Some (nonterminal g a)) ≡ true
  is_letter a = eq-eqb (g.terminals + a) (g.terminals + a) refl

  occurrence_in : (a n : ℕ) {o : InstanceOperand} → In o (map Ok (occurrences_below g a n)) →
      (p : ℕ) × (k : ℕ) × (slice_get (right_of g p) k ≡ Some (nonterminal g a)) × (Ok (occurrence p k) ≡ o)
  occurrence_in a zero i = absurd (in_none i)
  occurrence_in a (suc n) i =
      elim (in_cases (map Ok (occurrences_below g a n)) (rw map-append at i)) [
        | inl j ↦ occurrence_in a n j
        | inr j ↦ (let q = ascending_in (λ k. Ok (occurrence n k)) (λ k. is_nonterminal g a (slice_get (right_of g n) k)) (length (right_of g n)) (rw map_map at j) in
            (n, q.0, letter_is a (slice_get (right_of g n) q.0) q.2, q.3))
      ]

  in_occurrences : (a n p k : ℕ) → p < n → slice_get (right_of g p) k ≡ Some (nonterminal g a) → In (Ok (occurrence p k)) (map Ok (occurrences_below g a n))
  in_occurrences a zero p k l e = absurd (omega arith)
  in_occurrences a (suc n) p k l e =
      rw map-append (elim (cases_eq p n) [
        | inl q ↦ in_right (map Ok (occurrences_below g a n))
            (subst (λ m. In (Ok (occurrence p k)) (map Ok (occurrences_in g a m))) q
            (rw map_map (in_ascending (λ i. Ok (occurrence p i)) (λ i. is_nonterminal g a (slice_get (right_of g p) i)) (length (right_of g p)) k (nth_within (right_of g p) k e)
            (ap (is_nonterminal g a) e ∙ is_letter a))))
        | inr q ↦ in_left _ (in_occurrences a n p k (omega arith) e)
      ])

  -- A production with a right-side name is one of the grammar's.
  pub letter_within : (p k : ℕ) {x : Letter} → slice_get (right_of g p) k ≡ Some x → p < rule_count g
  letter_within p k e = go (slice_get g.rules p) refl e
    where
      go : (o : Option Rule) {x : Letter} → slice_get g.rules p ≡ o → slice_get (right_from o) k ≡ Some x → p < rule_count g
      go None q h = absurd (none_is_some h)
      go (Some r) q h = nth_within g.rules p q

  pub left_within : WellFormed g → (p : ℕ) → p < rule_count g → left_of g p < g.nonterminals
  left_within well p h =
      let x = nth_some g.rules p h in
      subst (λ (o : Option Rule). left_from o < g.nonterminals) (sym x.1) (well.lefts p x.0 x.1)

  symbol_reads : (s : ℕ) (b : Bool) → ltb s g.terminals ≡ b → {o : InstanceOperand} →
      In o (cond b [] (map (λ p. Ok (suffix p 0)) (productions_of g (s - g.terminals)))) → Reads g (symbol s) o
  symbol_reads s true e i = absurd (in_none i)
  symbol_reads s false e {o} i =
      let q = ascending_in (λ p. Ok (suffix p 0)) (λ p. eqb (left_of g p) (s - g.terminals)) (rule_count g) i in
      let left : g.terminals + left_of g q.0 ≡ s = omega (arith, ltb-false s g.terminals e, eqb-true _ _ q.2) in
      subst (λ n. Reads g (symbol n) o) left (subst (Reads g _) q.3 (production q.0 q.1))

  suffix_reads : (p k : ℕ) (x : Option Letter) → slice_get (right_of g p) k ≡ x → {o : InstanceOperand} → In o (suffix_operands g p k x) → Reads g (suffix p k) o
  suffix_reads p k None e i = absurd (in_none i)
  suffix_reads p k (Some (known s)) e i =
      elim (in_cons i) [
        | inl q ↦ subst (Reads g _) q (letter p k s e)
        | inr j ↦ (elim (in_cons j) [ inl q ↦ subst (Reads g _) q (rest p k (known s) e) | inr n ↦ absurd (in_none n) ])
      ]
  suffix_reads p k (Some (dangling name)) e i =
      elim (in_cons i) [
        | inl q ↦ subst (Reads g _) q (unknown p k name e)
        | inr j ↦ (elim (in_cons j) [ inl q ↦ subst (Reads g _) q (rest p k (dangling name) e) | inr n ↦ absurd (in_none n) ])
      ]

  pub reads : (x : Instance) {o : InstanceOperand} → In o (operands g x) → Reads g x o
  reads (symbol s) i = symbol_reads s (ltb s g.terminals) refl i
  reads (suffix p k) i = suffix_reads p k (slice_get (right_of g p) k) refl i
  reads (occurrence p k) i =
      elim (in_cons i) [
        | inl q ↦ subst (Reads g _) q (behind p k)
        | inr j ↦ (elim (in_cons j) [ inl q ↦ subst (Reads g _) q (above p k) | inr n ↦ absurd (in_none n) ])
      ]
  reads (follow a) i =
      let q = occurrence_in a (rule_count g) i in
      subst (Reads g _) q.3 (occurs q.0 q.1 a q.2)

  pub reads_in : {x : Instance} {o : InstanceOperand} → Reads g x o → In o (operands g x)
  reads_in (production p l) =
      let low : g.terminals ≤ g.terminals + left_of g p = omega arith in
      rw le-ltb (subst (λ a. In (Ok (suffix p 0)) (map (λ q. Ok (suffix q 0)) (productions_of g a))) (omega arith)
      (in_ascending (λ q. Ok (suffix q 0)) (λ q. eqb (left_of g q) (left_of g p)) (rule_count g) p l (eq-eqb (left_of g p) (left_of g p) refl)))
  reads_in (letter p k s e) = rw e head
  reads_in (unknown p k name e) = rw e head
  reads_in (rest p k x e) = rw e (tail head)
  reads_in (behind p k) = head
  reads_in (above p k) = tail head
  reads_in (occurs p k a e) = in_occurrences a (rule_count g) p k (letter_within p k e) e

  -- What an operand leads to, and what is complete with it.
  pub leads_by : {x y : Instance} → Reads g x (Ok y) → LeadsToDangling g y → LeadsToDangling g x
  leads_by r d = (d.0, d.1, along (reads_in r) d.2, d.3)

  pub leads_at : {x : Instance} {d : Dangling} → Reads g x (Err d) → LeadsToDangling g x
  leads_at {x} {d} r = (x, d, here, reads_in r)

  pub complete_by : {x y : Instance} → Reads g x (Ok y) → Complete g x → Complete g y
  complete_by r c d = c (leads_by r d)
