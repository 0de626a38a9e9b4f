-- What holds of the numbers of a grammar's system, and what holds of its instances. Assumes nothing.
use Rattle.std.proofs.Common.{◌≡◌, ℕ, zero, suc, ◌+◌, ◌<◌, ◌↔◌, List, [], ◌∷◌, length, Some, Ok, Err, sym, refl, ap, ◌∙◌, subst, arith}
use Rattle.equations.specs.Equations.{after, equation, stepped as steppedBy}
use Rattle.equations.specs.Reach.{Reach, here, along, Uses, DanglesAt, ReachesDangling, Whole}
use Rattle.references.specs.declared.Dangling.{Dangling}
use Rattle.std.specs.List.{slice_get}
use Rattle.grammar_equations.specs.GrammarEquations.{InstanceOperand, operands, step_sort, evaluated_from, evaluated, instance_at, operands_at, start_at, numbered_operand, step_at, grammar_equations}
use Rattle.grammar_equations.specs.Instances.{Instance, Valid, number}
use Rattle.grammar_equations.specs.Paths.{In, head, tail, Leads, here as leads-here, along as leads-along, LeadsToDangling, Complete}
use Rattle.grammar_equations.specs.Rules.{Rules, WellFormed}
use Rattle.grammar_equations.specs.Values.{Value, stepped}
use Rattle.grammar_equations.proofs.Lawfulness.{instance_of}
use Rattle.grammar_equations.proofs.Operands.{operand_valid}

module _ (g : Rules) where
  -- Operand k of the list has the number j, or dangles.
  abbrev NumberAt : List InstanceOperand → ℕ → ℕ → Type 0
  NumberAt os j k = (k < length os) × (numbered_operand g (slice_get os k) ≡ Ok j)

  abbrev DangleAt : List InstanceOperand → Dangling → ℕ → Type 0
  DangleAt os d k = (k < length os) × (numbered_operand g (slice_get os k) ≡ Err d)

  in_from_number : (os : List InstanceOperand) (j k : ℕ) → NumberAt os j k → (y : Instance) × In (Ok y) os × (number g y ≡ j)
  in_from_number [] j k h = absurd (omega (arith, h.0))
  in_from_number (Ok y ∷ os) j zero h = let q = h.1 in (y, head, (cc))
  in_from_number (Err d ∷ os) j zero h = let q = h.1 in let z : ◌≡◌ {A = ℕ} 0 1 = cc in absurd (omega arith)
  in_from_number (o ∷ os) j (suc k) h =
      let r = in_from_number os j k (omega (arith, h.0), h.1) in (r.0, tail r.1, r.2)

  number_from_in : (y : Instance) (os : List InstanceOperand) → In (Ok y) os → (k : ℕ) × NumberAt os (number g y) k
  number_from_in y [] i = elim i [ ]
  number_from_in y (o ∷ os) head = (0, (omega arith, refl))
  number_from_in y (o ∷ os) (tail i) =
      let r = number_from_in y os i in (suc r.0, (omega (arith, r.1.0), r.1.1))

  in_from_dangle : (os : List InstanceOperand) (d : Dangling) (k : ℕ) → DangleAt os d k → In (Err d) os
  in_from_dangle [] d k h = absurd (omega (arith, h.0))
  in_from_dangle (Ok y ∷ os) d zero h = let q = h.1 in let z : ◌≡◌ {A = ℕ} 0 1 = cc in absurd (omega arith)
  in_from_dangle (Err c ∷ os) d zero h = let q = h.1 in let e : c ≡ d = cc in subst (λ b. In (Err b) (Err c ∷ os)) e head
  in_from_dangle (o ∷ os) d (suc k) h = tail (in_from_dangle os d k (omega (arith, h.0), h.1))

  dangle_from_in : (d : Dangling) (os : List InstanceOperand) → In (Err d) os → (k : ℕ) × DangleAt os d k
  dangle_from_in d [] i = elim i [ ]
  dangle_from_in d (o ∷ os) head = (0, (omega arith, refl))
  dangle_from_in d (o ∷ os) (tail i) =
      let r = dangle_from_in d os i in (suc r.0, (omega (arith, r.1.0), r.1.1))

  -- The operands of a valid instance, by number and by instance.
  pub uses_in : (x : Instance) → Valid g x → (j : ℕ) → Uses (grammar_equations g) (number g x) j ↔ ((y : Instance) × In (Ok y) (operands g x) × (number g y ≡ j))
  uses_in x v j =
      let q = instance_of g x v in (
        λ u.
            let h : NumberAt (operands g x) j u.0 = subst (λ m. NumberAt (operands_at g m) j u.0) q (u.1, u.2) in
            in_from_number (operands g x) j u.0 h,
        λ h.
            let r = number_from_in h.0 (operands g x) h.1 in
            let u : NumberAt (operands_at g (instance_at g (number g x))) (number g h.0) r.0 = subst (λ m. NumberAt (operands_at g m) (number g h.0) r.0) (sym q) r.1 in
            (r.0, u.0, u.1 ∙ ap Ok h.2),
      )

  pub dangles_in : (x : Instance) → Valid g x → (d : Dangling) → ((o : ℕ) × DanglesAt (grammar_equations g) (number g x) o d) ↔ In (Err d) (operands g x)
  dangles_in x v d =
      let q = instance_of g x v in (
        λ u. in_from_dangle (operands g x) d u.0 (subst (λ m. DangleAt (operands_at g m) d u.0) q u.1),
        λ i. let r = dangle_from_in d (operands g x) i in (r.0, subst (λ m. DangleAt (operands_at g m) d r.0) (sym q) r.1),
      )

  module _ (w : WellFormed g) where
    leads_valid : {x y : Instance} → Leads g x y → Valid g x → Valid g y
    leads_valid leads-here v = v
    leads_valid (leads-along {x = x} {y = y} i p) v = leads_valid p (operand_valid g w x y v i)

    reach_from_leads : {x y : Instance} → Leads g x y → Valid g x → Reach (grammar_equations g) (number g x) (number g y)
    reach_from_leads leads-here v = here
    reach_from_leads (leads-along {x = x} {y = y} i p) v =
        let u = (uses_in x v (number g y)).1 (y, i, refl) in
        along u.0 u.1 u.2 (reach_from_leads p (operand_valid g w x y v i))

    leads_from_reach : {i j : ℕ} → Reach (grammar_equations g) i j → (x : Instance) → Valid g x → number g x ≡ i → (y : Instance) × Valid g y × Leads g x y × (number g y ≡ j)
    leads_from_reach here x v q = (x, v, leads-here, q)
    leads_from_reach (along {i = i} {j = j} o l h p) x v q =
        let u : Uses (grammar_equations g) (number g x) j = subst (λ k. Uses (grammar_equations g) k j) (sym q) (o, l, h) in
        let y = (uses_in x v j).0 u in
        let r = leads_from_reach p y.0 (operand_valid g w x y.0 v y.1) y.2 in
        (r.0, r.1, leads-along y.1 r.2, r.3)

    pub dangling_bridge : (x : Instance) → Valid g x → ReachesDangling (grammar_equations g) (number g x) ↔ LeadsToDangling g x
    dangling_bridge x v = (
      λ h.
          let r = leads_from_reach h.3 x v refl in
          let at : DanglesAt (grammar_equations g) (number g r.0) h.1 h.2 = subst (λ k. DanglesAt (grammar_equations g) k h.1 h.2) (sym r.3) h.4 in
          (r.0, h.2, r.2, (dangles_in r.0 r.1 h.2).0 (h.1, at)),
      λ h.
          let at = (dangles_in h.0 (leads_valid h.2 v) h.1).1 h.3 in
          (number g h.0, at.0, h.1, reach_from_leads h.2 v, at.1),
    )

    pub whole_bridge : (x : Instance) → Valid g x → Whole (grammar_equations g) (number g x) ↔ Complete g x
    whole_bridge x v = (λ whole h. whole ((dangling_bridge x v).1 h), λ complete h. complete ((dangling_bridge x v).0 h))

  -- The equation of a valid instance, over the values w of the numbers.
  module _ (w : ℕ → Value) (x : Instance) (i : ℕ) (is : instance_at g i ≡ Some x) where
    abbrev value_of : Instance → Value
    value_of y = w (number g y)

    operand_is : (k : ℕ) (o : InstanceOperand) → slice_get (operands g x) k ≡ Some o → slice_get (operands_at g (instance_at g i)) k ≡ Some o
    operand_is k o q = ap (λ m. slice_get (operands_at g m) k) is ∙ q

    step_is : (k : ℕ) (o : InstanceOperand) → slice_get (operands g x) k ≡ Some o → (u v : Value) → (grammar_equations g).step i k u v ≡ stepped (step_sort g x k) u v
    step_is k o q u v =
        ap (λ m. step_at g m k (slice_get (operands_at g (instance_at g i)) k) u v) is ∙ ap (λ a. step_at g (Some x) k a u v) (operand_is k o q)

    after_ok : (k : ℕ) (y : Instance) → slice_get (operands g x) k ≡ Some (Ok y) → after (grammar_equations g) w i (suc k) ≡ stepped (step_sort g x k) (after (grammar_equations g) w i k) (value_of y)
    after_ok k y q =
        ap (λ a. steppedBy (grammar_equations g) w i k (after (grammar_equations g) w i k) (numbered_operand g a)) (operand_is k (Ok y) q)
        ∙ step_is k (Ok y) q (after (grammar_equations g) w i k) (value_of y)

    after_err : (k : ℕ) (d : Dangling) → slice_get (operands g x) k ≡ Some (Err d) → after (grammar_equations g) w i (suc k) ≡ after (grammar_equations g) w i k
    after_err k d q =
        ap (λ a. steppedBy (grammar_equations g) w i k (after (grammar_equations g) w i k) (numbered_operand g a)) (operand_is k (Err d) q)

    -- The operands from number k on are os.
    abbrev From : ℕ → List InstanceOperand → Type 0
    From k os = (m : ℕ) → slice_get (operands g x) (k + m) ≡ slice_get os m

    from_first : (k : ℕ) (o : InstanceOperand) (os : List InstanceOperand) → From k (o ∷ os) → slice_get (operands g x) k ≡ Some o
    from_first k o os f = let e : k ≡ k + 0 = omega arith in ap (slice_get (operands g x)) e ∙ f 0

    from_rest : (k : ℕ) (o : InstanceOperand) (os : List InstanceOperand) → From k (o ∷ os) → From (suc k) os
    from_rest k o os f m = let e : suc k + m ≡ k + suc m = omega arith in ap (slice_get (operands g x)) e ∙ f (suc m)

    after_evaluated : (os : List InstanceOperand) (k : ℕ) → From k os → after (grammar_equations g) w i (k + length os) ≡ evaluated_from g value_of x k (after (grammar_equations g) w i k) os
    after_evaluated [] k f = let e : k + 0 ≡ k = omega arith in ap (after (grammar_equations g) w i) e
    after_evaluated (Ok y ∷ os) k f =
        let e : k + suc (length os) ≡ suc k + length os = omega arith in
        ap (after (grammar_equations g) w i) e
        ∙ after_evaluated os (suc k) (from_rest k (Ok y) os f)
        ∙ ap (λ u. evaluated_from g value_of x (suc k) u os) (after_ok k y (from_first k (Ok y) os f))
    after_evaluated (Err d ∷ os) k f =
        let e : k + suc (length os) ≡ suc k + length os = omega arith in
        ap (after (grammar_equations g) w i) e
        ∙ after_evaluated os (suc k) (from_rest k (Err d) os f)
        ∙ ap (λ u. evaluated_from g value_of x (suc k) u os) (after_err k d (from_first k (Err d) os f))

    equation_is : equation (grammar_equations g) w i ≡ evaluated g value_of x
    equation_is =
        let count : length (operands_at g (instance_at g i)) ≡ 0 + length (operands g x) = omega (arith, ap (λ m. length (operands_at g m)) is) in
        let all : From 0 (operands g x) = λ m. let e : 0 + m ≡ m = omega arith in ap (slice_get (operands g x)) e in
        ap (after (grammar_equations g) w i) count
        ∙ after_evaluated (operands g x) 0 all
        ∙ ap (λ u. evaluated_from g value_of x 0 u (operands g x)) (ap (start_at g) is)

  pub equation_bridge : (w : ℕ → Value) (x : Instance) → Valid g x → equation (grammar_equations g) w (number g x) ≡ evaluated g (λ y. w (number g y)) x
  equation_bridge w x v = equation_is w x (number g x) (instance_of g x v)
