-- Whether an instance reaches another, or a dangling operand, is decided by the least solution of the same operands over yes and no. Assumes nothing.
use Rattle.std.proofs.Common.{◌≡◌, ℕ, zero, suc, ◌<◌, ◌≤◌, Bool, true, false, ◌||◌, eqb, ◌⊎◌, Ok, Err, Decides, sym, refl, ap, ◌∙◌, subst, inl, inr, ⊎_elim, arith}
use Rattle.std.proofs.lemmas.Bool.{cases_lt, cases_Bool, both_ways, false≢true, or_left, or_right, or_cases, eqb-true, eq-eqb}
use Rattle.std.proofs.lemmas.Bool.Decides.{Decides-below_or}
use Rattle.lattices.specs.YesNos.{yes_le, yes_laws}
use Rattle.references.specs.declared.Dangling.{Dangling}
use Rattle.equations.specs.Equations.{Equations, Operand, stepped, after, Lawful}
use Rattle.equations.specs.Reach.{Reach, here, along, ReachesDangling, Whole}
use Rattle.equations.proofs.Monotone.{StepKeeps}
use Rattle.equations.proofs.Least.{iterate, stationary, solution, solution_solves}

-- The equations of: is d true of this instance, or of one that it reaches?
abbrev yes_no : {V : Type 0} → Equations V → (ℕ → Bool) → Equations Bool
yes_no e d = record { size = e.size; count = e.count; operand = e.operand; start = d; step = λ i k x y. x || y }

module _ {V : Type 0} (e : Equations V) (d : ℕ → Bool) where
  -- Some instance in the reach of i has d true.
  abbrev pub ReachesTrue : ℕ → Type 0
  ReachesTrue i = (j : ℕ) × Reach e i j × (d j ≡ true)

  -- Over values w that say yes only where such an instance is reached, an equation says yes only there.
  module _ (w : ℕ → Bool) (sound : (j : ℕ) → w j ≡ true → ReachesTrue j) where
    step_sound : (i k : ℕ) (x : Bool) (op : Operand) → k < e.count i → e.operand i k ≡ op → (x ≡ true → ReachesTrue i) → stepped (yes_no e d) w i k x op ≡ true → ReachesTrue i
    step_sound i k x (Ok j) l q f t =
        ⊎_elim f (λ y. let r = sound j y in (r.0, along k l q r.1, r.2)) (or_cases x (w j) t)
    step_sound i k x (Err r) l q f t = f t

    after_sound : (i n : ℕ) → n ≤ e.count i → after (yes_no e d) w i n ≡ true → ReachesTrue i
    after_sound i zero l t = (i, here, t)
    after_sound i (suc n) l t =
        step_sound i n (after (yes_no e d) w i n) (e.operand i n) l refl (after_sound i n (omega arith)) t

  iterate_sound : (t i : ℕ) → iterate (yes_no e d) false t i ≡ true → ReachesTrue i
  iterate_sound zero i h = absurd (false≢true h)
  iterate_sound (suc t) i h = after_sound (iterate (yes_no e d) false t) (iterate_sound t) i (e.count i) (omega arith) h

  -- An equation says yes where d does, and where an operand's value does.
  module _ (w : ℕ → Bool) (i : ℕ) where
    step_stays : (k : ℕ) (x : Bool) (op : Operand) → x ≡ true → stepped (yes_no e d) w i k x op ≡ true
    step_stays k x (Ok j) t = or_left x (w j) t
    step_stays k x (Err r) t = t

    after_start : (n : ℕ) → d i ≡ true → after (yes_no e d) w i n ≡ true
    after_start zero t = t
    after_start (suc n) t = step_stays n (after (yes_no e d) w i n) (e.operand i n) (after_start n t)

    after_operand : (j o n : ℕ) → o < n → e.operand i o ≡ Ok j → w j ≡ true → after (yes_no e d) w i n ≡ true
    after_operand j o zero l q t = absurd (omega arith)
    after_operand j o (suc n) l q t =
        let x : Bool = after (yes_no e d) w i n in
        ⊎_elim
        (λ (m : o < n). step_stays n x (e.operand i n) (after_operand j o n m q t))
        (λ (m : n ≤ o).
        let k : n ≡ o = omega arith in
        ap (stepped (yes_no e d) w i n x) (ap (e.operand i) k ∙ q) ∙ or_right x (w j) t)
        (cases_lt o n)

  yes_no_keeps : StepKeeps yes_le (yes_no e d)
  yes_no_keeps i k x y v w p q t = ⊎_elim (λ a. or_left y w (p a)) (λ b. or_right y w (q b)) (or_cases x v t)

  -- The least solution over yes and no.
  abbrev answer : ℕ → Bool
  answer = solution yes_laws (yes_no e d) yes_no_keeps

  answer_sound : (i : ℕ) → answer i ≡ true → ReachesTrue i
  unfolding solution
  answer_sound i t = iterate_sound (stationary yes_laws (yes_no e d) yes_no_keeps).0 i t

  module _ {bot : V} {le : V → V → Type 0} (lawful : Lawful bot le e) where
    answer_complete : {i j : ℕ} → i < e.size → Reach e i j → d j ≡ true → answer i ≡ true
    answer_complete {i} l here t =
        solution_solves yes_laws (yes_no e d) yes_no_keeps i l ∙ after_start answer i (e.count i) t
    answer_complete {i} l (along {j = k} o m q p) t =
        solution_solves yes_laws (yes_no e d) yes_no_keeps i l ∙ after_operand answer i k o (e.count i) m q (answer_complete (lawful.operand_within i o k q) p t)

    pub reaches_true_decided : (i : ℕ) → i < e.size → ReachesTrue i ⊎ (ReachesTrue i → ⊥)
    reaches_true_decided i l =
        ⊎_elim (λ t. inl (answer_sound i t)) (λ f. inr (λ h. both_ways (answer i) f (answer_complete l h.1 h.2))) (cases_Bool (answer i))

-- Whether an operand dangles.
abbrev is_dangling : Operand → Bool
is_dangling (Ok j) = false
is_dangling (Err d) = true

dangling_decides : (op : Operand) → Decides (is_dangling op) ((d : Dangling) × (op ≡ Err d))
dangling_decides (Ok j) = (λ t. absurd (false≢true t), λ h. ap is_dangling h.1)
dangling_decides (Err d) = (λ t. (d, refl), λ h. refl)

-- Whether one of the first n operands of j dangles.
abbrev any_dangling : {V : Type 0} → Equations V → ℕ → ℕ → Bool
any_dangling e j zero = false
any_dangling e j (suc n) = is_dangling (e.operand j n) || any_dangling e j n

any_decides : {V : Type 0} (e : Equations V) (j n : ℕ) → Decides (any_dangling e j n) ((o : ℕ) × (o < n) × ((d : Dangling) × (e.operand j o ≡ Err d)))
any_decides e j =
    Decides-below_or (λ o. is_dangling (e.operand j o)) (λ o. (d : Dangling) × (e.operand j o ≡ Err d)) (any_dangling e j) (λ o. dangling_decides (e.operand j o)) refl (λ n. refl)

module _ {V : Type 0} {bot : V} {le : V → V → Type 0} (e : Equations V) (lawful : Lawful bot le e) where
  pub reach_decided : (i j : ℕ) → i < e.size → Reach e i j ⊎ (Reach e i j → ⊥)
  reach_decided i j l =
      ⊎_elim
      (λ h. inl (subst (Reach e i) (sym (eqb-true j h.0 h.2)) h.1))
      (λ n. inr (λ r. n (j, r, eq-eqb j j refl)))
      (reaches_true_decided e (eqb j) lawful i l)

  pub whole_decided : (i : ℕ) → i < e.size → Whole e i ⊎ ReachesDangling e i
  whole_decided i l =
      ⊎_elim
      (λ h. let a = (any_decides e h.0 (e.count h.0)).0 h.2 in inr (h.0, a.0, a.2.0, h.1, (a.1, a.2.1)))
      (λ n. inl (λ d. n (d.0, d.3, (any_decides e d.0 (e.count d.0)).1 (d.1, d.4.0, (d.2, d.4.1)))))
      (reaches_true_decided e (λ j. any_dangling e j (e.count j)) lawful i l)
