-- What the value of an instance says, by the values of its operands. Assumes nothing.
use Rattle.std.proofs.Common.{◌≡◌, ℕ, suc, ◌^◌, ◌<◌, Bool, true, false, cond, ◌||◌, eqb, ltb, ◌⊎◌, ◌↔◌, List, [], ◌∷◌, Some, None, Ok, Err, sym, refl, ap, ◌∙◌, inl, inr, ⊎_elim, arith}
use Rattle.lattices.specs.Bits.{bit}
use Rattle.lattices.specs.Pairs.{pair}
use Rattle.lattices.specs.Sets.{Has, empty_set, set_union, has_union, has_empty}
use Rattle.lattices.specs.declared.number_set.NumberSet.{NumberSet}
use Rattle.std.specs.List.{slice_get}
use Rattle.std.proofs.lemmas.Nat.Bits.{bit_at-pow_same, bit_at-pow_other}
use Rattle.std.proofs.lemmas.Bool.{cases_eq, lt-ltb, ltb-true, eqb-true, both_ways, false≢true, or_cases, or_left, or_right}
use Rattle.grammar_equations.specs.GrammarEquations.{InstanceOperand, operands, suffix_operands, start_of, step_sort, evaluated_from, evaluated}
use Rattle.grammar_equations.specs.Instances.{Instance, symbol, suffix, occurrence, follow}
use Rattle.grammar_equations.specs.Paths.{In, head, tail}
use Rattle.grammar_equations.specs.Rules.{known, Rules, left_of, right_of}
use Rattle.grammar_equations.specs.Values.{Value, nullable, has, bottom, empty_form, end_mark, join, concatenate, stepped, single}

-- The set of one number.
pub has_single : (s c : ℕ) → Has (single s) c ≡ true → c ≡ s
has_single s c = go (ltb s 64)
  where
    go : (b : Bool) → eqb (bit (cond b (2 ^ s) 0) c) 1 ≡ true → c ≡ s
    go true e =
        ⊎_elim (λ q. q) (λ n. absurd (false≢true (sym (ap (λ d. eqb d 1) (bit_at-pow_other s c n)) ∙ e))) (cases_eq c s)
    go false e = absurd (both_ways (Has empty_set c) (has_empty c) e)

pub single_has : (s : ℕ) → s < 64 → Has (single s) s ≡ true
single_has s l = ap (λ b. eqb (bit (cond b (2 ^ s) 0) s) 1) (lt-ltb s 64 l) ∙ ap (λ d. eqb d 1) (bit_at-pow_same s)

pub empty_has : {A : Type 0} (c : ℕ) → Has empty_set c ≡ true → A
empty_has c e = absurd (both_ways (Has empty_set c) (has_empty c) e)

-- The set of one number under a condition.
abbrev chosen : Bool → ℕ → Value
chosen b n = cond b (pair false (single n)) bottom

chosen_has : (b : Bool) (n c : ℕ) → has (chosen b n) c ≡ true → (b ≡ true) × (c ≡ n)
chosen_has true n c e = (refl, has_single n c e)
chosen_has false n c e = empty_has c e

chosen_nullable : {A : Type 0} (b : Bool) (n : ℕ) → nullable (chosen b n) ≡ true → A
chosen_nullable true n e = absurd (false≢true e)
chosen_nullable false n e = absurd (false≢true e)

-- The union under a condition.
choice_has : (b : Bool) (s t : NumberSet) (c : ℕ) → (Has (cond b (set_union s t) s) c ≡ true) ↔ ((Has s c ≡ true) ⊎ ((b ≡ true) × (Has t c ≡ true)))
choice_has true s t c = (
  λ e. ⊎_elim (λ q. inl q) (λ q. inr (refl, q)) (or_cases (Has s c) (Has t c) (sym (has_union s t c) ∙ e)),
  ⊎_elim (λ q. has_union s t c ∙ or_left (Has s c) (Has t c) q) (λ q. has_union s t c ∙ or_right (Has s c) (Has t c) q.1),
)
choice_has false s t c = (λ e. inl e, ⊎_elim (λ q. q) (λ q. absurd (false≢true q.0)))

concatenate_set : (b : Bool) (x v : Value) → (cond b (pair v.first (set_union x.second v.second)) x).second ≡ cond b (set_union x.second v.second) x.second
concatenate_set true x v = refl
concatenate_set false x v = refl

concatenate_has : (x v : Value) (c : ℕ) → (has (stepped concatenate x v) c ≡ true) ↔ ((has x c ≡ true) ⊎ ((nullable x ≡ true) × (has v c ≡ true)))
concatenate_has x v c = rw concatenate_set (choice_has (nullable x) x.second v.second c)

concatenate_nullable : (x v : Value) → (nullable (stepped concatenate x v) ≡ true) ↔ ((nullable x ≡ true) × (nullable v ≡ true))
concatenate_nullable x v = go (nullable x) refl
  where
    go : (b : Bool) → nullable x ≡ b → (nullable (cond b (pair v.first (set_union x.second v.second)) x) ≡ true) ↔ ((nullable x ≡ true) × (nullable v ≡ true))
    go true e = (λ q. (e, q), λ q. q.1)
    go false e = (λ q. absurd (both_ways (nullable x) e q), λ q. q.0)

-- Behind the empty form a value stays as it is.
behind_empty : (v : Value) (c : ℕ) → (has (stepped concatenate empty_form v) c ≡ true) ↔ (has v c ≡ true)
behind_empty v c =
    (λ e. ⊎_elim (λ q. empty_has c q) (λ q. q.1) ((concatenate_has empty_form v c).0 e), λ e. (concatenate_has empty_form v c).1 (inr (refl, e)))

-- Joins of operands.
module _ (g : Rules) (w : Instance → Value) (test : Value → Bool) (joins : (u v : Value) → test (stepped join u v) ≡ (test u || test v)) (x : Instance) (sorts : (k : ℕ) → step_sort g x k ≡ join) where
  abbrev Tested : List InstanceOperand → Type 0
  Tested os = (y : Instance) × In (Ok y) os × (test (w y) ≡ true)

  step_test : (k : ℕ) (v u : Value) → test (stepped (step_sort g x k) v u) ≡ (test v || test u)
  step_test k v u = rw sorts (joins v u)

  fold_cases : (k : ℕ) (v : Value) (os : List InstanceOperand) → test (evaluated_from g w x k v os) ≡ true → (test v ≡ true) ⊎ Tested os
  fold_cases k v [] e = inl e
  fold_cases k v (Ok y ∷ os) e =
      elim (fold_cases (suc k) (stepped (step_sort g x k) v (w y)) os e) [
        | inl q ↦ ⊎_elim (λ r. inl r) (λ r. inr (y, head, r)) (or_cases (test v) (test (w y)) (sym (step_test k v (w y)) ∙ q))
        | inr q ↦ inr (q.0, tail q.1, q.2)
      ]
  fold_cases k v (Err d ∷ os) e = ⊎_elim (λ q. inl q) (λ q. inr (q.0, tail q.1, q.2)) (fold_cases (suc k) v os e)

  fold_start : (k : ℕ) (v : Value) (os : List InstanceOperand) → test v ≡ true → test (evaluated_from g w x k v os) ≡ true
  fold_start k v [] e = e
  fold_start k v (Ok y ∷ os) e =
      fold_start (suc k) (stepped (step_sort g x k) v (w y)) os (step_test k v (w y) ∙ or_left (test v) (test (w y)) e)
  fold_start k v (Err d ∷ os) e = fold_start (suc k) v os e

  fold_operand : {y : Instance} (k : ℕ) (v : Value) {os : List InstanceOperand} → In (Ok y) os → test (w y) ≡ true → test (evaluated_from g w x k v os) ≡ true
  fold_operand {y} k v (head {os = os}) e =
      fold_start (suc k) (stepped (step_sort g x k) v (w y)) os (step_test k v (w y) ∙ or_right (test v) (test (w y)) e)
  fold_operand k v (tail {p = Ok z} i) e = fold_operand (suc k) (stepped (step_sort g x k) v (w z)) i e
  fold_operand k v (tail {p = Err d} i) e = fold_operand (suc k) v i e

  pub join_value : (test (evaluated g w x) ≡ true) ↔ ((test (start_of g x) ≡ true) ⊎ ((y : Instance) × In (Ok y) (operands g x) × (test (w y) ≡ true)))
  join_value = (
    fold_cases 0 (start_of g x) (operands g x),
    ⊎_elim (fold_start 0 (start_of g x) (operands g x)) (λ q. fold_operand 0 (start_of g x) q.1 q.2),
  )

pub joins_has : (c : ℕ) (u v : Value) → has (stepped join u v) c ≡ (has u c || has v c)
joins_has c u v = has_union u.second v.second c

module _ (g : Rules) (w : Instance → Value) where
  abbrev pub Operand : (Value → Bool) → Instance → Type 0
  Operand test x = (y : Instance) × In (Ok y) (operands g x) × (test (w y) ≡ true)

  pub symbol_nullable : (s : ℕ) → (nullable (evaluated g w (symbol s)) ≡ true) ↔ Operand nullable (symbol s)
  symbol_nullable s =
      let value = join_value g w nullable (λ u v. refl) (symbol s) (λ k. refl) in
      (λ e. ⊎_elim (λ q. chosen_nullable (ltb s g.terminals) s q) (λ q. q) (value.0 e), λ q. value.1 (inr q))

  pub symbol_has : (s c : ℕ) → (has (evaluated g w (symbol s)) c ≡ true) ↔ ((has (start_of g (symbol s)) c ≡ true) ⊎ Operand (λ v. has v c) (symbol s))
  symbol_has s c = join_value g w (λ v. has v c) (joins_has c) (symbol s) (λ k. refl)

  pub follow_has : (a c : ℕ) → (has (evaluated g w (follow a)) c ≡ true) ↔ ((has (start_of g (follow a)) c ≡ true) ⊎ Operand (λ v. has v c) (follow a))
  follow_has a c = join_value g w (λ v. has v c) (joins_has c) (follow a) (λ k. refl)

  pub suffix_end : (p k : ℕ) → slice_get (right_of g p) k ≡ None → evaluated g w (suffix p k) ≡ empty_form
  suffix_end p k e = ap (λ o. evaluated_from g w (suffix p k) 0 empty_form (suffix_operands g p k o)) e

  module _ (p k s : ℕ) (e : slice_get (right_of g p) k ≡ Some (known s)) where
    abbrev joint : Value
    joint = stepped concatenate (stepped concatenate empty_form (w (symbol s))) (w (suffix p (suc k)))

    suffix_joint : evaluated g w (suffix p k) ≡ joint
    suffix_joint = ap (λ o. evaluated_from g w (suffix p k) 0 empty_form (suffix_operands g p k o)) e

    pub suffix_nullable : (nullable (evaluated g w (suffix p k)) ≡ true) ↔ ((nullable (w (symbol s)) ≡ true) × (nullable (w (suffix p (suc k))) ≡ true))
    suffix_nullable = rw suffix_joint (concatenate_nullable (stepped concatenate empty_form (w (symbol s))) (w (suffix p (suc k))))

    pub suffix_has : (c : ℕ) → (has (evaluated g w (suffix p k)) c ≡ true) ↔
        ((has (w (symbol s)) c ≡ true) ⊎ ((nullable (w (symbol s)) ≡ true) × (has (w (suffix p (suc k))) c ≡ true)))
    suffix_has c =
        let both = concatenate_has (stepped concatenate empty_form (w (symbol s))) (w (suffix p (suc k))) c in
        let first = behind_empty (w (symbol s)) c in
        rw suffix_joint (λ q. ⊎_elim (λ h. inl (first.0 h)) (λ h. inr h) (both.0 q), λ q. both.1 (⊎_elim (λ h. inl (first.1 h)) (λ h. inr h) q))

  pub occurrence_has : (p k c : ℕ) → (has (evaluated g w (occurrence p k)) c ≡ true) ↔
      ((has (w (suffix p (suc k))) c ≡ true) ⊎ ((nullable (w (suffix p (suc k))) ≡ true) × (has (w (follow (left_of g p))) c ≡ true)))
  occurrence_has p k c =
      let so_far = stepped concatenate empty_form (w (suffix p (suc k))) in
      let both = choice_has (nullable so_far) so_far.second (w (follow (left_of g p))).second c in
      let first = behind_empty (w (suffix p (suc k))) c in
      (λ q. ⊎_elim (λ h. inl (first.0 h)) (λ h. inr h) (both.0 q), λ q. both.1 (⊎_elim (λ h. inl (first.1 h)) (λ h. inr h) q))

-- The values that a symbol and a follow start from.
module _ (g : Rules) where
  pub symbol_start : (s c : ℕ) → has (start_of g (symbol s)) c ≡ true → (s < g.terminals) × (c ≡ s)
  symbol_start s c e = let q = chosen_has (ltb s g.terminals) s c e in (ltb-true s g.terminals q.0, q.1)

  pub terminal_start : (s : ℕ) → s < g.terminals → s < 64 → has (start_of g (symbol s)) s ≡ true
  terminal_start s l small = rw (lt-ltb s g.terminals l) (single_has s small)

  pub follow_start : (a c : ℕ) → has (start_of g (follow a)) c ≡ true → (a ≡ 0) × (c ≡ end_mark)
  follow_start a c e = let q = chosen_has (eqb a 0) end_mark c e in (eqb-true a 0 q.0, q.1)

  pub end_start : has (start_of g (follow 0)) end_mark ≡ true
  end_start = single_has end_mark (omega arith)
