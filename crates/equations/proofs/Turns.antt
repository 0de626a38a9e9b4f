-- What one turn, one sweep and rounds over a set keep, and what a round without a change shows. Assumes nothing.
use Rattle.std.proofs.Common.{◌≡◌, ℕ, zero, suc, ◌<◌, ◌≤◌, Bool, true, false, cond, eqb, Decides, sym, refl, ap, ◌∙◌, subst, ⊎_elim, arith}
use mathlib.Core.Path.{fun_ext}
use Rattle.std.proofs.lemmas.Bool.{cases_lt, cases_Bool, cond_both, eqb-true, eqb-false, both_ways}
use Rattle.equations.specs.Equations.{Equations, equation}
use Rattle.equations.specs.Rounds.{put, turn, swept, changed, changes, rounds}

-- What holds of x, if j is i, and of w j, if not, holds of the value at j.
pub put_both : {V : Type 0} (w : ℕ → V) (i : ℕ) (x : V) (j : ℕ) (P : V → Type 0) → (j ≡ i → P x) → ((j ≡ i → ⊥) → P (w j)) → P (put w i x j)
put_both w i x j P one other = cond_both (eqb j i) x (w j) P (λ t. one (eqb-true j i t)) (λ t. other (eqb-false j i t))

module _ {V : Type 0} (e : Equations V) (s : ℕ → Bool) where
  -- What each turn of an instance of the set keeps, rounds keep.
  module _ (P : (ℕ → V) → Type 0) (keep : (w : ℕ → V) (i : ℕ) → i < e.size → s i ≡ true → P w → P (put w i (equation e w i))) where
    pub swept_keep : (w : ℕ → V) → P w → (n : ℕ) → n ≤ e.size → P (swept e s n w)
    swept_keep w p zero l = p
    swept_keep w p (suc n) l =
        let u : ℕ → V = swept e s n w in
        let q : P u = swept_keep w p n (omega arith) in
        cond_both (s n) (put u n (equation e u n)) u P (λ t. keep u n l t q) (λ t. q)

    pub rounds_keep : (w : ℕ → V) → P w → (k : ℕ) → P (rounds e s k w)
    rounds_keep w p zero = p
    rounds_keep w p (suc k) = swept_keep (rounds e s k w) (rounds_keep w p k) e.size (omega arith)

  pub rounds_outside : (w : ℕ → V) (k i : ℕ) → s i ≡ false → rounds e s k w i ≡ w i
  rounds_outside w k =
      rounds_keep
      (λ u. (i : ℕ) → s i ≡ false → u i ≡ w i)
      (λ u j l t p i f. put_both u j (equation e u j) i (λ x. x ≡ w i) (λ q. absurd (both_ways (s i) f (ap s q ∙ t))) (λ n. p i f))
      w
      (λ i f. refl)
      k

  module _ {same : V → V → Bool} (decides : (x y : V) → Decides (same x y) (x ≡ y)) (w : ℕ → V) where
    -- A turn that counts no change leaves the family, and its instance is at its equation's value.
    pub turn_unchanged : (i : ℕ) → changed same e s i w ≡ 0 → (turn e s i w ≡ w) × (s i ≡ true → w i ≡ equation e w i)
    turn_unchanged i =
        let x : V = equation e w i in
        elim (s i) as (λ b. ◌≡◌ {A = ℕ} (cond b (cond (same x (w i)) 0 1) 0) 0 → (cond b (put w i x) w ≡ w) × (b ≡ true → w i ≡ x)) [
          | true ↦ (λ z.
              let is : x ≡ w i = ⊎_elim (λ t. (decides x (w i)).0 t) (λ (f : same x (w i) ≡ false). absurd (omega (arith, rw f at z))) (cases_Bool (same x (w i))) in
              (fun_ext (λ j. put_both w i x j (λ y. y ≡ w j) (λ q. is ∙ ap w (sym q)) (λ n. refl)), λ t. sym is))
          | false ↦ (λ z. (refl, λ t. absurd (both_ways true (sym t) refl)))
        ]

    -- So do the turns of the instances below n.
    pub swept_unchanged : (n : ℕ) → changes same e s n w ≡ 0 → (swept e s n w ≡ w) × ((i : ℕ) → i < n → s i ≡ true → w i ≡ equation e w i)
    swept_unchanged zero z = (refl, λ i l t. absurd (omega arith))
    swept_unchanged (suc n) z =
        let before = swept_unchanged n (omega arith) in
        let none : changed same e s n w ≡ 0 = subst (λ u. changed same e s n u ≡ 0) before.0 (omega arith) in
        let here = turn_unchanged n none in
        (ap (turn e s n) before.0 ∙ here.0, λ i l t. ⊎_elim (λ (m : i < n). before.1 i m t) (λ (m : n ≤ i). let k : n ≡ i = omega arith in subst (λ z. s z ≡ true → w z ≡ equation e w z) k here.1 t) (cases_lt i n))
