-- Lists: what stands at a place, what is behind it, and how a joined list is split. Assumes nothing.
use Rattle.std.proofs.Common.{◌≡◌, ℕ, zero, suc, ◌<◌, ◌⊎◌, List, [], ◌∷◌, ◌++◌, length, take, drop, Some, None, sym, refl, ap, ap₂, inl, inr, arith}
use Rattle.std.specs.List.{slice_get}

module _ {A : Type 0} where
  pub none_is_some : {x : A} → None ≡ Some x → ⊥
  none_is_some e = let z : ◌≡◌ {A = ℕ} 0 1 = cc in omega arith

  pub nth_within : (xs : List A) (k : ℕ) {x : A} → slice_get xs k ≡ Some x → k < length xs
  nth_within [] k e = absurd (none_is_some e)
  nth_within (y ∷ ys) zero e = omega arith
  nth_within (y ∷ ys) (suc k) e = let l = nth_within ys k e in omega arith

  pub nth_some : (xs : List A) (k : ℕ) → k < length xs → (x : A) × (slice_get xs k ≡ Some x)
  nth_some [] k l = absurd (omega arith)
  nth_some (y ∷ ys) zero l = (y, refl)
  nth_some (y ∷ ys) (suc k) l = nth_some ys k (omega arith)

  pub drop_none : (xs : List A) (k : ℕ) → slice_get xs k ≡ None → drop k xs ≡ []
  drop_none [] zero e = refl
  drop_none [] (suc k) e = refl
  drop_none (y ∷ ys) zero e = absurd (none_is_some (sym e))
  drop_none (y ∷ ys) (suc k) e = drop_none ys k e

  pub drop_some : (xs : List A) (k : ℕ) {x : A} → slice_get xs k ≡ Some x → drop k xs ≡ x ∷ drop (suc k) xs
  drop_some [] k e = absurd (none_is_some e)
  drop_some (y ∷ ys) zero e = cc
  drop_some (y ∷ ys) (suc k) e = drop_some ys k e

  pub take_some : (xs : List A) (k : ℕ) {x : A} → slice_get xs k ≡ Some x → xs ≡ take k xs ++ x ∷ drop (suc k) xs
  take_some [] k e = absurd (none_is_some e)
  take_some (y ∷ ys) zero e = cc
  take_some (y ∷ ys) (suc k) e = ap {B = List A} (λ r. y ∷ r) (take_some ys k e)

  pub nth_drop : (xs : List A) (k : ℕ) {y : A} {ys : List A} → drop k xs ≡ y ∷ ys → (slice_get xs k ≡ Some y) × (drop (suc k) xs ≡ ys)
  nth_drop [] zero e = (cc, cc)
  nth_drop [] (suc k) e = (cc, cc)
  nth_drop (x ∷ xs) zero e = (cc, cc)
  nth_drop (x ∷ xs) (suc k) e = nth_drop xs k e

  pub nth_end : (xs : List A) (k : ℕ) → drop k xs ≡ [] → slice_get xs k ≡ None
  nth_end [] k e = refl
  nth_end (x ∷ xs) zero e = cc
  nth_end (x ∷ xs) (suc k) e = nth_end xs k e

  pub nth_behind : (l : List A) (x : A) (r : List A) → slice_get (l ++ x ∷ r) (length l) ≡ Some x
  nth_behind [] x r = refl
  nth_behind (y ∷ l) x r = nth_behind l x r

  pub drop_behind : (l : List A) (x : A) (r : List A) → drop (suc (length l)) (l ++ x ∷ r) ≡ r
  drop_behind [] x r = refl
  drop_behind (y ∷ l) x r = drop_behind l x r

  -- An element of a joined list is in its first part or in its second.
  pub split : (a b l : List A) (x : A) (r : List A) → a ++ b ≡ l ++ x ∷ r →
      ((m : List A) × (a ≡ l ++ x ∷ m) × (r ≡ m ++ b)) ⊎ ((m : List A) × (l ≡ a ++ m) × (b ≡ m ++ x ∷ r))
  split [] b l x r e = inr (l, refl, e)
  split (y ∷ a) b [] x r e = inl (a, cc, cc)
  split (y ∷ a) b (z ∷ l) x r e =
      let here : y ≡ z = cc in
      let there : a ++ b ≡ l ++ x ∷ r = cc in
      elim (split a b l x r there) [
        | inl s ↦ inl (s.0, ap₂ ◌∷◌ here s.1, s.2)
        | inr s ↦ inr (s.0, ap₂ ◌∷◌ (sym here) s.1, s.2)
      ]
