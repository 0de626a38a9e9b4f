-- How many instances a set has that is none, not all, or one more. Assumes nothing.
use Rattle.std.proofs.Common.{◌≡◌, ℕ, zero, suc, ◌+◌, ◌<◌, ◌≤◌, Bool, true, false, cond, ◌≢◌, refl, ap, subst, ⊎_elim, arith}
use Rattle.std.proofs.lemmas.Bool.{cases_lt}
use Rattle.equations.specs.Rounds.{members}

-- 1 if the instance is in the set, else 0.
abbrev one : Bool → ℕ
one b = cond b 1 0

one_most : (b : Bool) → one b ≤ 1
one_most true = omega arith
one_most false = omega arith

pub members_none : (s : ℕ → Bool) (n : ℕ) → ((j : ℕ) → j < n → s j ≡ false) → members s n ≡ 0
members_none s zero h = refl
members_none s (suc n) h =
    let last : one (s n) ≡ 0 = ap one (h n (omega arith)) in
    omega (arith, members_none s n (λ j l. h j (omega arith)))

pub members_most : (s : ℕ → Bool) (n : ℕ) → members s n ≤ n
members_most s zero = omega arith
members_most s (suc n) = omega (arith, members_most s n, one_most (s n))

-- Outside the set there is an instance below n.
pub members_room : (s : ℕ → Bool) (n i : ℕ) → i < n → s i ≡ false → members s n < n
members_room s zero i l out = absurd (omega arith)
members_room s (suc n) i l out =
    ⊎_elim
    (λ (m : i < n). omega (arith, members_room s n i m out, one_most (s n)))
    (λ (m : n ≤ i).
    let last : i ≡ n = omega arith in
    let none : one (s n) ≡ 0 = subst (λ k. one (s k) ≡ 0) last (ap one out) in
    omega (arith, members_most s n))
    (cases_lt i n)

members_same : (s t : ℕ → Bool) (n : ℕ) → ((j : ℕ) → j < n → t j ≡ s j) → members t n ≡ members s n
members_same s t zero h = refl
members_same s t (suc n) h =
    let last : one (t n) ≡ one (s n) = ap one (h n (omega arith)) in
    omega (arith, members_same s t n (λ j l. h j (omega arith)))

-- t is s and i.
pub members_more : (s t : ℕ → Bool) (n i : ℕ) → i < n → s i ≡ false → t i ≡ true → ((j : ℕ) → j < n → j ≢ i → t j ≡ s j) → members t n ≡ members s n + 1
members_more s t zero i l out in-t h = absurd (omega arith)
members_more s t (suc n) i l out in-t h =
    ⊎_elim
    (λ (m : i < n).
    let last : one (t n) ≡ one (s n) = ap one (h n (omega arith) (λ q. omega arith)) in
    omega (arith, members_more s t n i m out in-t (λ j k. h j (omega arith))))
    (λ (m : n ≤ i).
    let is : i ≡ n = omega arith in
    let none : one (s n) ≡ 0 = subst (λ k. one (s k) ≡ 0) is (ap one out) in
    let some : one (t n) ≡ 1 = subst (λ k. one (t k) ≡ 1) is (ap one in-t) in
    omega (arith, members_same s t n (λ j k. h j (omega arith) (λ q. omega arith))))
    (cases_lt i n)
