-- How many instances sets have, and how many rounds new ones allow. Assumes nothing.
use Rattle.std.proofs.Common.{◌≡◌, ℕ, zero, suc, ◌+◌, ◌*◌, ◌<◌, ◌≤◌, Bool, true, cond, ⊎_elim, mul-le-mul_right, add-mul, mul-one, mul-add, arith}
use Rattle.std.proofs.lemmas.Bool.{cases_Bool}
use Rattle.equations.specs.Rounds.{total, members}
use Rattle.equations.proofs.Totals.{total_le, total_more}

-- Parts that add up to at most the parts of h have sums that do.
pub total_both : (f g h : ℕ → ℕ) (n : ℕ) → ((i : ℕ) → i < n → f i + g i ≤ h i) → total f n + total g n ≤ total h n
total_both f g h zero l = omega arith
total_both f g h (suc n) l = omega (arith, total_both f g h n (λ i m. l i (omega arith)), l n (omega arith))

-- A set has at most as many instances as one that holds it.
pub members_le : (s t : ℕ → Bool) (n : ℕ) → ((j : ℕ) → j < n → s j ≡ true → t j ≡ true) → members s n ≤ members t n
members_le s t n h =
    total_le (λ j. cond (s j) 1 0) (λ j. cond (t j) 1 0) n
    (λ j l.
    ⊎_elim
    (λ (p : s j ≡ true). let q : t j ≡ true = h j l p in rw (p, q) (omega arith))
    (λ p. rw p (omega arith))
    (cases_Bool (s j)))

-- A set with an instance has at least 1.
pub members_some : (s : ℕ → Bool) (n i : ℕ) → i < n → s i ≡ true → 1 ≤ members s n
members_some s n i l t =
    let one : 1 ≤ cond (s i) 1 0 = rw t (omega arith) in
    omega (arith, total_more (λ j. 0) (λ j. cond (s j) 1 0) n i 1 l (λ j. omega arith) (omega arith))

-- k rounds, where n of m instances are new: at most n times the height h, and one.
pub rounds_within : (old n m h k : ℕ) → old + n ≤ m → 1 ≤ n → k ≤ n * h + 1 → k + old * (h + 1) ≤ m * (h + 1)
rounds_within old n m h k some one few =
    omega (arith, mul-le-mul_right (h + 1) some, add-mul old n (h + 1), mul-add n h 1, mul-one n)
