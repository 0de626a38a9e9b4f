-- Sums f 0 + .. + f (n - 1). Assumes nothing.
use Rattle.std.proofs.Common.{◌≡◌, ℕ, zero, suc, ◌+◌, ◌*◌, ◌<◌, ◌≤◌, subst, ⊎_elim, add-mul, arith}
use Rattle.std.proofs.lemmas.Bool.{cases_lt}
use Rattle.equations.specs.Rounds.{total}

pub total_le : (f g : ℕ → ℕ) (n : ℕ) → ((i : ℕ) → i < n → f i ≤ g i) → total f n ≤ total g n
total_le f g zero h = omega arith
total_le f g (suc n) h = omega (arith, total_le f g n (λ i l. h i (omega arith)), h n (omega arith))

-- No part shrinks and the sum does not grow: the parts are equal.
pub total_same : (f g : ℕ → ℕ) (n : ℕ) → ((i : ℕ) → i < n → f i ≤ g i) → total g n ≤ total f n → (i : ℕ) → i < n → f i ≡ g i
total_same f g zero h t i l = absurd (omega arith)
total_same f g (suc n) h t i l =
    let low : (k : ℕ) → k < n → f k ≤ g k = λ k m. h k (omega arith) in
    let one : f n ≤ g n = h n (omega arith) in
    let rest : total f n ≤ total g n = total_le f g n low in
    ⊎_elim
    (λ (m : i < n). total_same f g n low (omega arith) i m)
    (λ (m : n ≤ i). let k : n ≡ i = omega arith in subst (λ z. f z ≡ g z) k (omega arith))
    (cases_lt i n)

-- One part grows by c at least, and no part shrinks.
pub total_more : (f g : ℕ → ℕ) (n i c : ℕ) → i < n → ((j : ℕ) → f j ≤ g j) → f i + c ≤ g i → total f n + c ≤ total g n
total_more f g zero i c l h one = absurd (omega arith)
total_more f g (suc n) i c l h one =
    ⊎_elim
    (λ (m : i < n). omega (arith, total_more f g n i c m h one, h n))
    (λ (m : n ≤ i). let k : i ≡ n = omega arith in omega (arith, total_le f g n (λ j _. h j), subst (λ z. f z + c ≤ g z) k one))
    (cases_lt i n)

pub total_times : (f g : ℕ → ℕ) (h n : ℕ) → ((i : ℕ) → f i ≤ g i * h) → total f n ≤ total g n * h
total_times f g h zero top = omega arith
total_times f g h (suc n) top = omega (arith, add-mul (total g n) (g n) h, total_times f g h n top, top n)
