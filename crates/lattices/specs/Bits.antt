-- The binary digits of a number. Assumes nothing.
use Rattle.std.specs.Prelude.{◌≡◌, ℕ, zero, suc, ◌+◌, ◌-◌, ◌/◌, ◌%◌, ◌^◌, ◌<◌, ◌≤◌, Bool, cond, ◌==◌, nat_eq, refl}
use Rattle.std.proofs.Common.{sym, ap, ◌∙◌, pow-suc, arith}
use Rattle.std.proofs.Math.Path.{fun_ext}
use Rattle.std.proofs.Math.Arith.{lt-one}
use Rattle.std.proofs.lemmas.Nat.Bits.{bit_at_lowest, bit_at-suc, bit_at-lt}
use Rattle.std.proofs.lemmas.Bool.Decides.{nat_tests}
use Rattle.std.specs.Int.Count.{ones, ones_step}

-- The digit of b at place n, 0 or 1; the lowest place is 0.
abbrev pub bit : ℕ → ℕ → ℕ
bit b n = b / 2 ^ n % 2

pub half_below : (k b : ℕ) → b < 2 ^ suc k → b / 2 < 2 ^ k
half_below k b below = omega (arith, pow-suc 2 k)

-- The complement in k digits has the other digit at each place.
pub bit_not : (k b n : ℕ) → b < 2 ^ k → n < k → bit (2 ^ k - 1 - b) n ≡ 1 - bit b n
bit_not zero b n below within = absurd (omega arith)
bit_not (suc k) b zero below within = omega (arith, bit_at_lowest (2 ^ suc k - 1 - b), bit_at_lowest b, pow-suc 2 k)
bit_not (suc k) b (suc n) below within =
    let half : (2 ^ suc k - 1 - b) / 2 ≡ 2 ^ k - 1 - b / 2 = omega (arith, pow-suc 2 k) in
    let inside : n < k = omega arith in
    bit_at-suc (2 ^ suc k - 1 - b) n ∙ ap (λ x. bit x n) half ∙ bit_not k (b / 2) n (half_below k b below) inside
    ∙ ap (λ x. 1 - x) (sym (bit_at-suc b n))

-- Each digit of a is at most the digit of b at its place.
abbrev pub Within : ℕ → ℕ → Type 0
Within a b = (n : ℕ) → bit a n ≤ bit b n

first_within : (a b : ℕ) → Within a b → a % 2 ≤ b % 2
first_within a b w = omega (arith, w 0, bit_at_lowest a, bit_at_lowest b)

halves_within : (a b : ℕ) → Within a b → Within (a / 2) (b / 2)
halves_within a b w n = omega (arith, w (suc n), bit_at-suc a n, bit_at-suc b n)

pub ones_within : (k a b : ℕ) → a < 2 ^ k → b < 2 ^ k → Within a b → ones a ≤ ones b
ones_within zero a b ha hb w = omega (arith, ap ones (lt-one ha ∙ sym (lt-one hb)))
ones_within (suc k) a b ha hb w =
    omega (arith, ones_step a, ones_step b, first_within a b w, ones_within k (a / 2) (b / 2) (half_below k a ha) (half_below k b hb) (halves_within a b w))

-- Where no digit of a passes that of b and as many are 1, the numbers are equal.
pub same_ones : (k a b : ℕ) → a < 2 ^ k → b < 2 ^ k → Within a b → ones b ≤ ones a → a ≡ b
same_ones zero a b ha hb w more = lt-one ha ∙ sym (lt-one hb)
same_ones (suc k) a b ha hb w more =
    let low = first_within a b w in
    let rest = halves_within a b w in
    let fewer = ones_within k (a / 2) (b / 2) (half_below k a ha) (half_below k b hb) rest in
    let enough : ones (b / 2) ≤ ones (a / 2) = omega (arith, ones_step a, ones_step b) in
    let high = same_ones k (a / 2) (b / 2) (half_below k a ha) (half_below k b hb) rest enough in
    omega (arith, ones_step a, ones_step b, ap ones high)

-- How many of the numbers below k pass the test.
unfoldable pub count_below : ℕ → (ℕ → Bool) → ℕ
count_below zero test = 0
count_below (suc k) test = cond (test k) 1 0 + count_below k test

count_first : (k : ℕ) (test : ℕ → Bool) → count_below (suc k) test ≡ cond (test 0) 1 0 + count_below k (λ n. test (suc n))
unfolding count_below
count_first zero test = refl
count_first (suc k) test = omega (arith, count_first k test)

digit_test : (d : ℕ) → d < 2 → cond (d == 1) 1 0 ≡ d
digit_test d h = grind (arith, nat_tests)

-- The places of the digits 1 are as many as `ones` counts.
pub count_ones : (k b : ℕ) → b < 2 ^ k → count_below k (λ n. nat_eq (bit b n) 1) ≡ ones b
unfolding count_below ones
count_ones zero b h = sym (ap ones (lt-one h))
count_ones (suc k) b h =
    let rest = ap (count_below k) (fun_ext (λ n. ap (λ d. nat_eq d 1) (bit_at-suc b n))) ∙ count_ones k (b / 2) (half_below k b h) in
    count_first k (λ n. nat_eq (bit b n) 1)
    ∙ omega (arith, rest, digit_test (bit b 0) (bit_at-lt b 0), bit_at_lowest b, ones_step b)
