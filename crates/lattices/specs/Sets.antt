-- Sets of the numbers 0 to 63. Assumes nothing.
use Rattle.std.specs.Prelude.{◌≡◌, ℕ, ◌^◌, ◌<◌, ◌≤◌, max, Bool, true, false, ◌||◌, Option, MatchOption, ◌==◌, ◌≢◌, nat_eq}
use Rattle.std.proofs.Common.{sym, ap, ◌∙◌, ⊎_elim, arith, lit<}
use mathlib.Core.HLevel.{Σ_prop_path}
use Rattle.std.proofs.Math.Bridge.{le_prop}
use Rattle.std.specs.Int.Bits.{bit_or}
use Rattle.std.proofs.lemmas.Nat.{or_lt, ones-le}
use Rattle.std.specs.Int.Count.{ones}
use Rattle.std.proofs.lemmas.Bool.{both_ways, eqb-true, eq-eqb, cases_eq, cases_lt, or_cases, or_left, or_right}
use Rattle.std.proofs.lemmas.Bool.Decides.{nat_tests}
use Rattle.std.proofs.lemmas.Nat.Bits.{bit_at-lt, bit_at-zero, bit_at_above, bit_at_or, same_from_bits}
use Rattle.lattices.specs.Bits.{bit, Within, same_ones, count_below, count_ones}
use Rattle.lattices.specs.Laws.{LatticeLaws}
use Rattle.lattices.specs.declared.number_set.NumberSet.{NumberSet}

-- Whether the set has the number n: the digit of its bits at place n is 1.
abbrev pub Has : NumberSet → ℕ → Bool
Has s n = bit s.bits n == 1

-- The members of the set are the numbers that pass the test.
abbrev pub Members : NumberSet → (ℕ → Bool) → Type 0
Members s test = (n : ℕ) → Has s n ≡ test n

-- The least member at or past the number `from`, or none where there is no such member.
abbrev pub LeastFrom : NumberSet → ℕ → Option ℕ → Type 0
LeastFrom s from r =
    MatchOption r ((m : ℕ) → from ≤ m → Has s m ≡ false)
    (λ n. (from ≤ n) × (Has s n ≡ true) × ((m : ℕ) → from ≤ m → m < n → Has s m ≡ false))

-- The set with no members.
abbrev pub empty_set : NumberSet
empty_set = record { bits = 0; fits = lit< tt }

-- The set of the members of either.
abbrev pub set_union : NumberSet → NumberSet → NumberSet
set_union x y = record { bits = bit_or x.bits y.bits; fits = or_lt 64 x.bits y.bits x.fits y.fits }

-- Every member of x is a member of y.
abbrev pub Subset : NumberSet → NumberSet → Type 0
Subset x y = (n : ℕ) → Has x n ≡ true → Has y n ≡ true

-- Whether two sets are equal.
abbrev pub same_set : NumberSet → NumberSet → Bool
same_set x y = x.bits == y.bits

-- How many members the set has.
abbrev pub set_size : NumberSet → ℕ
set_size x = count_below 64 (Has x)

-- Sets with the same bits are equal.
pub same_set_bits : (x y : NumberSet) → x.bits ≡ y.bits → x ≡ y
same_set_bits x y e =
    ap (λ (w : (b : ℕ) × (b < 2 ^ 64)). let s : NumberSet = record { bits = w.0; fits = w.1 } in s)
    (Σ_prop_path (λ b. le_prop) e)

has_bit : (x : NumberSet) (n : ℕ) → Has x n ≡ true → bit x.bits n ≡ 1
has_bit x n = eqb-true (bit x.bits n) 1

subset_within : (x y : NumberSet) → Subset x y → Within x.bits y.bits
subset_within x y s n =
    ⊎_elim (λ e. omega (arith, e, has_bit y n (s n (eq-eqb (bit x.bits n) 1 e)))) (λ ne. omega (arith, ne, bit_at-lt x.bits n))
    (cases_eq (bit x.bits n) 1)

-- Sets each within the other are equal.
pub subset_antisym : (x y : NumberSet) → Subset x y → Subset y x → x ≡ y
subset_antisym x y s t =
    same_set_bits x y
    (same_from_bits x.bits y.bits (λ n. omega (arith, subset_within x y s n, subset_within y x t n)))

-- Sets with the same members are equal.
pub same_members : (x y : NumberSet) → Members x (Has y) → x ≡ y
same_members x y same = subset_antisym x y (λ n h. sym (same n) ∙ h) (λ n h. same n ∙ h)

-- A number past 63 is in no set.
pub has_past : (x : NumberSet) (n : ℕ) → 64 ≤ n → Has x n ≡ false
has_past x n past = ap (λ d. nat_eq d 1) (bit_at_above x.bits 64 n x.fits past)

pub has_below : (x : NumberSet) (n : ℕ) → Has x n ≡ true → n < 64
has_below x n h = ⊎_elim (λ less. less) (λ past. absurd (both_ways (Has x n) (has_past x n past) h)) (cases_lt n 64)

-- The greater of two digits is 1 where one of them is.
pub either_digit : (a b : ℕ) → a < 2 → b < 2 → (max a b == 1) ≡ (a == 1 || b == 1)
either_digit a b ha hb = grind (arith, nat_tests)

pub has_union : (x y : NumberSet) → Members (set_union x y) (λ n. Has x n || Has y n)
has_union x y n =
    ap (λ d. nat_eq d 1) (bit_at_or x.bits y.bits n)
    ∙ either_digit (bit x.bits n) (bit y.bits n) (bit_at-lt x.bits n) (bit_at-lt y.bits n)

pub has_empty : Members empty_set (λ _. false)
has_empty n = ap (λ d. nat_eq d 1) (bit_at-zero n)

-- The size is the number of the bits that are 1.
pub size_ones : (x : NumberSet) → set_size x ≡ ones x.bits
size_ones x = count_ones 64 x.bits x.fits

pub set_size_rises : (x y : NumberSet) → Subset x y → (x ≢ y) → set_size x < set_size y
set_size_rises x y s ne =
    ⊎_elim (λ less. omega (arith, less, size_ones x, size_ones y))
    (λ more. absurd (ne (same_set_bits x y (same_ones 64 x.bits y.bits x.fits y.fits (subset_within x y s) more))))
    (cases_lt (ones x.bits) (ones y.bits))

pub set_laws : LatticeLaws empty_set Subset set_union same_set 64 set_size
set_laws = record {
  le_refl = λ x n h. h;
  le_trans = λ x y z s t n h. t n (s n h);
  le_antisym = subset_antisym;
  bot_le = λ x n h. absurd (both_ways (Has empty_set n) (has_empty n) h);
  le_lub_left = λ x y n h. has_union x y n ∙ or_left (Has x n) (Has y n) h;
  le_lub_right = λ x y n h. has_union x y n ∙ or_right (Has x n) (Has y n) h;
  lub_le = λ x y z s t n h. ⊎_elim (s n) (t n) (or_cases (Has x n) (Has y n) (sym (has_union x y n) ∙ h));
  same_decides = λ x y. (λ e. same_set_bits x y (eqb-true x.bits y.bits e), λ p. eq-eqb x.bits y.bits (ap (λ s. s.bits) p));
  rank_within = λ x. omega (arith, size_ones x, ones-le 64 x.bits x.fits);
  rank_rises = set_size_rises;
}
