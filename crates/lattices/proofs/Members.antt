-- The members of a set after an insertion or a removal, and the least member from a number on. Assumes nothing.
use Rattle.std.proofs.Common.{◌≡◌, ℕ, ◌+◌, ◌-◌, ◌*◌, ◌/◌, ◌%◌, ◌^◌, ◌<◌, ◌≤◌, min, cond, not, ◌&&◌, ◌||◌, eqb, ltb, Some, None, sym, ap, ◌∙◌, ⊎_elim, arith, shr-shr, w64}
use lib.Bits.{bit_and, bit_or}
use lib.Pow.{pow-lt}
use Rattle.std.proofs.lemmas.Nat.{pow_pos}
use Rattle.std.proofs.Math.Nat.{div-le_self}
use Rattle.std.proofs.Math.Bool.{and-true}
use Rattle.std.specs.Int.Bits.{and_zero_r}
use Rattle.std.specs.Bool.{then_some}
use Rattle.std.specs.Int.{trailing_zeros}
use Rattle.std.proofs.lemmas.Nat.Bits.{and_pow, bit_at-lt, bit_at-zero, bit_at_and, bit_at_not, bit_at_or, bit_at-pow_same, bit_at-pow_other, bit_at-trailing_zeros}
use Rattle.std.proofs.lemmas.Bool.{cases_eq, cases_lt, eq-eqb, ne_eqb, le-ltb, lt-ltb, and_left}
use Rattle.std.proofs.lemmas.Bool.Decides.{nat_tests}
use Rattle.lattices.specs.Bits.{bit}
use Rattle.lattices.specs.Sets.{Has, LeastFrom, Members, set_union, either_digit, has_past, has_union, same_members}
use Rattle.lattices.specs.declared.number_set.NumberSet.{NumberSet}

-- The bit at the place k, or 0 where k is past 63.
abbrev pub bit_of : ℕ → ℕ
bit_of k = cond (ltb k 64) (2 ^ k) 0

pub bit_of_fits : (k : ℕ) → bit_of k < 2 ^ 64
bit_of_fits k = ⊎_elim (λ h. rw (lt-ltb k 64 h) (pow-lt h)) (λ h. rw (le-ltb k 64 h) (omega arith)) (cases_lt k 64)

-- It has the digit 1 at the place k alone.
bit_of_digit : (k n : ℕ) → eqb (bit (bit_of k) n) 1 ≡ (eqb n k && ltb n 64)
bit_of_digit k n =
    ⊎_elim
    (λ h. rw (lt-ltb k 64 h)
    (⊎_elim (λ e. rw (eq-eqb n k e, lt-ltb n 64 (omega arith)) (rw e (ap (λ d. eqb d 1) (bit_at-pow_same k))))
    (λ ne. rw (ne_eqb n k ne) (ap (λ d. eqb d 1) (bit_at-pow_other k n ne)))
    (cases_eq n k)))
    (λ past. rw (le-ltb k 64 past) (ap (λ d. eqb d 1) (bit_at-zero n) ∙ grind (arith, nat_tests)))
    (cases_lt k 64)

shifted_digit : (d p : ℕ) → d < 2 → 0 < p → not (eqb (d * p) 0) ≡ eqb d 1
shifted_digit d p h pos = grind (arith, nat_tests)

pub bit_of_test : (s : NumberSet) (k : ℕ) → not (eqb (bit_and s.bits (bit_of k)) 0) ≡ Has s k
bit_of_test s k =
    ⊎_elim
    (λ h. rw (lt-ltb k 64 h) (rw (and_pow s.bits k) (shifted_digit (bit s.bits k) (2 ^ k) (bit_at-lt s.bits k) (pow_pos k))))
    (λ past. rw (le-ltb k 64 past) (ap (λ b. not (eqb b 0)) (and_zero_r s.bits) ∙ sym (has_past s k past)))
    (cases_lt k 64)

pub inserted_digit : (b k n : ℕ) → eqb (bit (bit_or b (bit_of k)) n) 1 ≡ (eqb (bit b n) 1 || (eqb n k && ltb n 64))
inserted_digit b k n =
    ap (λ d. eqb d 1) (bit_at_or b (bit_of k) n) ∙ either_digit (bit b n) (bit (bit_of k) n) (bit_at-lt b n) (bit_at-lt (bit_of k) n)
    ∙ ap (λ t. eqb (bit b n) 1 || t) (bit_of_digit k n)

both_digits : (a b : ℕ) → a < 2 → b < 2 → eqb (min a b) 1 ≡ (eqb a 1 && eqb b 1)
both_digits a b ha hb = grind (arith, nat_tests)

other_digit : (d : ℕ) → d < 2 → eqb (1 - d) 1 ≡ not (eqb d 1)
other_digit d h = grind (arith, nat_tests)

cleared_digit : (k n : ℕ) → n < 64 → eqb (bit (2 ^ 64 - 1 - bit_of k) n) 1 ≡ not (eqb n k)
cleared_digit k n inside =
    ap (λ d. eqb d 1) (bit_at_not w64 (bit_of k) n (bit_of_fits k) inside) ∙ other_digit (bit (bit_of k) n) (bit_at-lt (bit_of k) n)
    ∙ ap not (bit_of_digit k n ∙ ap (λ t. eqb n k && t) (lt-ltb n 64 inside) ∙ and-true (eqb n k))

pub removed_digit : (s : NumberSet) (k n : ℕ) → eqb (bit (bit_and s.bits (2 ^ 64 - 1 - bit_of k)) n) 1 ≡ (Has s n && not (eqb n k))
removed_digit s k n =
    let q = 2 ^ 64 - 1 - bit_of k in
    ap (λ d. eqb d 1) (bit_at_and s.bits q n) ∙ both_digits (bit s.bits n) (bit q n) (bit_at-lt s.bits n) (bit_at-lt q n)
    ∙ ⊎_elim (λ inside. ap (λ t. Has s n && t) (cleared_digit k n inside))
    (λ past. let none = has_past s n past in and_left (Has s n) _ none ∙ sym (and_left (Has s n) _ none))
    (cases_lt n 64)

-- The members of either of two sets are those of their union.
pub union_by_members : (x y u : NumberSet) → Members u (λ n. Has x n || Has y n) → u ≡ set_union x y
union_by_members x y u members = same_members u (set_union x y) (λ n. members n ∙ sym (has_union x y n))

-- The digits of b from the place `from` on.
later_digit : (b from n : ℕ) → from ≤ n → bit b n ≡ bit (b / 2 ^ from) (n - from)
later_digit b from n h =
    let place : n ≡ from + (n - from) = omega arith in
    ap (bit b) place ∙ sym (ap (λ x. x % 2) (shr-shr b from (n - from)))

lowest_is_least : (s : NumberSet) (from t : ℕ) → bit (s.bits / 2 ^ from) t ≡ 1 → ((i : ℕ) → i < t → bit (s.bits / 2 ^ from) i ≡ 0) → LeastFrom s from (Some (from + t))
lowest_is_least s from t one zeros = (
  omega arith,
  ap (λ d. eqb d 1) (sym (ap (λ b. b % 2) (shr-shr s.bits from t)) ∙ one),
  λ m at before. let near : m - from < t = omega arith in ap (λ d. eqb d 1) (later_digit s.bits from m at ∙ zeros (m - from) near),
)

none_left : (s : NumberSet) (from : ℕ) → s.bits / 2 ^ from ≡ 0 → LeastFrom s from None
none_left s from none m at =
    ap (λ d. eqb d 1) (later_digit s.bits from m at ∙ ap (λ b. bit b (m - from)) none ∙ bit_at-zero (m - from))

pub least_from : (s : NumberSet) (from : ℕ) → LeastFrom s from (then_some (not (eqb (s.bits / 2 ^ from) 0)) (from + trailing_zeros w64 (s.bits / 2 ^ from)))
least_from s from =
    let later = s.bits / 2 ^ from in
    ⊎_elim
    (λ none. rw (eq-eqb later 0 none) (none_left s from none))
    (λ some.
    let fits : later < 2 ^ 64 = omega (arith, s.fits, div-le_self s.bits (2 ^ from)) in
    let lowest = bit_at-trailing_zeros w64 later (omega arith) fits in
    rw (ne_eqb later 0 some) (lowest_is_least s from (trailing_zeros w64 later) lowest.1 lowest.2))
    (cases_eq later 0)
