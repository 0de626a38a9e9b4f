-- The members of a set, in ascending order. Assumes nothing.
use Rattle.std.specs.Prelude.{◌≡◌, ℕ, ◌+◌, ◌<◌, ◌≤◌, Bool, true, false, ◌&&◌, ◌||◌, Some, None, Option, MatchOption, ◌==◌, ◌≢◌, nat_lt, refl}
use Rattle.std.proofs.Common.{sym, ap, ◌∙◌, ⊎_elim, arith}
use Rattle.std.proofs.Math.Bool.{and-true, and-false, or-false}
use Rattle.std.proofs.lemmas.Bool.{cases_lt, cases_eq, lt-ltb, le-ltb, eq-eqb, ne_eqb, or_right, and_from}
use Rattle.lattices.specs.Sets.{Has, LeastFrom}
use Rattle.lattices.specs.declared.number_set.numbers.Numbers.{Numbers}

-- A call gives the least member from `from` on, and the next call begins behind it.
pub record Ascends (s : Numbers) (r : Option ℕ) (t : Numbers) : Type 0 where
  pub least : LeastFrom s.set s.from r
  pub set_kept : t.set ≡ s.set
  pub behind : MatchOption r (t.from ≡ s.from) (λ n. t.from ≡ n + 1)

-- Whether the number has been given: it is a member before `from`.
abbrev pub IsGiven : Numbers → ℕ → Bool
IsGiven s n = Has s.set n && nat_lt n s.from

-- The members up to k, the least member from `from` on, are those before `from` and k.
module _ (has : ℕ → Bool) (from k n : ℕ) (at : from ≤ k) (is_member : has k ≡ true) (none : (m : ℕ) → from ≤ m → m < k → has m ≡ false) where
  abbrev OneMore : Type 0
  OneMore = (has n && nat_lt n (k + 1)) ≡ ((has n && nat_lt n from) || n == k)

  at_k : n ≡ k → OneMore
  at_k e =
      and_from (has n) (nat_lt n (k + 1)) (ap has e ∙ is_member) (lt-ltb n (k + 1) (omega arith))
      ∙ sym (or_right (has n && nat_lt n from) (n == k) (eq-eqb n k e))

  before : (n ≢ k) → n < from → OneMore
  before ne less =
      rw (ne_eqb n k ne, lt-ltb n from less, lt-ltb n (k + 1) (omega arith)) (sym (or-false (has n && true)))

  between : (n ≢ k) → from ≤ n → n < k → OneMore
  between ne past less = rw (ne_eqb n k ne, none n past less) refl

  after : (n ≢ k) → from ≤ n → k ≤ n → OneMore
  after ne past more =
      rw (ne_eqb n k ne, le-ltb n from past, le-ltb n (k + 1) (omega arith)) (sym (or-false (has n && false)))

  one_more : OneMore
  one_more =
      ⊎_elim at_k
      (λ ne. ⊎_elim (before ne) (λ past. ⊎_elim (between ne past) (after ne past) (cases_lt n k)) (cases_lt n from))
      (cases_eq n k)

-- A call that gives k adds k to the numbers given.
pub given_more : (s t : Numbers) (k : ℕ) → Ascends s (Some k) t → (n : ℕ) → IsGiven t n ≡ (IsGiven s n || n == k)
given_more s t k step n =
    ap (λ x. Has x n && nat_lt n t.from) step.set_kept ∙ ap (λ x. Has s.set n && nat_lt n x) step.behind
    ∙ one_more (Has s.set) s.from k n step.least.0 step.least.1 step.least.2

-- At the end every member has been given.
pub given_all : (s t : Numbers) → Ascends s None t → (n : ℕ) → IsGiven s n ≡ Has s.set n
given_all s t step n =
    ⊎_elim (λ less. rw (lt-ltb n s.from less) (and-true (Has s.set n)))
    (λ past. rw (le-ltb n s.from past) (and-false (Has s.set n) ∙ sym (step.least n past)))
    (cases_lt n s.from)
