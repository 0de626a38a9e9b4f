-- The values of a grammar's system: whether something may derive the empty form, and the numbers of symbols. Assumes nothing.
use Rattle.std.specs.Prelude.{ℕ, ◌^◌, ◌<◌, ◌≤◌, Bool, true, false, cond, ◌||◌, nat_lt}
use Rattle.std.proofs.Common.{arith, lit<, pow_mono}
use Rattle.std.proofs.lemmas.Bool.{cond_both, ltb-true}
use Rattle.lattices.specs.Pairs.{pair, pair_le, pair_lub}
use Rattle.lattices.specs.Sets.{Has, Subset, empty_set, set_union}
use Rattle.lattices.specs.YesNos.{yes_le}
use Rattle.lattices.specs.declared.number_set.NumberSet.{NumberSet}
use Rattle.lattices.specs.declared.pair.Pair.{Pair}

abbrev pub Value : Type 0
Value = Pair Bool NumberSet

abbrev pub nullable : Value → Bool
nullable x = x.first

abbrev pub has : Value → ℕ → Bool
has x c = Has x.second c

abbrev pub le : Value → Value → Type 0
le = pair_le yes_le Subset

abbrev pub bottom : Value
bottom = pair false empty_set

-- The empty form: it derives itself, and begins with nothing.
abbrev pub empty_form : Value
empty_form = pair true empty_set

-- The number that stands for the end of the form.
abbrev pub end_mark : ℕ
end_mark = 63

-- How the value so far takes in an operand's value: both; the operand's behind it; or the operand's set if it may derive the empty form.
pub data StepSort : Type 0 where
  join : StepSort
  concatenate : StepSort
  followed : StepSort

abbrev pub stepped : StepSort → Value → Value → Value
stepped join x v = pair_lub ◌||◌ set_union x v
stepped concatenate x v = cond (nullable x) (pair v.first (set_union x.second v.second)) x
stepped followed x v = pair false (cond (nullable x) (set_union x.second v.second) x.second)

pub single_fits : (n : ℕ) → cond (nat_lt n 64) (2 ^ n) 0 < 2 ^ 64
single_fits n =
    cond_both (nat_lt n 64) (2 ^ n) 0 (λ x. x < 2 ^ 64)
    (λ t. let l : n ≤ 63 = omega (arith, ltb-true n 64 t) in let m : 2 ^ n ≤ 2 ^ 63 = pow_mono l in omega (arith, m))
    (λ _. lit< tt)

-- The set of one number, empty for a number past 63.
abbrev pub single : ℕ → NumberSet
single n = record { bits = cond (nat_lt n 64) (2 ^ n) 0; fits = single_fits n }
