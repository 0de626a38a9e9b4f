-- The lattice of all 32-bit numbers under maximum, and a system of no instances over it. Assumes nothing.
use Rattle.std.specs.Prelude.{◌≡◌, ℕ, ◌-◌, ◌^◌, ◌<◌, ◌≤◌, max, Bool, Err, ◌==◌, refl}
use Rattle.std.proofs.Common.{ap, ⊎_elim, arith, lit<}
use mathlib.Core.HLevel.{Σ_prop_path}
use Rattle.std.proofs.Math.Bridge.{le_prop}
use Rattle.std.proofs.lemmas.Bool.{eqb-true, eq-eqb, cases_lt}
use Rattle.equations.specs.Equations.{Equations, Lawful}
use Rattle.lattices.specs.Laws.{LatticeLaws}
use Rattle.table_tests.specs.declared.largest.Largest.{Largest}

abbrev pub zero : Largest
zero = record { number = 0; fits = lit< tt }

abbrev pub le : Largest → Largest → Type 0
le x y = x.number ≤ y.number

pub max_fits : (x y : Largest) → max x.number y.number < 2 ^ 32
max_fits x y = omega (arith, x.fits, y.fits)

abbrev pub larger : Largest → Largest → Largest
larger x y = record { number = max x.number y.number; fits = max_fits x y }

abbrev pub same : Largest → Largest → Bool
same x y = x.number == y.number

abbrev pub rank : Largest → ℕ
rank x = x.number

pub same_number : (x y : Largest) → x.number ≡ y.number → x ≡ y
same_number x y e =
    ap (λ (w : (n : ℕ) × (n < 2 ^ 32)). let s : Largest = record { number = w.0; fits = w.1 } in s)
    (Σ_prop_path (λ n. le_prop) e)

pub largest_laws : LatticeLaws zero le larger same (2 ^ 32 - 1) rank
largest_laws = record {
  le_refl = λ x. omega arith;
  le_trans = λ x y z p q. omega arith;
  le_antisym = λ x y p q. same_number x y (omega arith);
  bot_le = λ x. omega arith;
  le_lub_left = λ x y. omega arith;
  le_lub_right = λ x y. omega arith;
  lub_le = λ x y z p q. omega arith;
  same_decides = λ x y. (λ e. same_number x y (eqb-true x.number y.number e), λ p. eq-eqb x.number y.number (ap rank p));
  rank_within = λ x. omega (arith, x.fits);
  rank_rises = λ x y p ne. ⊎_elim (λ less. less) (λ more. absurd (ne (same_number x y (omega arith)))) (cases_lt x.number y.number);
}

abbrev pub no_equations : Equations Largest
no_equations = record {
  size = 0;
  count = λ i. 0;
  operand = λ i k. Err (record { reference = 65535 });
  start = λ i. zero;
  step = λ i k x v. x;
}

pub no_lawful : Lawful zero le no_equations
no_lawful = record {
  size_within = omega arith;
  count_within = λ i. omega arith;
  operand_within = λ i k j e. absurd (let z : ◌≡◌ {A = ℕ} 0 1 = cc in omega arith);
  step_mono = λ i k x y v w p q. p;
  count_past = λ i h. refl;
  start_past = λ i h. refl;
  operand_past = λ i k h. refl;
  step_past = λ i k x v h. refl;
}
