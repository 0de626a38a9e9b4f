-- The system follows the rules of a system. Assumes nothing.
use Rattle.std.specs.Prelude.{◌≡◌, ℕ, zero, suc, ◌+◌, ◌<◌, ◌≤◌, min, Bool, true, false, cond, ◌||◌, List, [], ◌∷◌, length, take, Some, None, Ok, Err, vec_items, vec_len, Option, Result, nat_lt, refl}
use Rattle.std.proofs.Common.{sym, ap, ◌∙◌, arith}
use Rattle.equations.specs.Equations.{Lawful}
use Rattle.lattices.specs.Laws.{LatticeLaws}
use Rattle.lattices.specs.Pairs.{pair, pair_le, pair_lub, pair_same, pair_rank, pair_laws}
use Rattle.lattices.specs.Sets.{Subset, empty_set, set_union, same_set, set_size, set_laws}
use Rattle.lattices.specs.YesNos.{yes_le, yes_rank, yes_laws}
use Rattle.references.specs.declared.Dangling.{Dangling}
use Rattle.std.specs.Bool.{beq}
use Rattle.std.specs.List.{slice_get}
use Rattle.std.proofs.lemmas.List.{length-take}
use Rattle.std.proofs.lemmas.Option.{slice_get_past}
use Rattle.std.proofs.lemmas.Bool.Decides.{nat_tests}
use Rattle.std.proofs.lemmas.Bool.{cond_both, le-ltb, lt-ltb, ltb-true, false≢true}
use Rattle.example_system.specs.declared.parts.ExampleSystem.{ExampleSystem}
use Rattle.example_system.specs.declared.parts.Instance.{Instance}
use Rattle.example_system.specs.declared.parts.Operand.{Operand}
use Rattle.example_system.specs.declared.parts.Step.{Step}
use Rattle.example_system.specs.declared.parts.Step.TheVariants.{Join, AndThen, Constant}
use Rattle.example_system.specs.Example.{Values, applied, size_of, instance_at, count_of, start_of, operand_at, missing, target_of, operand_of, step_of, example_equations}

abbrev le : Values → Values → Type 0
le = pair_le yes_le Subset

laws : LatticeLaws (pair false empty_set) le (pair_lub ◌||◌ set_union) (pair_same beq same_set) (1 + 64) (pair_rank yes_rank set_size)
laws = pair_laws yes_laws set_laws

-- a join is monotone in both values
lub_mono : {V : Type 0} {bot : V} {below : V → V → Type 0} {lub : V → V → V} {same : V → V → Bool} {height : ℕ} {rank : V → ℕ} →
    LatticeLaws bot below lub same height rank → (x y v w : V) → below x y → below v w → below (lub x v) (lub y w)
lub_mono l x y v w p q = l.lub_le x v _ (l.le_trans x y _ p (l.le_lub_left y w)) (l.le_trans v w _ q (l.le_lub_right y w))

both_more : (m n : ℕ) → nat_lt m n ≡ nat_lt (suc m) (suc n)
both_more m n = grind (arith, nat_tests)

-- an element of the first n
pub limited_at : {X : Type 0} (xs : List X) (n i : ℕ) → slice_get (take n xs) i ≡ cond (nat_lt i n) (slice_get xs i) None
limited_at [] zero i = sym (cond_both (nat_lt i 0) None None (λ o. o ≡ None) (λ _. refl) (λ _. refl))
limited_at [] (suc n) i = sym (cond_both (nat_lt i (suc n)) None None (λ o. o ≡ None) (λ _. refl) (λ _. refl))
limited_at (x ∷ xs) zero i = sym (ap (λ b. cond b (slice_get (x ∷ xs) i) None) (le-ltb i 0 (omega arith)))
limited_at (x ∷ xs) (suc n) zero = sym (ap (λ b. cond b (Some x) None) (lt-ltb 0 (suc n) (omega arith)))
limited_at (x ∷ xs) (suc n) (suc i) = limited_at xs n i ∙ ap (λ b. cond b (slice_get xs i) None) (both_more i n)

-- past the end of a list, or past 4,096, there is nothing
pub past : {X : Type 0} (xs : List X) (n i : ℕ) → n ≡ length xs → min n 4096 ≤ i → cond (nat_lt i 4096) (slice_get xs i) None ≡ None
past xs n i e le = sym (limited_at xs 4096 i) ∙ slice_get_past (take 4096 xs) i (omega (arith, length-take 4096 xs))

no_instance : (s : ExampleSystem) (i : ℕ) → size_of s ≤ i → instance_at s i ≡ None
no_instance s i h = past (vec_items s.instances) (vec_len s.instances) i s.instances.ok.0 h

no_operand : (x : Option Instance) (k : ℕ) → count_of x ≤ k → operand_at x k ≡ None
no_operand (Some x) k h = past (vec_items x.operands) (vec_len x.operands) k x.operands.ok.0 h
no_operand None k h = refl

count_within : (x : Option Instance) → count_of x ≤ 4096
count_within (Some x) = omega arith
count_within None = omega arith

target_within : (n : ℕ) (t : Result ℕ Dangling) (j : ℕ) → target_of n t ≡ Ok j → j < n
target_within n (Ok i) j =
    cond_both (nat_lt i n) (Ok i) missing (λ r. r ≡ Ok j → j < n)
    (λ lt e. let same : i ≡ j = cc in omega (arith, ltb-true i n lt))
    (λ _ e. absurd (let z : ◌≡◌ {A = ℕ} 0 1 = cc in omega arith))
target_within n (Err d) j = λ e. absurd (let z : ◌≡◌ {A = ℕ} 0 1 = cc in omega arith)

operand_within : (n : ℕ) (o : Option Operand) (j : ℕ) → operand_of n o ≡ Ok j → j < n
operand_within n (Some o) j e = target_within n o.target j e
operand_within n None j e = absurd (let z : ◌≡◌ {A = ℕ} 0 1 = cc in omega arith)

-- if the value so far is yes, the operand's value goes in
and_then : (b c : Bool) (x y v w : Values) → x.first ≡ b → y.first ≡ c → le x y → le v w →
    le (cond b (pair v.first (set_union x.second v.second)) x) (cond c (pair w.first (set_union y.second w.second)) y)
and_then true true x y v w d e p q = (q.0, lub_mono set_laws x.second y.second v.second w.second p.1 q.1)
and_then true false x y v w d e p q = absurd (false≢true (sym e ∙ p.0 d))
and_then false true x y v w d e p q =
    (λ yes. absurd (false≢true (sym d ∙ yes)), set_laws.le_trans x.second y.second (set_union y.second w.second) p.1 (set_laws.le_lub_left y.second w.second))
and_then false false x y v w d e p q = p

apply_mono : (step : Step) (x y v w : Values) → le x y → le v w → le (applied step x v) (applied step y w)
apply_mono Join x y v w p q = lub_mono laws x y v w p q
apply_mono AndThen x y v w p q = and_then x.first y.first x y v w refl refl p q
apply_mono (Constant c) x y v w p q = laws.le_refl c

step_mono : (o : Option Operand) (x y v w : Values) → le x y → le v w → le (step_of o x v) (step_of o y w)
step_mono (Some o) x y v w p q = apply_mono o.step x y v w p q
step_mono None x y v w p q = p

pub example_lawful : (s : ExampleSystem) → Lawful (pair false empty_set) le (example_equations s)
example_lawful s = record {
  size_within = omega arith;
  count_within = λ i. count_within (instance_at s i);
  operand_within = λ i k j. operand_within (size_of s) (operand_at (instance_at s i) k) j;
  step_mono = λ i k. step_mono (operand_at (instance_at s i) k);
  count_past = λ i h. ap count_of (no_instance s i h);
  start_past = λ i h. ap start_of (no_instance s i h);
  operand_past = λ i k h. ap (operand_of (size_of s)) (no_operand (instance_at s i) k h);
  step_past = λ i k x v h. ap (λ o. step_of o x v) (no_operand (instance_at s i) k h);
}
