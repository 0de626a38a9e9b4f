-- The values of a grammar's system are a lattice, and its steps are monotone. Assumes nothing.
use Rattle.std.proofs.Common.{ℕ, Bool, ◌||◌, sym, subst}
use Rattle.lattices.specs.Laws.{LatticeLaws}
use Rattle.lattices.specs.Pairs.{pair, pair_laws, pair_lub, pair_same, pair_rank}
use Rattle.lattices.specs.Sets.{Subset, set_union, set_laws, same_set, set_size}
use Rattle.lattices.specs.YesNos.{yes_laws, yes_rank}
use Rattle.lattices.specs.declared.number_set.NumberSet.{NumberSet}
use Rattle.std.specs.Bool.{beq}
use Rattle.std.proofs.lemmas.Bool.{cond_both, cond-true, both_ways}
use Rattle.grammar_equations.specs.Values.{Value, le, bottom, nullable, StepSort, join, concatenate, followed, stepped}

pub value_laws : LatticeLaws bottom le (pair_lub ◌||◌ set_union) (pair_same beq same_set) 65 (pair_rank yes_rank set_size)
value_laws = pair_laws yes_laws set_laws

-- A join rises with both halves.
lub_mono : {V : Type 0} {bot : V} {le : V → V → Type 0} {lub : V → V → V} {same : V → V → Bool} {height : ℕ} {rank : V → ℕ} → LatticeLaws bot le lub same height rank → (x y v w : V) → le x y → le v w → le (lub x v) (lub y w)
lub_mono {lub = lub} laws x y v w p q =
    laws.lub_le x v (lub y w) (laws.le_trans x y (lub y w) p (laws.le_lub_left y w)) (laws.le_trans v w (lub y w) q (laws.le_lub_right y w))

-- A set within y is within its union with w.
subset_more : (x y w : NumberSet) → Subset x y → Subset x (set_union y w)
subset_more x y w p n h = set_laws.le_lub_left y w n (p n h)

concatenate_mono : (x y v w : Value) → le x y → le v w → le (stepped concatenate x v) (stepped concatenate y w)
concatenate_mono x y v w p q =
    let both : Value = pair w.first (set_union y.second w.second) in
    cond_both (nullable x) (pair v.first (set_union x.second v.second)) x (λ z. le z (stepped concatenate y w))
    (λ t.
    subst (le (pair v.first (set_union x.second v.second))) (sym (cond-true (nullable y) both y (p.0 t)))
    (q.0, lub_mono set_laws x.second y.second v.second w.second p.1 q.1))
    (λ f.
    cond_both (nullable y) both y (le x)
    (λ _. (λ t. absurd (both_ways (nullable x) f t), subset_more x.second y.second w.second p.1))
    (λ _. p))

followed_mono : (x y v w : Value) → le x y → le v w → le (stepped followed x v) (stepped followed y w)
followed_mono x y v w p q = (
  λ t. t,
  let both : NumberSet = set_union y.second w.second in
      cond_both (nullable x) (set_union x.second v.second) x.second (λ z. Subset z (stepped followed y w).second)
      (λ t.
      subst (Subset (set_union x.second v.second)) (sym (cond-true (nullable y) both y.second (p.0 t)))
      (lub_mono set_laws x.second y.second v.second w.second p.1 q.1))
      (λ f. cond_both (nullable y) both y.second (Subset x.second) (λ _. subset_more x.second y.second w.second p.1) (λ _. p.1)),
)

pub stepped_mono : (s : StepSort) (x y v w : Value) → le x y → le v w → le (stepped s x v) (stepped s y w)
stepped_mono join x y v w p q = lub_mono value_laws x y v w p q
stepped_mono concatenate x y v w p q = concatenate_mono x y v w p q
stepped_mono followed x y v w p q = followed_mono x y v w p q
