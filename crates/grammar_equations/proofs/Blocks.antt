-- Places in blocks of given lengths, one behind the other. Assumes nothing.
use Rattle.std.proofs.Common.{◌≡◌, ℕ, zero, suc, ◌+◌, ◌-◌, ◌<◌, ◌≤◌, ltb, List, [], ◌∷◌, length, take, Some, sym, refl, ap, ◌∙◌, subst, ⊎_elim, arith}
use Rattle.std.specs.List.{slice_get}
use Rattle.std.proofs.lemmas.Bool.{cases_lt, cond-true, cond-false, lt-ltb, le-ltb}
use Rattle.grammar_equations.specs.Instances.{place}
use Rattle.grammar_equations.specs.Rules.{Rule, total_length}

-- One block further.
abbrev next : ℕ × ℕ → ℕ × ℕ
next q = (suc q.0, q.1)

module _ (len : Rule → ℕ) where
  -- The sum of the lengths.
  abbrev pub blocks : List Rule → ℕ
  blocks [] = 0
  blocks (r ∷ rs) = len r + blocks rs

  -- Block p ends at or before the end of the last.
  pub block_within : (rs : List Rule) (p : ℕ) (r : Rule) → slice_get rs p ≡ Some r → blocks (take p rs) + len r ≤ blocks rs
  block_within [] p r q = let z : ◌≡◌ {A = ℕ} 0 1 = cc in absurd (omega arith)
  block_within (x ∷ rs) zero r q = let e : x ≡ r = cc in omega (arith, ap len e)
  block_within (x ∷ rs) (suc p) r q = omega (arith, block_within rs p r q)

  -- Place k of block p, found again.
  pub place_of : (rs : List Rule) (p k : ℕ) (r : Rule) → slice_get rs p ≡ Some r → k < len r → place len rs (blocks (take p rs) + k) ≡ (p, k)
  place_of [] p k r q l = let z : ◌≡◌ {A = ℕ} 0 1 = cc in absurd (omega arith)
  place_of (x ∷ rs) zero k r q l =
      let e : x ≡ r = cc in
      let none : 0 + k ≡ k = omega arith in
      ap (place len (x ∷ rs)) none ∙ cond-true (ltb k (len x)) _ _ (lt-ltb k (len x) (omega (arith, ap len e)))
  place_of (x ∷ rs) (suc p) k r q l =
      let b : ℕ = blocks (take p rs) in
      let rest : len x + b + k - len x ≡ b + k = omega arith in
      cond-false (ltb (len x + b + k) (len x)) _ _ (le-ltb (len x + b + k) (len x) (omega arith))
      ∙ ap (λ y. next (place len rs y)) rest ∙ ap next (place_of rs p k r q l)

  -- The place x is place k of block p.
  abbrev PlaceIn : List Rule → ℕ → ℕ × ℕ → Type 0
  PlaceIn rs x q = (r : Rule) × (slice_get rs q.0 ≡ Some r) × (q.1 < len r) × (blocks (take q.0 rs) + q.1 ≡ x)

  pub place_in : (rs : List Rule) (x : ℕ) → x < blocks rs → PlaceIn rs x (place len rs x)
  place_in [] x l = absurd (omega arith)
  place_in (r ∷ rs) x l =
      ⊎_elim
      (λ (m : x < len r). subst (PlaceIn (r ∷ rs) x) (sym (cond-true (ltb x (len r)) _ _ (lt-ltb x (len r) m))) (r, refl, m, omega arith))
      (λ (m : len r ≤ x).
      let h = place_in rs (x - len r) (omega arith) in
      subst (PlaceIn (r ∷ rs) x) (sym (cond-false (ltb x (len r)) _ _ (le-ltb x (len r) m))) (h.0, h.1, h.2, omega (arith, h.3)))
      (cases_lt x (len r))

-- The sums of the lengths of right sides, and of one more each.
pub blocks_names : (rs : List Rule) → blocks (λ r. length r.right) rs ≡ total_length rs
blocks_names [] = refl
blocks_names (r ∷ rs) = omega (arith, blocks_names rs)

pub blocks_suffixes : (rs : List Rule) (p : ℕ) → p ≤ length rs → blocks (λ r. suc (length r.right)) (take p rs) ≡ total_length (take p rs) + p
blocks_suffixes rs zero l = refl
blocks_suffixes [] (suc p) l = absurd (omega arith)
blocks_suffixes (r ∷ rs) (suc p) l = omega (arith, blocks_suffixes rs p (omega arith))
