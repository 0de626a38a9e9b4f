-- The lattice of pairs, from the lattices of the halves. Assumes nothing.
use Rattle.std.specs.Prelude.{◌≡◌, ℕ, ◌+◌, ◌<◌, ◌≤◌, Bool, ◌&&◌, Decides, ◌≢◌}
use Rattle.std.proofs.Common.{ap, ⊎_elim, le_of_eq, le_of_lt, arith}
use Rattle.std.proofs.lemmas.Bool.{cases_Bool}
use Rattle.std.proofs.lemmas.Bool.Decides.{Decides-and, Decides-like, not_from_Decides}
use Rattle.lattices.specs.Laws.{LatticeLaws}
use Rattle.lattices.specs.declared.pair.Pair.{Pair}

-- The pair of two values.
abbrev pub pair : {A B : Type 0} → A → B → Pair A B
pair a b = record { first = a; second = b }

-- Both halves are at or below.
abbrev pub pair_le : {A B : Type 0} → (A → A → Type 0) → (B → B → Type 0) → Pair A B → Pair A B → Type 0
pair_le le₁ le₂ x y = le₁ x.first y.first × le₂ x.second y.second

-- The halves' joins.
abbrev pub pair_lub : {A B : Type 0} → (A → A → A) → (B → B → B) → Pair A B → Pair A B → Pair A B
pair_lub lub₁ lub₂ x y = pair (lub₁ x.first y.first) (lub₂ x.second y.second)

-- Whether both halves are equal.
abbrev pub pair_same : {A B : Type 0} → (A → A → Bool) → (B → B → Bool) → Pair A B → Pair A B → Bool
pair_same same₁ same₂ x y = same₁ x.first y.first && same₂ x.second y.second

-- The sum of the halves' ranks.
abbrev pub pair_rank : {A B : Type 0} → (A → ℕ) → (B → ℕ) → Pair A B → ℕ
pair_rank rank₁ rank₂ x = rank₁ x.first + rank₂ x.second

-- Pairs with equal halves are equal.
pair_path : {A B : Type 0} (x y : Pair A B) → (x.first ≡ y.first) × (x.second ≡ y.second) → x ≡ y
pair_path x y p = λ i. record { first = p.0 i; second = p.1 i }

-- A greater value has at least the rank.
rank_le : {V : Type 0} {bot : V} {le : V → V → Type 0} {lub : V → V → V} {same : V → V → Bool} {height : ℕ} {rank : V → ℕ} → LatticeLaws bot le lub same height rank → (x y : V) → le x y → rank x ≤ rank y
rank_le {same = same} {rank = rank} laws x y p =
    ⊎_elim (λ e. le_of_eq (ap rank ((laws.same_decides x y).0 e)))
    (λ e. le_of_lt (laws.rank_rises x y p (not_from_Decides (same x y) (laws.same_decides x y) e)))
    (cases_Bool (same x y))

module _ {A B : Type 0} {bot₁ : A} {le₁ : A → A → Type 0} {lub₁ : A → A → A} {same₁ : A → A → Bool} {height₁ : ℕ} {rank₁ : A → ℕ} {bot₂ : B} {le₂ : B → B → Type 0} {lub₂ : B → B → B} {same₂ : B → B → Bool} {height₂ : ℕ} {rank₂ : B → ℕ} (laws₁ : LatticeLaws bot₁ le₁ lub₁ same₁ height₁ rank₁) (laws₂ : LatticeLaws bot₂ le₂ lub₂ same₂ height₂ rank₂) where
  rises : (x y : Pair A B) → pair_le le₁ le₂ x y → (x ≢ y) → pair_rank rank₁ rank₂ x < pair_rank rank₁ rank₂ y
  rises x y p ne =
      let first-le = rank_le laws₁ x.first y.first p.0 in
      let second-le = rank_le laws₂ x.second y.second p.1 in
      let test = laws₁.same_decides x.first y.first in
      ⊎_elim (λ e. omega (arith, laws₂.rank_rises x.second y.second p.1 (λ q. ne (pair_path x y (test.0 e, q)))))
      (λ e. omega (arith, laws₁.rank_rises x.first y.first p.0 (not_from_Decides (same₁ x.first y.first) test e)))
      (cases_Bool (same₁ x.first y.first))

  same_decides : (x y : Pair A B) → Decides (pair_same same₁ same₂ x y) (x ≡ y)
  same_decides x y =
      Decides-like (pair_same same₁ same₂ x y) (pair_path x y) (λ e. (ap (λ p. p.first) e, ap (λ p. p.second) e))
      (Decides-and (same₁ x.first y.first) (same₂ x.second y.second) (laws₁.same_decides x.first y.first) (laws₂.same_decides x.second y.second))

  pub pair_laws : LatticeLaws (pair bot₁ bot₂) (pair_le le₁ le₂) (pair_lub lub₁ lub₂) (pair_same same₁ same₂) (height₁ + height₂) (pair_rank rank₁ rank₂)
  pair_laws = record {
    le_refl = λ x. (laws₁.le_refl x.first, laws₂.le_refl x.second);
    le_trans = λ x y z p q. (laws₁.le_trans _ _ _ p.0 q.0, laws₂.le_trans _ _ _ p.1 q.1);
    le_antisym = λ x y p q. pair_path x y (laws₁.le_antisym _ _ p.0 q.0, laws₂.le_antisym _ _ p.1 q.1);
    bot_le = λ x. (laws₁.bot_le _, laws₂.bot_le _);
    le_lub_left = λ x y. (laws₁.le_lub_left _ _, laws₂.le_lub_left _ _);
    le_lub_right = λ x y. (laws₁.le_lub_right _ _, laws₂.le_lub_right _ _);
    lub_le = λ x y z p q. (laws₁.lub_le _ _ _ p.0 q.0, laws₂.lub_le _ _ _ p.1 q.1);
    same_decides = same_decides;
    rank_within = λ x. omega (arith, laws₁.rank_within x.first, laws₂.rank_within x.second);
    rank_rises = rises;
  }
