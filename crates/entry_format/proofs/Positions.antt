-- The position of a name among others. Assumes nothing.
use Rattle.std.proofs.Common.{◌≡◌, ℕ, zero, suc, ◌+◌, ◌<◌, Bool, true, false, cond, List, [], ◌∷◌, ◌++◌, length, get_or, is_some, Some, None, Option, refl, ap, ◌∙◌, subst, arith}
use Rattle.std.specs.List.{AllByRecursion}
use Rattle.std.proofs.ByRecursion.{All-get_or, All-push}
use Rattle.std.proofs.lemmas.Bool.{both_ways}
use Rattle.entry_format.specs.Laws.{PositionIsUnique}
use Rattle.entry_format.specs.Names.{same_name, position, position_from, Distinct, IsAt}
use Rattle.entry_format.specs.Reading.{NameModel}
use Rattle.entry_format.proofs.Equality.{same_as_third}
use Rattle.entry_format.proofs.Series.{all_front, all_behind}

-- no name of the list equals n
abbrev pub Fresh : List NameModel → NameModel → Type 0
Fresh names n = AllByRecursion (λ x. same_name x n ≡ false) names

cond_none : (b : Bool) (i : ℕ) (o : Option ℕ) → is_some (cond b (Some i) o) ≡ false → (b ≡ false) × (is_some o ≡ false)
cond_none true i o h = let z : ◌≡◌ {A = ℕ} 0 1 = cc in absurd (omega arith)
cond_none false i o h = (refl, h)

-- a name has no position exactly if it equals none
fresh_from : (i : ℕ) (names : List NameModel) (n : NameModel) → is_some (position_from i names n) ≡ false → Fresh names n
fresh_from i [] n h = tt
fresh_from i (x ∷ names) n h =
    let (a, b) = cond_none (same_name x n) i (position_from (i + 1) names n) h in
    (a, fresh_from (i + 1) names n b)

none_from : (i : ℕ) (names : List NameModel) (n : NameModel) → Fresh names n → is_some (position_from i names n) ≡ false
none_from i [] n h = refl
none_from i (x ∷ names) n h = rw h.0 (none_from (i + 1) names n h.1)

pub fresh_from_none : (names : List NameModel) (n : NameModel) → is_some (position names n) ≡ false → Fresh names n
fresh_from_none names n h = fresh_from 0 names n h

pub none_from_fresh : (names : List NameModel) (n : NameModel) → Fresh names n → is_some (position names n) ≡ false
none_from_fresh names n h = none_from 0 names n h

-- a position counted from i is i and a place at which the name stands
is_from : (i : ℕ) (names : List NameModel) (n : NameModel) (k : ℕ) → position_from i names n ≡ Some k → (j : ℕ) × (k ≡ i + j) × IsAt names n j
is_from i [] n k h = let z : ◌≡◌ {A = ℕ} 0 1 = cc in absurd (omega arith)
is_from i (x ∷ names) n k h = go (same_name x n) refl h (λ e. is_from (i + 1) names n k e)
  where
    go : (b : Bool) → same_name x n ≡ b → cond b (Some i) (position_from (i + 1) names n) ≡ Some k →
        (position_from (i + 1) names n ≡ Some k → (j : ℕ) × (k ≡ i + 1 + j) × IsAt names n j) →
        (j : ℕ) × (k ≡ i + j) × IsAt (x ∷ names) n j
    go true e h more = let f : i ≡ k = cc in (0, omega arith, (omega arith, e))
    go false e h more = let (j, f, at) = more h in (suc j, omega arith, (omega arith, at.1))

pub is_from_position : (names : List NameModel) (n : NameModel) (k : ℕ) → position names n ≡ Some k → IsAt names n k
is_from_position names n k h =
    let (j, e, at) = is_from 0 names n k h in
    let f : j ≡ k = omega arith in
    subst (IsAt names n) f at

-- a name equals at most one of distinct names
position_found_from : (i : ℕ) (names : List NameModel) (n : NameModel) (j : ℕ) → Distinct names → IsAt names n j → position_from i names n ≡ Some (i + j)
position_found_from i [] n j d at = absurd (omega arith)
position_found_from i (x ∷ names) n zero d at = let e : i ≡ i + 0 = omega arith in rw at.1 (ap Some e)
position_found_from i (x ∷ names) n (suc j) d at =
    let short : j < length names = omega arith in
    let y : NameModel = get_or names j n in
    let apart : same_name x y ≡ false = All-get_or (λ y. same_name x y ≡ false) names j n short d.0 in
    let e : i + 1 + j ≡ i + suc j = omega arith in
    rw (other (same_name x n) refl apart) (position_found_from (i + 1) names n j d.1 (short, at.1) ∙ ap Some e)
  where
    other : (b : Bool) → same_name x n ≡ b → same_name x (get_or names j n) ≡ false → same_name x n ≡ false
    other true e apart =
        let same : same_name x (get_or names j n) ≡ true = same_as_third x.text (get_or names j n).text n.text e at.1 in
        let z : ◌≡◌ {A = ℕ} 0 1 = cc in absurd (omega arith)
    other false e apart = e

pub position_from_is : (names : List NameModel) (n : NameModel) (k : ℕ) → Distinct names → IsAt names n k → position names n ≡ Some k
position_from_is names n k d at = let e : 0 + k ≡ k = omega arith in position_found_from 0 names n k d at ∙ ap Some e

none_from_nowhere : (names : List NameModel) (n : NameModel) → ((k : ℕ) → IsAt names n k → ⊥) → (o : Option ℕ) → position names n ≡ o → o ≡ None
none_from_nowhere names n h (Some k) e = absurd (h k (is_from_position names n k e))
none_from_nowhere names n h None e = refl

pub position_unique : PositionIsUnique
position_unique names n d = (
  λ k. (is_from_position names n k, position_from_is names n k d),
  (
    λ e k at. both_ways _ (All-get_or (λ x. same_name x n ≡ false) names k n at.0 (fresh_from_none names n (ap is_some e))) at.1,
    λ nowhere. none_from_nowhere names n nowhere (position names n) refl,
  ),
)

pub distinct_push : (names : List NameModel) (n : NameModel) → Distinct names → Fresh names n → Distinct (names ++ n ∷ [])
distinct_push [] n d h = (tt, tt)
distinct_push (x ∷ names) n d h =
    (All-push (λ y. same_name x y ≡ false) names n d.0 h.0, distinct_push names n d.1 h.1)

pub fresh_inside : (names : List NameModel) (n : NameModel) (more : List NameModel) → Distinct (names ++ n ∷ more) → Fresh names n
fresh_inside [] n more d = tt
fresh_inside (x ∷ names) n more d = ((all_behind (λ y. same_name x y ≡ false) names (n ∷ more) d.0).0, fresh_inside names n more d.1)

pub distinct_front : (names more : List NameModel) → Distinct (names ++ more) → Distinct names
distinct_front [] more d = tt
distinct_front (x ∷ names) more d = (all_front (λ y. same_name x y ≡ false) names more d.0, distinct_front names more d.1)

pub distinct_behind : (names more : List NameModel) → Distinct (names ++ more) → Distinct more
distinct_behind [] more d = d
distinct_behind (x ∷ names) more d = distinct_behind names more d.1
