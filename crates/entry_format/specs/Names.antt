-- When two names are equal, and where a name stands in a list of names. Assumes nothing.
use Rattle.std.specs.Prelude.{◌≡◌, ℕ, ◌+◌, ◌<◌, ◌≤◌, Bool, true, false, cond, ◌⊎◌, List, [], ◌∷◌, length, take, Some, None, Decides, Option, slice_index_or}
use Rattle.std.specs.List.{AllByRecursion}
use Rattle.std.specs.Str.{bytes_eq}
use Rattle.entry_format.specs.Reading.{NameModel}

-- the number of bytes in which long names are compared
abbrev pub compared : ℕ
compared = 16

-- the texts of two names are those of equal names: both have at least 16 bytes and agree in the first 16, or both are shorter and the same
abbrev pub EqualTexts : List ℕ → List ℕ → Type 0
EqualTexts a b =
    ((compared ≤ length a) × (compared ≤ length b) × (take compared a ≡ take compared b))
    ⊎ ((length a < compared) × (length b < compared) × (a ≡ b))

-- the test for that; what it decides and that it is an equivalence is all that is used of it
unfoldable pub same_text : List ℕ → List ℕ → Bool
same_text a b = bytes_eq (take compared a) (take compared b)

abbrev pub same_name : NameModel → NameModel → Bool
same_name a b = same_text a.text b.text

-- what the test decides, and that it is an equivalence
pub record NameEquality : Type 0 where
  pub decides : (a b : List ℕ) → Decides (same_text a b) (EqualTexts a b)
  pub reflexive : (a : List ℕ) → same_text a a ≡ true
  pub symmetric : (a b : List ℕ) → same_text a b ≡ same_text b a
  pub transitive : (a b c : List ℕ) → same_text a b ≡ true → same_text b c ≡ true → same_text a c ≡ true

-- the place of the first name that equals n, counted from i
abbrev pub position_from : ℕ → List NameModel → NameModel → Option ℕ
position_from i [] n = None
position_from i (x ∷ xs) n = cond (same_name x n) (Some i) (position_from (i + 1) xs n)

abbrev pub position : List NameModel → NameModel → Option ℕ
position names n = position_from 0 names n

-- no name of the list equals a later one
abbrev pub Distinct : List NameModel → Type 0
Distinct [] = Unit {0}
Distinct (n ∷ names) = AllByRecursion (λ other. same_name n other ≡ false) names × Distinct names

-- the name at k equals n
abbrev pub IsAt : List NameModel → NameModel → ℕ → Type 0
IsAt names n k = (k < length names) × (same_name (slice_index_or names k n) n ≡ true)
