-- The position of a name in two lists of names, one behind the other. Assumes nothing.
use Rattle.std.proofs.Common.{◌≡◌, ℕ, suc, ◌+◌, Bool, true, false, cond, ◌||◌, List, [], ◌∷◌, ◌++◌, length, is_some, Some, None, Option, refl, ap, ◌∙◌, arith}
use Rattle.std.specs.Option.{option_map}
use Rattle.entry_format.specs.Names.{same_name, position_from, position}
use Rattle.entry_format.specs.Reading.{NameModel}

-- the first of two positions that there is
abbrev pub or_else : Option ℕ → Option ℕ → Option ℕ
or_else (Some i) o = Some i
or_else None o = o

-- counted from further on
further : (i k : ℕ) (names : List NameModel) (n : NameModel) → position_from (k + i) names n ≡ option_map (λ m. k + m) (position_from i names n)
further i k [] n = refl
further i k (x ∷ xs) n = here (same_name x n) (ap (λ j. position_from j xs n) e ∙ further (i + 1) k xs n)
  where
    e : k + i + 1 ≡ k + (i + 1)
    e = omega arith

    here : (t : Bool) → position_from (k + i + 1) xs n ≡ option_map (λ m. k + m) (position_from (i + 1) xs n) →
        cond t (Some (k + i)) (position_from (k + i + 1) xs n) ≡ option_map (λ m. k + m) (cond t (Some i) (position_from (i + 1) xs n))
    here true h = refl
    here false h = h

appended : (i : ℕ) (xs ys : List NameModel) (n : NameModel) → position_from i (xs ++ ys) n ≡ or_else (position_from i xs n) (position_from (i + length xs) ys n)
appended i [] ys n = let e : i ≡ i + 0 = omega arith in ap (λ j. position_from j ys n) e
appended i (x ∷ xs) ys n = here (same_name x n) (appended (i + 1) xs ys n ∙ ap (λ j. or_else (position_from (i + 1) xs n) (position_from j ys n)) e)
  where
    e : i + 1 + length xs ≡ i + suc (length xs)
    e = omega arith

    here : (t : Bool) → position_from (i + 1) (xs ++ ys) n ≡ or_else (position_from (i + 1) xs n) (position_from (i + suc (length xs)) ys n) →
        cond t (Some i) (position_from (i + 1) (xs ++ ys) n) ≡ or_else (cond t (Some i) (position_from (i + 1) xs n)) (position_from (i + suc (length xs)) ys n)
    here true h = refl
    here false h = h

-- a name's position in two lists
pub position_append : (xs ys : List NameModel) (n : NameModel) → position (xs ++ ys) n ≡ or_else (position xs n) (option_map (λ m. length xs + m) (position ys n))
position_append xs ys n =
    let e : 0 + length xs ≡ length xs + 0 = omega arith in
    appended 0 xs ys n ∙ ap (or_else (position xs n)) (ap (λ j. position_from j ys n) e ∙ further 0 (length xs) ys n)

some_either : (a b : Option ℕ) (k : ℕ) → is_some (or_else a (option_map (λ m. k + m) b)) ≡ (is_some a || is_some b)
some_either (Some i) b k = refl
some_either None (Some j) k = refl
some_either None None k = refl

-- whether a name stands in two lists
pub found_append : (xs ys : List NameModel) (n : NameModel) → is_some (position (xs ++ ys) n) ≡ (is_some (position xs n) || is_some (position ys n))
found_append xs ys n = ap is_some (position_append xs ys n) ∙ some_either (position xs n) (position ys n) (length xs)
