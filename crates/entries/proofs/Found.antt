-- Names that are found among others, by the library's words. Assumes nothing.
use Rattle.std.proofs.Common.{◌≡◌, ℕ, ◌+◌, Bool, cond, List, [], ◌∷◌, map, Some, sym, refl, ap, ◌∙◌}
use Rattle.std.specs.List as list
use Rattle.std.proofs.lemmas.Iterator.Adapters.{position_from-zero}
use Rattle.entry_format.specs.Names.{same_name}
use Rattle.entry_format.specs.Names as names
use Rattle.entry_format.specs.Reading.{NameModel}
use Rattle.entry_reader.specs.declared.name.Name.{Name}
use Rattle.entry_reader.specs.Reads.{name_of}

-- whether a name equals n
abbrev pub equals : NameModel → Name → Bool
equals n x = same_name (name_of x) n

same_from : (n : NameModel) (i : ℕ) (xs : List Name) → names.position_from i (map name_of xs) n ≡ list.position_from (equals n) i xs
same_from n i [] = refl
same_from n i (x ∷ xs) = ap (cond (equals n x) (Some i)) (same_from n (i + 1) xs)

-- the position of n is that of the first name that equals it
pub position_is : (xs : List Name) (n : NameModel) → names.position (map name_of xs) n ≡ list.position (equals n) xs
position_is xs n = same_from n 0 xs ∙ sym (position_from-zero (equals n) xs)
