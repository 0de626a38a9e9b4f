-- What loading a file means, in terms of encodings, places and bytes. Assumes nothing.
use Rattle.std.specs.Prelude.{◌≡◌, ℕ, ◌+◌, ◌<◌, ◌≤◌, true, false, ◌⊎◌, ◌↔◌, List, length, take, drop, Some, None, Ok, Err, Result, ◌≢◌, slice_index}
use Rattle.std.specs.List.{AllByRecursion}
use Rattle.entry_format.specs.declared.fault.LoadFault.{LoadFault}
use Rattle.entry_format.specs.declared.fault.LoadFault.TheVariants.{Read, Names, WrongKind, OverLimit, TrailingBytes}
use Rattle.entry_format.specs.declared.fault.ReadFault.TheVariants.{EndOfFile, BadName}
use Rattle.entry_format.specs.Encoding.{encode_name, encode_grammar, all_names, Lawful}
use Rattle.entry_format.specs.Faults.{place_of}
use Rattle.entry_format.specs.Grammars.{GrammarModel, loader_checks, load_grammar}
use Rattle.entry_format.specs.Names.{position, Distinct, IsAt}
use Rattle.entry_format.specs.Reading.{NameModel, name_length, printable}

-- a list of bytes
abbrev pub Bytes : List ℕ → Type 0
Bytes file = AllByRecursion (λ b. b < 256) file

-- a file loads as g exactly when it is the encoding of g and g is lawful
abbrev pub LoadsExactlyEncodings : Type 0
LoadsExactlyEncodings =
    (file : List ℕ) (g : GrammarModel) → Bytes file →
    (load_grammar loader_checks file ≡ Ok g) ↔ ((file ≡ encode_grammar g) × Lawful g)

-- the name is the part of the file at its place
abbrev pub StandsIn : List ℕ → NameModel → Type 0
StandsIn file n = take (length (encode_name n)) (drop n.at file) ≡ encode_name n

-- each loaded name is the part of the file at its place
abbrev pub NamesStandInFile : Type 0
NamesStandInFile =
    (file : List ℕ) (g : GrammarModel) → Bytes file → load_grammar loader_checks file ≡ Ok g →
    AllByRecursion (StandsIn file) (all_names g)

-- the byte at q is a length that a name may have, and p lies within that many bytes behind it
abbrev pub InName : List ℕ → ℕ → ℕ → Type 0
InName file q p = (name_length (slice_index file q) ≡ true) × (q < p) × (p ≤ q + slice_index file q)

-- what each refusal says of the file
abbrev pub Tells : List ℕ → LoadFault → Type 0
-- the file ends there
Tells file (Read (EndOfFile p)) = p ≡ length file
-- the byte is no length that a name may have; or an earlier byte is one and reaches it, and no name may have this byte
Tells file (Read (BadName p)) =
    (p < length file)
    × ((name_length (slice_index file p) ≡ false) ⊎ ((q : ℕ) × InName file q p × (printable (slice_index file p) ≡ false)))
-- the first byte is not 1
Tells file (WrongKind p) = (p ≡ 0) × (0 < length file) × (slice_index file 0 ≢ 1)
-- a whole count stands there
Tells file (OverLimit p) = p + 2 ≤ length file
-- a whole name stands there
Tells file (Names e) = place_of (Names e) + 1 + slice_index file (place_of (Names e)) ≤ length file
-- the bytes before are the encoding of a lawful grammar, and there are more
Tells file (TrailingBytes p) = (p < length file) × ((g : GrammarModel) × (take p file ≡ encode_grammar g) × Lawful g)

abbrev pub RefusalsTell : Type 0
RefusalsTell =
    (file : List ℕ) (e : LoadFault) → Bytes file → load_grammar loader_checks file ≡ Err e → Tells file e

-- how many places from the front show the fault: through the wrong byte, the place that has none as the file ends there, or the count or the name that is at fault
abbrev pub shown_by : List ℕ → LoadFault → ℕ
shown_by file (Read e) = place_of (Read e) + 1
shown_by file (Names e) = place_of (Names e) + 1 + slice_index file (place_of (Names e))
shown_by file (WrongKind p) = p + 1
shown_by file (OverLimit p) = p + 2
shown_by file (TrailingBytes p) = p + 1

-- another file that has the same in the places that show the fault is refused with the same fault: nothing behind them matters
abbrev pub SameFrontSameRefusal : Type 0
SameFrontSameRefusal =
    (file other : List ℕ) (e : LoadFault) → load_grammar loader_checks file ≡ Err e →
    take (shown_by file e) other ≡ take (shown_by file e) file → load_grammar loader_checks other ≡ Err e

-- no file of a lawful grammar has the same in the places that show the fault
abbrev pub NoEncodingBeginsSo : Type 0
NoEncodingBeginsSo =
    (file : List ℕ) (e : LoadFault) → load_grammar loader_checks file ≡ Err e →
    (g : GrammarModel) → Lawful g → take (shown_by file e) (encode_grammar g) ≢ take (shown_by file e) file

-- what it means that a file is answered with x, a grammar or a fault
pub record LoadMeaning (file : List ℕ) (x : Result GrammarModel LoadFault) : Type 0 where
  -- the answer is g exactly when the file is the encoding of g and g is lawful
  pub exact : (g : GrammarModel) → (x ≡ Ok g) ↔ ((file ≡ encode_grammar g) × Lawful g)
  -- each name of the grammar is the part of the file at its place
  pub names : (g : GrammarModel) → x ≡ Ok g → AllByRecursion (StandsIn file) (all_names g)
  -- the fault says what is so of the file
  pub tells : (e : LoadFault) → x ≡ Err e → Tells file e
  -- another file that begins with the bytes that show the fault is refused with the same fault
  pub first : (e : LoadFault) → x ≡ Err e → (other : List ℕ) →
      take (shown_by file e) other ≡ take (shown_by file e) file → load_grammar loader_checks other ≡ Err e
  -- and so the file of no lawful grammar begins with those bytes
  pub never : (e : LoadFault) → x ≡ Err e → (g : GrammarModel) → Lawful g →
      take (shown_by file e) (encode_grammar g) ≢ take (shown_by file e) file

-- that is what every file's answer means
abbrev pub LoadingMeans : Type 0
LoadingMeans = (file : List ℕ) → Bytes file → LoadMeaning file (load_grammar loader_checks file)

-- in a list of distinct names a name equals at most one, and its position is that one's
abbrev pub PositionIsUnique : Type 0
PositionIsUnique =
    (names : List NameModel) (n : NameModel) → Distinct names →
    ((k : ℕ) → (position names n ≡ Some k) ↔ IsAt names n k)
    × ((position names n ≡ None) ↔ ((k : ℕ) → IsAt names n k → ⊥))
