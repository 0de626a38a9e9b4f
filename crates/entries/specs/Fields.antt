-- Lists of names in vectors. Assumes nothing.
use Rattle.std.specs.Prelude.{◌≡◌, ℕ, ◌+◌, List, map, take, drop, vec_items, vec_len, vec_capacity, Vec}
use Rattle.std.specs.declared.alloc.Global.{Global}
use Rattle.entry_format.specs.Reading.{NameModel}
use Rattle.entry_reader.specs.declared.name.Name.{Name}
use Rattle.entry_reader.specs.Reads.{name_of}

abbrev pub names_of : Vec Name Global → List NameModel
names_of names = map name_of (vec_items names)

-- the names from number i on
abbrev pub names_from : ℕ → Vec Name Global → List NameModel
names_from i names = map name_of (drop i (vec_items names))

-- the names before the call are still the first, and n were added in the room that there was
pub record Keeps (n : ℕ) (before after : Vec Name Global) : Type 0 where
  pub first : take (vec_len before) (vec_items after) ≡ vec_items before
  pub len : vec_len after ≡ vec_len before + n
  pub room : vec_capacity after ≡ vec_capacity before
