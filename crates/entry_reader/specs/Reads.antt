-- What a reader's calls say, by the definitions of reading. Assumes nothing.
use Rattle.std.specs.Prelude.{ℕ, List, take, Ok, Err, Result}
use Rattle.entry_format.specs.Reading.{Input, input, Parsed, got, bad, NameModel}
use Rattle.entry_reader.specs.declared.name.Name.{Name}
use Rattle.entry_reader.specs.declared.reader.Reader.{Reader}

-- what a reader has still to read
abbrev pub input_of : Reader → Input
input_of r = input r.rest.now r.place

abbrev pub name_of : Name → NameModel
name_of n = record { text = n.text.now; at = n.place }

-- a call's result, by what stands for its value, and the reader after the call
abbrev pub reads : {F V W : Type 0} → (V → W) → Result V F → Reader → Parsed F W
reads f (Ok v) r = got (f v) (input_of r)
reads f (Err e) r = bad e

-- the same of a call that passes the first n bytes
abbrev pub passed : {F : Type 0} → ℕ → Reader → Result (Unit {0}) F → Reader → Parsed F (List ℕ)
passed n before x after = reads (λ _. take n before.rest.now) x after
