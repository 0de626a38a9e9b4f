-- The number, the layer, the place and the reason of each fault. Assumes nothing.
use Rattle.std.specs.Prelude.{ℕ, List, codes}
use Rattle.entry_format.specs.declared.fault.Layer.{Layer}
use Rattle.entry_format.specs.declared.fault.Layer.TheVariants as layer
use Rattle.entry_format.specs.declared.fault.LoadFault.{LoadFault}
use Rattle.entry_format.specs.declared.fault.LoadFault.TheVariants.{Read, Names, WrongKind, OverLimit, TrailingBytes}
use Rattle.entry_format.specs.declared.fault.NameFault.TheVariants.{Duplicate, NotNonterminal}
use Rattle.entry_format.specs.declared.fault.ReadFault.TheVariants.{EndOfFile, BadName}

-- the word for a layer
abbrev pub layer_name : Layer → List ℕ
layer_name layer.Reader = codes "reader"
layer_name layer.Names = codes "names"
layer_name layer.Section = codes "section"

-- the number of the refusal
abbrev pub number_of : LoadFault → ℕ
number_of (Read (EndOfFile p)) = 1
number_of (WrongKind p) = 2
number_of (OverLimit p) = 3
number_of (Read (BadName p)) = 4
number_of (Names (Duplicate p)) = 5
number_of (Names (NotNonterminal p)) = 6
number_of (TrailingBytes p) = 9

-- faults inside a field are the reader's, those of equal and unknown names the names layer's, the rest the section's
abbrev pub layer_of : LoadFault → Layer
layer_of (Read e) = layer.Reader
layer_of (Names e) = layer.Names
layer_of (WrongKind p) = layer.Section
layer_of (OverLimit p) = layer.Section
layer_of (TrailingBytes p) = layer.Section

-- the byte place, from 0
abbrev pub place_of : LoadFault → ℕ
place_of (Read (EndOfFile p)) = p
place_of (Read (BadName p)) = p
place_of (Names (Duplicate p)) = p
place_of (Names (NotNonterminal p)) = p
place_of (WrongKind p) = p
place_of (OverLimit p) = p
place_of (TrailingBytes p) = p

-- what is wrong with the file
abbrev pub reason_of : LoadFault → List ℕ
reason_of (Read (EndOfFile p)) = codes "the file ends inside a field"
reason_of (WrongKind p) = codes "the first byte is not the kind asked for"
reason_of (OverLimit p) = codes "a count or a sum of counts is outside its limits"
reason_of (Read (BadName p)) = codes "a name has a bad length or byte"
reason_of (Names (Duplicate p)) = codes "an equal name is already declared"
reason_of (Names (NotNonterminal p)) = codes "the left name is no nonterminal"
reason_of (TrailingBytes p) = codes "there are bytes after the end"
