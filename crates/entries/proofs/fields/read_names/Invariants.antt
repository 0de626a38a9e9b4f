use Rattle.std.proofs.Common.{◌≡◌, ◌-◌, [], vec_len}
use Rattle.entry_format.specs.Reading.{read_name, series}
use Rattle.entry_reader.specs.Reads.{input_of}
use Rattle.entries.specs.Fields.{names_from, Keeps}
use Rattle.entries.proofs.fields.read_names.Given as goal

abbrev pub invariant-loop : goal.invariant-loop
invariant-loop l =
    (series (λ _. read_name) l.count [] (input_of l.initial.reader) ≡ series (λ _. read_name) (l.count - l.counter) (names_from (vec_len l.initial.names) l.names) (input_of l.reader))
    × Keeps l.counter l.initial.names l.names
