use Rattle.std.proofs.Common.{◌≡◌, ◌-◌, ◌≤◌, [], map, vec_len, vec_capacity}
use Rattle.entry_format.specs.Grammars.{loader_checks, read_declaration}
use Rattle.entry_format.specs.Reading.{series}
use Rattle.entry_reader.specs.Reads.{input_of, name_of}
use Rattle.entries.specs.Fields.{names_of}
use Rattle.entries.proofs.fields.read_declarations.Given as goal

abbrev pub invariant-loop : goal.invariant-loop
invariant-loop g l =
    (series (read_declaration loader_checks (map name_of l.earlier)) l.count [] (input_of l.initial.reader)
    ≡ series (read_declaration loader_checks (map name_of l.earlier)) (l.count - l.counter) (names_of l.names) (input_of l.reader))
    × (vec_len l.names ≡ l.counter)
    × (l.count ≤ vec_capacity l.names)
