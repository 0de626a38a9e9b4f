use Rattle.std.proofs.Common.{◌≡◌, ◌-◌, ◌≤◌, [], length, take, drop}
use Rattle.entry_format.specs.Reading.{read_name_bytes}
use Rattle.entry_reader.specs.Reads.{input_of}
use Rattle.entry_reader.proofs.reader.Reader.pass_name.Given as goal

abbrev pub invariant-loop : goal.invariant-loop
invariant-loop l =
    (read_name_bytes l.len [] (input_of l.initial.self) ≡ read_name_bytes (l.len - l.counter) (take l.counter l.initial.self.rest.now) (input_of l.self))
    × (l.self.rest.now ≡ drop l.counter l.initial.self.rest.now)
    × (l.counter ≤ length l.initial.self.rest.now)
