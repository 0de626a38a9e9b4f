use Rattle.std.proofs.Common.{◌≡◌, ◌-◌, ◌≤◌, [], map, vec_items, vec_len, vec_capacity}
use Rattle.entry_format.specs.Grammars.{loader_checks, read_production}
use Rattle.entry_format.specs.Reading.{series}
use Rattle.entry_reader.specs.Reads.{input_of, name_of}
use Rattle.entries.specs.Loaded.{productions_of, Tiles}
use Rattle.entries.proofs.grammar.load.read_productions.Given as goal

abbrev pub invariant-loop : goal.invariant-loop
invariant-loop l =
    (series (read_production loader_checks (map name_of l.nonterminals)) l.count [] (input_of l.initial.reader)
    ≡ series (read_production loader_checks (map name_of l.nonterminals)) (l.count - l.counter) (productions_of l.productions l.references) (input_of l.reader))
    × Tiles 0 (vec_items l.productions) (vec_len l.references)
    × (vec_len l.productions ≡ l.counter)
    × (vec_len l.references ≤ 1024)
    × (l.count ≤ vec_capacity l.productions)
    × (1024 ≤ vec_capacity l.references)
