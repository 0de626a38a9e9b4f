use Rattle.std.proofs.Common.{◌≡◌, length, flat_map, string_bytes}
use Rattle.entry_reader.specs.Reads.{name_of}
use Rattle.report.specs.Lines.{symbol_line}
use Rattle.report.proofs.reports.symbols_text.Given as goal

abbrev pub invariant-loop-symbol : goal.invariant-loop-symbol
invariant-loop-symbol l = string_bytes l.lines ≡ flat_map (λ p. symbol_line (length l.terminals) p.0 (name_of p.1.now)) l.yielded
