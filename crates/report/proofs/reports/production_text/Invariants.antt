use Rattle.std.proofs.Common.{◌≡◌, ◌+◌, ◌++◌, map, drop, string_bytes}
use Rattle.entry_reader.specs.Reads.{name_of}
use Rattle.report.specs.Reports.{reference_lines, production_text}
use Rattle.report.proofs.reports.production_text.Given as goal

abbrev pub invariant-loop-i : goal.invariant-loop-i
invariant-loop-i g l =
    let names = g.R.Resolver.names l.resolver in
    let right = map name_of l.right in
    string_bytes l.lines ++ reference_lines names (l.first + l.i) (drop l.i right) ≡ production_text names l.number l.first (name_of l.production.left) right
