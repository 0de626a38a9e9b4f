use Rattle.std.proofs.Common.{◌≡◌, ◌++◌, drop, string_bytes}
use Rattle.report.specs.Reports.{numbered}
use Rattle.report.proofs.Productions.{line}
use Rattle.report.proofs.reports.productions_text.Given as goal

abbrev pub invariant-loop-number : goal.invariant-loop-number
invariant-loop-number g l =
    let text = line l.grammar.references.items (g.R.Resolver.names l.resolver) in
    string_bytes l.lines ++ numbered text l.number (drop l.number l.production-items) ≡ numbered text 0 l.production-items
