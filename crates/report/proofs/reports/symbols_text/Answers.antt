use Rattle.std.proofs.Common.{ℕ, ◌++◌, List, length, sym, ap, ◌∙◌}
use Rattle.std.proofs.lemmas.Iterator.{YieldsList-from_slice}
use Rattle.std.proofs.lemmas.Iterator.Consumers.{YieldsList-from_chain, YieldsList-from_enumerate, YieldsList-end}
use Rattle.std.proofs.lemmas.List.{length-map, map-append}
use Rattle.entry_reader.specs.declared.name.Name.{Name}
use Rattle.entry_reader.specs.Reads.{name_of}
use Rattle.report.specs.Lines.{symbol_line}
use Rattle.report.specs.Reports.{numbered}
use Rattle.report.proofs.Steps.{numbered_items, numbered_map}
use Rattle.report.proofs.reports.symbols_text.Goals as goal

pub returns : goal.returns
returns c =
    let terminals = c.terminals-terminals.result.now in
    let nonterminals = c.nonterminals.result.now in
    let line : ℕ → Name → List ℕ = λ i name. symbol_line (length terminals) i (name_of name) in
    let items = YieldsList-from_enumerate (YieldsList-from_chain (YieldsList-from_slice terminals cc) (YieldsList-from_slice nonterminals cc) (cc) (cc)) cc in
    let end = YieldsList-end items c.loop-symbol.yielded _ c.loop-symbol.yielded_by _ _ c.in-None.is c.next.ensures.steps in
    let count = sym (length-map terminals name_of) ∙ ap length c.terminals-terminals.ensures in
    c.loop-symbol.invariant
    ∙ numbered_items line (λ x. x.now) c.loop-symbol.yielded (terminals ++ nonterminals) end.0
    ∙ numbered_map (symbol_line (length terminals)) name_of 0 (terminals ++ nonterminals)
    ∙ ap (numbered (symbol_line (length terminals)) 0) (map-append name_of terminals nonterminals)
    ∙ (λ k. numbered (symbol_line (count k)) 0 (c.terminals-terminals.ensures k ++ c.nonterminals.ensures k))
