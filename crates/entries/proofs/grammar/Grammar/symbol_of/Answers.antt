-- A position among the terminals, or behind them one among the nonterminals.
use Rattle.std.proofs.Common.{◌≡◌, ◌+◌, map, length, vec_items, sym, ap, ◌∙◌, arith}
use Rattle.std.specs.Option.{option_map}
use Rattle.std.proofs.lemmas.List.{length-map}
use Rattle.entry_format.proofs.PositionAppend.{or_else, position_append}
use Rattle.entry_format.proofs.Positions.{is_from_position}
use Rattle.entry_format.specs.Names.{position}
use Rattle.entry_reader.specs.Reads.{name_of}
use Rattle.entries.specs.Fields.{names_of}
use Rattle.entries.proofs.Invariant.{few_terminals, few_nonterminals}
use Rattle.entries.proofs.grammar.Grammar.symbol_of.Goals as goal

pub returns-in_err-symbol-in-None : goal.returns-in_err-symbol-in-None
returns-in_err-symbol-in-None c =
    let g = c.args.self.now in
    let n = name_of c.args.name.now in
    let first = c.in-None.ensures ∙ ap (λ xs. position (map name_of xs) n) c.deref.ensures.value in
    let second = c.in_err-symbol-in-None.ensures ∙ ap (λ xs. position (map name_of xs) n) c.deref-in-None.ensures.value in
    c.from_residual.ensures
    ∙ sym (position_append (names_of g.terminals) (names_of g.nonterminals) n
    ∙ (λ k. or_else (sym first k) (option_map (λ m. length (names_of g.terminals) + m) (sym second k))))

pub overflow_add-result : goal.overflow_add-result
overflow_add-result c =
    let g = c.args.self.now in
    let n = name_of c.args.name.now in
    let second = c.in_ok-symbol-in-None.ensures ∙ ap (λ xs. position (map name_of xs) n) c.deref-in-None.ensures.value in
    let within = (is_from_position (names_of g.nonterminals) n c.in_ok-symbol-in-None.symbol (sym second)).0 in
    omega (arith, few_terminals g, few_nonterminals g, length-map (vec_items g.nonterminals) name_of, g.nonterminals.ok.0, within)

pub returns-in-Some : goal.returns-in-Some
returns-in-Some c =
    let g = c.args.self.now in
    let n = name_of c.args.name.now in
    let first = c.in-Some.ensures ∙ ap (λ xs. position (map name_of xs) n) c.deref.ensures.value in
    sym (position_append (names_of g.terminals) (names_of g.nonterminals) n ∙ ap (λ o. or_else o (option_map (λ m. length (names_of g.terminals) + m) (position (names_of g.nonterminals) n))) (sym first))

pub returns-in_ok-symbol-in-None : goal.returns-in_ok-symbol-in-None
returns-in_ok-symbol-in-None c =
    let g = c.args.self.now in
    let n = name_of c.args.name.now in
    let first = c.in-None.ensures ∙ ap (λ xs. position (map name_of xs) n) c.deref.ensures.value in
    let second = c.in_ok-symbol-in-None.ensures ∙ ap (λ xs. position (map name_of xs) n) c.deref-in-None.ensures.value in
    let size : length (names_of g.terminals) ≡ c.len.result = length-map (vec_items g.terminals) name_of ∙ sym g.terminals.ok.0 ∙ sym c.len.ensures in
    sym (position_append (names_of g.terminals) (names_of g.nonterminals) n
    ∙ (λ k. or_else (sym first k) (option_map (λ m. size k + m) (sym second k))))
