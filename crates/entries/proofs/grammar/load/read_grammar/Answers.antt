use Rattle.std.proofs.Common.{map, sym, ap, ◌∙◌}
use Rattle.entry_format.proofs.Exact.{grammar_lawful}
use Rattle.entry_format.specs.Grammars.{loader_checks, read_declarations, read_productions, read_grammar}
use Rattle.entry_reader.specs.Reads.{input_of, name_of}
use Rattle.entries.proofs.Whole.{grammar_read}
use Rattle.entries.proofs.grammar.load.read_grammar.Goals as goal

pub invariant_of-result : goal.invariant_of-result
invariant_of-result c =
    let r = grammar_read (input_of c.new-reader.result) _ _ _ _ _ _ _
    c.in_ok-read_kind.ensures
    c.in_ok-terminals.ensures
    (c.in_ok-nonterminals.ensures ∙ ap (λ xs. read_declarations loader_checks 1 64 (map name_of xs) (input_of c.read_declarations.new.reader)) c.deref.ensures.value)
    (c.in_ok-productions.ensures.read ∙ ap (λ xs. read_productions loader_checks (map name_of xs) (input_of c.read_declarations-2.new.reader)) c.deref-2.ensures.value) in
    let m = ap (read_grammar loader_checks) (sym c.new-reader.ensures) ∙ r in
    let law = grammar_lawful c.args.file.now _ _ m in
    record { loaded = ∣ record { lawful = law; tiles = c.in_ok-productions.ensures.tiles } ∣₁ }
