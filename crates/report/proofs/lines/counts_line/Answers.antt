use Rattle.std.proofs.Common.{length, vec_items, codes, sym, ap, ◌∙◌}
use Rattle.std.proofs.lemmas.List.{length-map}
use Rattle.std.proofs.lemmas.Result.{IfOk-weaker}
use Rattle.entry_reader.specs.Reads.{name_of}
use Rattle.entries.specs.Loaded.{production_of}
use Rattle.report.specs.Lines.{counted_noun, counts_words}
use Rattle.report.proofs.lines.counts_line.Goals as goal

pub returns : goal.returns
returns c =
    let references = vec_items c.args.grammar.now.references in
    let t = c.in_ok-terminals.ensures ∙ ap (λ n. counted_noun n (codes "terminal")) (sym (length-map c.terminals.result.now name_of) ∙ ap length c.terminals.ensures) in
    let n = c.in_ok-nonterminals.ensures ∙ ap (λ n. counted_noun n (codes "nonterminal")) (sym (length-map c.nonterminals.result.now name_of) ∙ ap length c.nonterminals.ensures) in
    let p = c.in_ok-productions.ensures ∙ ap (λ n. counted_noun n (codes "production")) (sym (length-map c.productions.result.now (production_of references)) ∙ ap length c.productions.ensures.model) in
    let r = c.in_ok-names.ensures ∙ ap (λ n. counted_noun n (codes "right-side name")) (sym (length-map c.references.result.now name_of) ∙ ap length c.references.ensures) in
    IfOk-weaker c.format.result _ _ (λ _ e. e ∙ (λ k. counts_words c.args.file.now (t k) (n k) (p k) (r k))) c.format.ensures.ok
