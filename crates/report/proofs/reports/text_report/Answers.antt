use Rattle.std.proofs.Common.{ap, ◌∙◌}
use Rattle.std.proofs.lemmas.Result.{IfOk-weaker}
use Rattle.entries.specs.Models.{grammar_of}
use Rattle.entries.specs.Resolving.{resolve_reference}
use Rattle.report.specs.Reports.{grammar_report}
use Rattle.report.proofs.reports.text_report.Goals as goal

pub returns : goal.returns
returns c =
    let model = grammar_of c.args.grammar.now in
    IfOk-weaker c.grammar_report.result _ _
    (λ _ e. e ∙ (λ k. grammar_report c.args.file.now model (λ n. c.new-resolver.ensures.names n k)) ∙ ap (λ g. grammar_report c.args.file.now model (resolve_reference g)) c.new.ensures.model)
    c.grammar_report.ensures
