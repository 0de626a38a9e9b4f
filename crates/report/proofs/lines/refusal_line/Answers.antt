use Rattle.std.proofs.Common.{◌∙◌}
use Rattle.std.proofs.lemmas.Result.{IfOk-weaker}
use Rattle.entry_format.specs.Faults.{layer_name, reason_of}
use Rattle.report.specs.Lines.{refusal_words}
use Rattle.report.proofs.lines.refusal_line.Goals as goal

pub returns : goal.returns
returns c =
    IfOk-weaker c.format.result _ _
    (λ _ e. e ∙ (λ k. refusal_words c.args.file.now (c.number-number.ensures k) (layer_name (c.layer-layer.ensures k)) (c.place-place.ensures k) (reason_of c.args.fault)))
    c.format.ensures.ok
