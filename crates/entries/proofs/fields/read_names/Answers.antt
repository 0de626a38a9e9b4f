use Rattle.std.proofs.Common.{◌+◌, ◌-◌, vec_len, sym, ap, ◌∙◌}
use Rattle.std.proofs.lemmas.Result.{err_from_is_err_and}
use Rattle.entry_format.proofs.Loops.{series_more, series_bad}
use Rattle.entry_format.specs.Reading.{read_name, series}
use Rattle.entry_reader.specs.Reads.{input_of}
use Rattle.entries.specs.Fields.{names_from}
use Rattle.entries.proofs.Vectors.{names_more, keeps_more}
use Rattle.entries.proofs.fields.read_names.Goals as goal

pub returns-in_err-name-clause-read : goal.returns-in_err-name-clause-read
returns-in_err-name-clause-read c =
    let e = series_bad (λ _. read_name) c.args.count c.loop.counter c.loop-test.true (names_from (vec_len c.args.names.now) c.loop.names) (input_of c.loop.reader) _ c.in_err-name.ensures in
    let p = err_from_is_err_and c.from_residual.result c.from_residual.ensures.1 in
    rw (p.1, p.2) (sym (c.loop.invariant.0 ∙ e))

pub loop-preserved : goal.loop-preserved
loop-preserved c =
    let e = series_more (λ _. read_name) c.args.count c.loop.counter c.loop-test.true (names_from (vec_len c.args.names.now) c.loop.names) (input_of c.loop.reader) _ _ c.in_ok-name.ensures in
    let m = names_more c.loop.counter c.args.names.now c.loop.names c.push_reserved.new.self c.in_ok-name.name c.loop.invariant.1 c.push_reserved.ensures.items in
    let k = keeps_more c.loop.counter c.args.names.now c.loop.names c.push_reserved.new.self c.in_ok-name.name c.loop.invariant.1 c.push_reserved.ensures.items c.push_reserved.ensures.len c.push_reserved.ensures.capacity in
    (c.loop.invariant.0 ∙ e ∙ ap (λ done. series (λ _. read_name) (c.args.count - (c.loop.counter + 1)) done (input_of c.name.new.self)) (sym m), k)
