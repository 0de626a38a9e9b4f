use Rattle.std.proofs.Common.{map, vec_items, ap, ◌∙◌, arith, rules}
use Rattle.std.proofs.lemmas.List.{map_push}
use Rattle.std.proofs.lemmas.Result.{err_from_is_err_and}
use Rattle.entry_format.proofs.Loops.{series_more, series_bad}
use Rattle.entry_format.specs.Grammars.{loader_checks, read_declaration}
use Rattle.entry_reader.specs.Reads.{input_of, name_of}
use Rattle.entries.specs.Fields.{names_of}
use Rattle.entries.proofs.fields.read_declarations.Goals as goal

pub returns-in_err-name : goal.returns-in_err-name
returns-in_err-name g c =
    let read = read_declaration loader_checks (map name_of c.args.earlier.now) in
    let e = series_bad read c.in_ok-count.count c.loop.counter c.loop-test.true (names_of c.loop.names) (input_of c.loop.reader) _ (c.in_err-name.ensures ∙ ap (λ xs. read (map name_of xs) (input_of c.loop.reader)) c.as_slice.ensures.value) in
    let p = err_from_is_err_and c.from_residual-in_err-name.result c.from_residual-in_err-name.ensures.1 in
    rw (p.1, p.2) (search (rules, e))

pub loop-preserved : goal.loop-preserved
loop-preserved g c =
    let read = read_declaration loader_checks (map name_of c.args.earlier.now) in
    let e = series_more read c.in_ok-count.count c.loop.counter c.loop-test.true (names_of c.loop.names) (input_of c.loop.reader) _ _ (c.in_ok-name.ensures ∙ ap (λ xs. read (map name_of xs) (input_of c.loop.reader)) c.as_slice.ensures.value) in
    let p = c.push_reserved.ensures.items in
    let m = map_push name_of (vec_items c.loop.names) c.in_ok-name.name in
    (cc, omega arith, omega arith)
