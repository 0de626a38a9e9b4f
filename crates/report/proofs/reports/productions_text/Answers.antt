use Rattle.std.proofs.Common.{◌+◌, ◌≤◌, ◌++◌, map, length, get_or, drop, string_bytes, refl, ap, ◌∙◌, subst, arith}
use Rattle.std.proofs.lemmas.List.{drop_more, at_drop_all}
use Rattle.std.proofs.lemmas.Slice.{pushed}
use Rattle.entry_reader.specs.Reads.{name_of}
use Rattle.entries.specs.Loaded.{Tiles}
use Rattle.entries.specs.Models.{grammar_of}
use Rattle.report.specs.Reports.{numbered, production_text, productions_text}
use Rattle.report.proofs.Limits.{references_length, references_le}
use Rattle.report.proofs.Productions.{no_production, line, found_some, found_right, found_few, tiled_text}
use Rattle.report.proofs.Steps.{written_more, written_all}
use Rattle.report.proofs.reports.productions_text.Goals as goal

pub unwrap-right-requires : goal.unwrap-right-requires
unwrap-right-requires g c =
    found_some c.args.grammar.now.references.items c.productions-production-items.result.now (grammar_of c.args.grammar.now).productions c.loop-number.number
    c.productions-production-items.ensures.model c.loop-number-test.true (λ names. map name_of names.now) c.right_side.result c.right_side.ensures

pub production_text-requires : goal.production_text-requires
production_text-requires g c =
    let references = c.args.grammar.now.references.items in
    let items = c.productions-production-items.result.now in
    let i = c.loop-number.number in
    let right = found_right references items (grammar_of c.args.grammar.now).productions i
    c.productions-production-items.ensures.model c.loop-number-test.true (λ names. map name_of names.now) c.right_side.result c.right_side.ensures
    c.unwrap-right.result c.unwrap-right.ensures in
    let tiles = subst (Tiles 0 items) (references_length c.args.grammar.now) c.productions-production-items.ensures.tiles in
    omega (arith, found_few references items i c.unwrap-right.result.now tiles c.loop-number-test.true right, references_length c.args.grammar.now, references_le c.args.grammar.now)

pub loop-number-preserved : goal.loop-number-preserved
loop-number-preserved g c =
    let references = c.args.grammar.now.references.items in
    let items = c.productions-production-items.result.now in
    let i = c.loop-number.number in
    let p = get_or items i no_production in
    let names = g.R.Resolver.names c.args.resolver.now in
    let right = found_right references items (grammar_of c.args.grammar.now).productions i
    c.productions-production-items.ensures.model c.loop-number-test.true (λ names. map name_of names.now) c.right_side.result c.right_side.ensures
    c.unwrap-right.result c.unwrap-right.ensures in
    let piece = c.deref.ensures ∙ c.in_ok-production_text.ensures ∙ ap (production_text names i p.first (name_of p.left)) right in
    let push = pushed c.deref.result.now refl c.in_ok-push_str.was c.push_str.ensures.bytes in
    written_more (string_bytes c.loop-number.lines) (line references names i p) (numbered (line references names) (i + 1) (drop (i + 1) items))
    c.loop-number.invariant
    (ap (numbered (line references names) i) (drop_more items i no_production c.loop-number-test.true))
    (push ∙ ap (λ t. string_bytes c.loop-number.lines ++ t) piece)

pub returns : goal.returns
returns g c =
    let references = c.args.grammar.now.references.items in
    let items = c.productions-production-items.result.now in
    let names = g.R.Resolver.names c.args.resolver.now in
    let le : length items ≤ c.loop-number.number = omega (arith, c.loop-number-test.false) in
    let tiles = subst (Tiles 0 items) (references_length c.args.grammar.now) c.productions-production-items.ensures.tiles in
    written_all (string_bytes c.loop-number.lines) c.loop-number.invariant (at_drop_all (numbered (line references names) c.loop-number.number) items c.loop-number.number le)
    ∙ tiled_text references names 0 0 items tiles
    ∙ ap (productions_text names 0 0) c.productions-production-items.ensures.model
