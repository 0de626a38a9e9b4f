use Rattle.std.proofs.Common.{◌+◌, ◌-◌, map, sym, ap, ◌∙◌, arith, rules}
use Rattle.std.proofs.lemmas.Result.{err_from_is_err_and}
use Rattle.entry_format.proofs.Loops.{series_more, series_bad}
use Rattle.entry_format.specs.Grammars.{loader_checks, read_production, read_production_after}
use Rattle.entry_format.specs.Reading.{series}
use Rattle.entry_reader.specs.Reads.{input_of, name_of}
use Rattle.entries.specs.Loaded.{productions_of}
use Rattle.entries.proofs.Tiling.{references_count, tiles_more, productions_more}
use Rattle.entries.proofs.grammar.load.read_productions.Goals as goal

pub returns-in_err-production : goal.returns-in_err-production
returns-in_err-production c =
    let nts = map name_of c.args.nonterminals.now in
    let done = productions_of c.loop.productions c.loop.references in
    let used = references_count c.loop.productions c.loop.references c.loop.invariant.1 in
    let e = series_bad (read_production loader_checks nts) c.in_ok-count.count c.loop.counter c.loop-test.true done (input_of c.loop.reader) _ (c.in_err-production.ensures.read ∙ ap (λ n. read_production_after loader_checks nts n (input_of c.loop.reader)) (sym used)) in
    let p = err_from_is_err_and c.from_residual-in_err-production.result c.from_residual-in_err-production.ensures.1 in
    rw (p.1, p.2) (record { read = search (rules, e); tiles = tt })

pub loop-preserved : goal.loop-preserved
loop-preserved c =
    let nts = map name_of c.args.nonterminals.now in
    let done = productions_of c.loop.productions c.loop.references in
    let told = c.in_ok-production.ensures in
    let used = references_count c.loop.productions c.loop.references c.loop.invariant.1 in
    let e = series_more (read_production loader_checks nts) c.in_ok-count.count c.loop.counter c.loop-test.true done (input_of c.loop.reader) _ _ (told.read ∙ ap (λ n. read_production_after loader_checks nts n (input_of c.loop.reader)) (sym used)) in
    let m = productions_more c.loop.productions c.push_reserved.new.self c.loop.references c.read_production.new.references c.in_ok-production.production c.loop.invariant.1 told.adds c.push_reserved.ensures.items in
    let t = tiles_more c.loop.productions c.push_reserved.new.self c.loop.references c.read_production.new.references c.in_ok-production.production c.loop.invariant.1 told.adds c.push_reserved.ensures.items in (
      c.loop.invariant.0 ∙ e ∙ ap (λ l. series (read_production loader_checks nts) (c.in_ok-count.count - (c.loop.counter + 1)) l (input_of c.read_production.new.reader)) (sym m),
      t,
      omega arith,
      told.adds.few,
      omega arith,
      omega (arith, told.adds.keeps.room),
    )
