-- The search visits each instance found, and what is told of the marked instances is told of the reach.
use Rattle.std.proofs.Common.{◌<◌, ℕ, refl, arith, rules}
use Rattle.std.proofs.lemmas.List.{length-append}
use Rattle.std.proofs.lemmas.Result.{err_from_is_err_and}
use Rattle.reach_search.proofs.Searching.{searching_none, searching_more, turn_smaller, tells_whole, tells_lowest, searched}
use Rattle.reach_search.proofs.reach.Goals as goal

pub loop-next-init : goal.loop-next-init
loop-next-init g c =
    searching_none (g.S.System.equations c.args.system.now) refl c.new-found.ensures c.add.ensures

pub loop-next-smaller : goal.loop-next-smaller
loop-next-smaller g c =
    turn_smaller (g.S.System.equations c.args.system.now) c.loop-next.invariant c.in-Some.ensures c.add_operands.ensures

pub loop-next-preserved : goal.loop-next-preserved
loop-next-preserved g c =
    searching_more (g.S.System.equations c.args.system.now) c.loop-next.invariant c.in-Some.ensures c.add_operands.ensures

pub returns-in_err-check_whole : goal.returns-in_err-check_whole
returns-in_err-check_whole g c =
    let e = g.S.System.equations c.args.system.now in
    let lawful = g.S.System.lawful c.args.system.now in
    let l : c.args.instance < e.size = omega arith in
    let p = err_from_is_err_and c.from_residual.result c.from_residual.ensures.1 in
    let tells = tells_lowest e lawful l c.loop-next.invariant c.in_default.ensures c.in_err-check_whole.ensures in
    rw (p.1, p.2) (searched e lawful l c.loop-next.invariant c.in_default.ensures _ _ _ (omega arith) (search rules) tells (omega (arith, length-append {A = ℕ})))

pub returns : goal.returns
returns g c =
    let e = g.S.System.equations c.args.system.now in
    let lawful = g.S.System.lawful c.args.system.now in
    let l : c.args.instance < e.size = omega arith in
    let tells = tells_whole e lawful l c.loop-next.invariant c.in_default.ensures c.in_ok-check_whole.ensures in
    searched e lawful l c.loop-next.invariant c.in_default.ensures _ _ _ (omega arith) (search rules) tells (omega (arith, length-append {A = ℕ}))
