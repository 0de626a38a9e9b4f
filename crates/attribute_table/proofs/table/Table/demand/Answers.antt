-- The row that is asked for, then the search of the reach, rounds and a close.
use Rattle.std.proofs.Common.{◌≡◌, arith, rules}
use Rattle.std.proofs.lemmas.List.{get_or_read}
use Rattle.std.proofs.lemmas.Result.{err_from_is_err_and}
use Rattle.equations.proofs.Monotone.{lawful_by}
use Rattle.table_model.specs.Steps.{demand_busy, demand_none}
use Rattle.table_model.specs.declared.row.Mark.TheVariants.{Final}
use Rattle.attribute_table.proofs.RowsAfter.{pending_at_bottom}
use Rattle.attribute_table.proofs.Each.{each_lent, counts_lent}
use Rattle.attribute_table.proofs.Outcomes.{not_asked, demand_of_final, demand_of_dangling, demand_of_whole}
use Rattle.attribute_table.proofs.table.Table.demand.Goals as goal

pub returns-in_err-row-clause-call : goal.returns-in_err-row-clause-call
returns-in_err-row-clause-call g c =
    let p = err_from_is_err_and c.from_residual.result c.from_residual.ensures.1 in
    rw (p.1, p.2) (not_asked demand_busy demand_none _ c.in_err-row.ensures.err)

pub returns-then-eq-clause-call : goal.returns-then-eq-clause-call
returns-then-eq-clause-call g c =
    let asked = c.in_ok-row.ensures.ok in
    let r = c.in_ok-row.row in
    let final : r.mark ≡ Final = search rules in
    demand_of_final asked.0.0 asked.0.2 r asked.1 asked.0.1 final

pub returns-in_err-reach-clause-call : goal.returns-in_err-reach-clause-call
returns-in_err-reach-clause-call g c =
    let asked = c.in_ok-row.ensures.ok in
    let r = c.in_ok-row.row in
    let p = err_from_is_err_and c.from_residual-in_err-reach.result c.from_residual-in_err-reach.ensures.1 in
    let other : r.mark ≡ Final → ⊥ = search rules in
    rw (p.1, p.2) (demand_of_dangling asked.0.0 asked.0.2 r asked.1 asked.0.1 other (c.reach.ensures.tells asked.0.0.1 asked.0.2) _ c.in_err-reach.was)

pub iterate-rounds-requires : goal.iterate-rounds-requires
iterate-rounds-requires g c =
    let enough = c.in_ok-row.ensures.ok.0.0 in
    let e = g.S.System.equations c.args.system.now in
    let opens = each_lent _ c.size-size.ensures.size _ (omega arith) c.open_rows.ensures in
    record {
      rows = omega (arith, opens.length, enough.0);
      lawful = lawful_by c.size-size.ensures.bottom c.size-size.ensures.order (g.S.System.lawful c.args.system.now);
      bottom = pending_at_bottom g.S.Value.Lattice.bot e g.S.Value.Lattice.same c.reach.new.work opens;
    }

pub returns-clause-call : goal.returns-clause-call
returns-clause-call g c =
    let asked = c.in_ok-row.ensures.ok in
    let bot = g.S.Value.Lattice.bot in
    let r = c.in_ok-row.row in
    let x = c.index-rows-instance.result in
    let ended = c.iterate-rounds.new.rows in
    let size = c.size-size.ensures.size in
    let closes = c.make_final-made_final.ensures in
    let ends = get_or_read ended c.args.instance x (omega (arith, c.open_rows.ensures.length, c.iterate-rounds.ensures.length)) c.index-rows-instance.is in
    let other : r.mark ≡ Final → ⊥ = search rules in
    demand_of_whole asked.0.0 asked.0.2 r asked.1 asked.0.1 other (c.reach.ensures.tells asked.0.0.1 asked.0.2) _ c.in_ok-reach.was
    c.reach.new.work (c.reach.ensures.marks asked.0.0.1 asked.0.2) (each_lent bot size _ (omega arith) c.open_rows.ensures)
    c.iterate-rounds.ensures (each_lent bot size _ (omega arith) closes.rows) x (ends _) (counts_lent bot size ended (omega arith) closes.count)
