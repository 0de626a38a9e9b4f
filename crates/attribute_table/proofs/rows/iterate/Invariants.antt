-- Each round so far changed something, from rows that were pending at the bottom. The sum of the ranks rises.
use Rattle.std.proofs.Common.{◌-◌, ◌*◌}
use Rattle.equations.specs.Rounds.{members}
use Rattle.equations.proofs.Rising.{ranks}
use Rattle.table_model.specs.Rows.{pending, values}
use Rattle.attribute_table.specs.Lent.{rows_of}
use Rattle.attribute_table.proofs.Iterating.{Iterating}
use Rattle.attribute_table.proofs.rows.iterate.Given as goal

abbrev pub invariant-loop-rounds : goal.invariant-loop-rounds
invariant-loop-rounds g l =
    Iterating g.S.Value.Lattice.bot g.S.Value.Lattice.same (g.S.System.equations l.system) l.initial.rows l.rows l.rounds

abbrev pub decreases-loop-rounds : goal.decreases-loop-rounds
decreases-loop-rounds g l =
    let bot = g.S.Value.Lattice.bot in
    let e = g.S.System.equations l.system in
    let s = pending (rows_of bot l.initial.rows) in
    members s e.size * g.S.Value.Lattice.height - ranks g.S.Value.Lattice.rank e s (values (rows_of bot l.rows))
