-- A round that changes something raises the sum of the ranks; one that changes nothing is the last.
use Rattle.std.proofs.Common.{arith}
use Rattle.attribute_table.proofs.Iterating.{iterating_more, iterating_done, ranks_rise}
use Rattle.attribute_table.proofs.rows.iterate.Goals as goal

pub loop-rounds-smaller : goal.loop-rounds-smaller
loop-rounds-smaller g c =
    ranks_rise g.S.Value.Lattice.laws _ c.loop-rounds.invariant c.evaluate_all.ensures c.requires.lawful c.requires.bottom (omega arith)

pub loop-rounds-preserved : goal.loop-rounds-preserved
loop-rounds-preserved g c =
    iterating_more g.S.Value.Lattice.laws _ c.loop-rounds.invariant c.evaluate_all.ensures _ (omega arith) c.saturating_add-rounds.ensures

pub returns : goal.returns
returns g c =
    iterating_done g.S.Value.Lattice.laws _ c.loop-rounds.invariant c.evaluate_all.ensures c.loop-rounds-test.false
