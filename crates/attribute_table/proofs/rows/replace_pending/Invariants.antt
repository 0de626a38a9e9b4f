-- The pending rows below i are replaced and counted.
use Rattle.attribute_table.proofs.Counting.{Counting}
use Rattle.attribute_table.proofs.rows.replace_pending.Given as goal

abbrev pub invariant-loop-row : goal.invariant-loop-row
invariant-loop-row g l = Counting g.V.Lattice.bot (goal.F-post g l.by) l.initial.rows l.row-index l.rows l.count
