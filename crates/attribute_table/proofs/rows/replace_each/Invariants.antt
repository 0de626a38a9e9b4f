-- The rows below i are replaced.
use Rattle.attribute_table.specs.Effects.{EachReplaced}
use Rattle.attribute_table.proofs.rows.replace_each.Given as goal

abbrev pub invariant-loop-i : goal.invariant-loop-i
invariant-loop-i g l = EachReplaced g.V.Lattice.bot l.i (goal.F-post g l.by) l.initial.rows l.rows
