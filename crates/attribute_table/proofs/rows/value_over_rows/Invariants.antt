-- Before the turn of k the value is the start, taken through the first k steps.
use Rattle.std.proofs.Common.{◌≡◌}
use Rattle.equations.specs.Equations.{after}
use Rattle.table_model.specs.Rows.{values}
use Rattle.attribute_table.specs.Lent.{rows_of}
use Rattle.attribute_table.proofs.rows.value_over_rows.Given as goal

abbrev pub invariant-loop-k : goal.invariant-loop-k
invariant-loop-k g l =
    l.so_far ≡ after (g.S.System.equations l.system) (values (rows_of g.S.Value.Lattice.bot l.rows)) l.instance l.k
