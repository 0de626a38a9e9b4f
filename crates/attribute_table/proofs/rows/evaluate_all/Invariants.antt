-- The pending rows below `instance` have their equations' values, and at most as many changed.
use Rattle.std.proofs.Common.{◌≤◌}
use Rattle.attribute_table.specs.Effects.{Evaluated}
use Rattle.attribute_table.proofs.rows.evaluate_all.Given as goal

abbrev pub invariant-loop-instance : goal.invariant-loop-instance
invariant-loop-instance g l =
    record {
      evaluated : Evaluated g.S.Value.Lattice.bot g.S.Value.Lattice.same (g.S.System.equations l.system) l.instance l.initial.rows l.rows l.changed;
      few : l.changed ≤ l.instance;
    }
