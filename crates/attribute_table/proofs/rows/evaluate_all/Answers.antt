-- A turn evaluates one row more.
use Rattle.std.proofs.Common.{◌≡◌, ◌+◌, cond, arith}
use Rattle.attribute_table.proofs.Sweeps.{evaluated_more}
use Rattle.attribute_table.proofs.rows.evaluate_all.Goals as goal
use Rattle.attribute_table.proofs.rows.evaluate_all.Goals.{then-evaluate, else-evaluate}

pub loop-instance-preserved : goal.loop-instance-preserved
loop-instance-preserved g c =
    let count : c.if-evaluate.changed ≡ c.loop-instance.changed + cond c.evaluate.result 1 0 = elim c.if-evaluate.branch [ then-evaluate w ↦ grind arith | else-evaluate w ↦ grind arith ] in
    record {
      evaluated = evaluated_more _ _ _ c.loop-instance.invariant.evaluated c.evaluate.ensures count;
      few = elim c.if-evaluate.branch [ then-evaluate w ↦ omega arith | else-evaluate w ↦ omega arith ];
    }
