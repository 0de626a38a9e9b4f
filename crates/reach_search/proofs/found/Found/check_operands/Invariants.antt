-- None of the operands before the turn's dangles.
use Rattle.reach_search.proofs.Lowest.{NoneBelow}
use Rattle.reach_search.proofs.found.Found.check_operands.Given as goal

abbrev pub invariant-loop-operand : goal.invariant-loop-operand
invariant-loop-operand g l = NoneBelow (g.S.System.equations l.self.system.now) l.instance l.operand-counter
