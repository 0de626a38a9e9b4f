-- None of the marked instances before the turn's has a dangling operand.
use Rattle.reach_search.specs.Marks.{Marked}
use Rattle.reach_search.proofs.Lowest.{NoneOfFirst}
use Rattle.reach_search.proofs.found.Found.check_whole.Given as goal

abbrev pub invariant-loop-instance : goal.invariant-loop-instance
invariant-loop-instance g l =
    NoneOfFirst (g.S.System.equations l.self.system.now) (Marked l.self.marks.now) l.instance
