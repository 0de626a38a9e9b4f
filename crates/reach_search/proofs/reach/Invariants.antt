-- The search from the instance.
use Rattle.std.proofs.Common.{◌-◌, length}
use Rattle.reach_search.proofs.Searching.{Searching}
use Rattle.reach_search.proofs.reach.Given as goal

abbrev pub invariant-loop-next : goal.invariant-loop-next
invariant-loop-next g l =
    Searching (g.S.System.equations l.system) l.instance l.initial.found l.found

abbrev pub decreases-loop-next : goal.decreases-loop-next
decreases-loop-next g l = length l.found.marks.now - l.found.visited
