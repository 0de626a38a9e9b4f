-- The operands before the turn's are added.
use Rattle.reach_search.specs.Additions.{Adds}
use Rattle.reach_search.proofs.Searching.{UsesBelow}
use Rattle.reach_search.proofs.found.Found.add_operands.Given as goal

abbrev pub invariant-loop-index : goal.invariant-loop-index
invariant-loop-index g l =
    Adds (UsesBelow (g.S.System.equations l.system) l.instance l.index) l.initial.self l.self
