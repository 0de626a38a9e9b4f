-- Before the turn of k the value is the start, taken through the first k steps.
use Rattle.std.proofs.Common.{◌≡◌}
use Rattle.equations.specs.Equations.{after}
use Rattle.equations.proofs.work.equation_value.Given as goal

abbrev pub invariant-loop-k : goal.invariant-loop-k
invariant-loop-k g l =
    l.so_far ≡ after (g.S.System.equations l.system) (g.W.Family.value l.family) l.instance l.k
