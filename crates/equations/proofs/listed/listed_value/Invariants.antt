-- Before the turn of k the value is the start, taken through the first k steps.
use Rattle.std.proofs.Common.{◌≡◌, get_or}
use Rattle.equations.specs.Equations.{after}
use Rattle.equations.proofs.listed.listed_value.Given as goal

abbrev pub invariant-loop-k : goal.invariant-loop-k
invariant-loop-k g l =
    l.so_far ≡ after (g.S.System.equations l.system) (λ j. get_or l.values j g.S.Value.Lattice.bot) l.instance l.k
