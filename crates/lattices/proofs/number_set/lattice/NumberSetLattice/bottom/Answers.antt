use Rattle.std.proofs.Common.{sym, ◌∙◌}
use Rattle.lattices.specs.Sets.{empty_set, same_members, has_empty}
use Rattle.lattices.proofs.number_set.lattice.NumberSetLattice.bottom.Goals as goal

pub returns : goal.returns
returns c = same_members c.empty.result empty_set (λ n. c.empty.ensures n ∙ sym (has_empty n))
