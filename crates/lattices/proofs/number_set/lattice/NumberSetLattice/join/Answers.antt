use Rattle.lattices.proofs.Members.{union_by_members}
use Rattle.lattices.proofs.number_set.lattice.NumberSetLattice.join.Goals as goal

pub returns : goal.returns
returns c = union_by_members c.args.self c.args.other c.union.result c.union.ensures
