use Rattle.lattices.proofs.Members.{bit_of_test}
use Rattle.lattices.proofs.number_set.NumberSet.contains.Goals as goal

pub returns : goal.returns
returns c = rw c.bit.ensures (bit_of_test c.args.self c.args.number)
