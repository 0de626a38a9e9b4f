use Rattle.lattices.proofs.Members.{removed_digit}
use Rattle.lattices.proofs.number_set.NumberSet.remove.Goals as goal

pub returns : goal.returns
returns c n = rw c.bit.ensures (removed_digit c.args.self c.args.number n)
