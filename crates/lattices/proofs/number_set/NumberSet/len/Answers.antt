use Rattle.std.proofs.Common.{sym}
use Rattle.lattices.specs.Sets.{size_ones}
use Rattle.lattices.proofs.number_set.NumberSet.len.Goals as goal

pub returns : goal.returns
returns c = sym (size_ones c.args.self)
