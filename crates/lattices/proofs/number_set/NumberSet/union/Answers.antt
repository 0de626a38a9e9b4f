use lib.Bits.{or_lt}
use Rattle.lattices.specs.Sets.{has_union}
use Rattle.lattices.proofs.number_set.NumberSet.union.Goals as goal

pub invariant_of-result : goal.invariant_of-result
invariant_of-result c = record { fits = or_lt 64 c.args.self.bits c.args.other.bits c.args.self.fits c.args.other.fits }

pub returns : goal.returns
returns c = has_union c.args.self c.args.other
