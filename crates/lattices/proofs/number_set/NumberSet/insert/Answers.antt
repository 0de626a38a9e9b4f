use lib.Bits.{or_lt}
use Rattle.lattices.proofs.Members.{inserted_digit, bit_of_fits}
use Rattle.lattices.proofs.number_set.NumberSet.insert.Goals as goal

pub invariant_of-result : goal.invariant_of-result
invariant_of-result c = record { fits = or_lt 64 c.args.self.bits _ c.args.self.fits (rw c.bit.ensures (bit_of_fits _)) }

pub returns : goal.returns
returns c n = rw c.bit.ensures (inserted_digit c.args.self.bits c.args.number n)
