use Rattle.std.proofs.Common.{le_trans, subst, sym}
use Rattle.lattices.specs.Sets.{has_past, LeastFrom}
use Rattle.lattices.proofs.Members.{least_from}
use Rattle.lattices.proofs.number_set.NumberSet.next_from.Goals as goal

pub returns-then-from-ge64 : goal.returns-then-from-ge64
returns-then-from-ge64 c m at = has_past c.args.self m (le_trans c.if-from-ge64.true at)

pub returns : goal.returns
returns c = subst (LeastFrom c.args.self c.args.from) (sym c.then_some.ensures) (least_from c.args.self c.args.from)
