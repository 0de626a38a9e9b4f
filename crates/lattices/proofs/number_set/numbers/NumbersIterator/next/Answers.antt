use Rattle.std.proofs.Common.{arith, rules}
use Rattle.lattices.specs.Sets.{has_below}
use Rattle.lattices.proofs.number_set.numbers.NumbersIterator.next.Goals as goal

pub overflow_add-self : goal.overflow_add-self
overflow_add-self c = omega (arith, has_below c.args.self.now.set c.in_ok-number.number c.in_ok-number.ensures.1)

pub returns-clause-goes : goal.returns-clause-goes
returns-clause-goes c =
    let least = c.in_ok-number.ensures in
    let below = has_below c.args.self.now.set c.in_ok-number.number least.1 in
    record { on = λ _. (tt, search rules, omega (arith, below, least.0)); keeps = tt; rests = λ h. search rules }
