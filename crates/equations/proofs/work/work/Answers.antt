-- The rules of the system are over the lattice's order and bottom, by what `size` promises.
use Rattle.equations.proofs.All.{theory_by}
use Rattle.equations.proofs.work.work.Goals as goal

pub returns-then-values-size-clause-theory : goal.returns-then-values-size-clause-theory
returns-then-values-size-clause-theory g c =
    theory_by g.S.Value.Lattice.laws _ c.size.ensures.bottom c.size.ensures.order (g.S.System.lawful c.args.system.now)

pub returns-clause-theory : goal.returns-clause-theory
returns-clause-theory g c =
    theory_by g.S.Value.Lattice.laws _ c.size.ensures.bottom c.size.ensures.order (g.S.System.lawful c.args.system.now)
