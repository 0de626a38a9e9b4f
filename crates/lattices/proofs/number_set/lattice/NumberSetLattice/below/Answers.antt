use Rattle.std.proofs.Common.{ap, ◌∙◌}
use Rattle.std.proofs.lemmas.Bool.Decides.{Decides-at}
use Rattle.lattices.specs.Sets.{same_set, set_laws}
use Rattle.lattices.proofs.Joins.{join_decides}
use Rattle.lattices.proofs.number_set.lattice.NumberSetLattice.below.Goals as goal

pub returns : goal.returns
returns c =
    let x = c.args.self in
    let y = c.args.other in
    Decides-at c.eq.result _ (c.eq.ensures ∙ ap (λ u. same_set u y) c.join.ensures) (join_decides set_laws x y)
