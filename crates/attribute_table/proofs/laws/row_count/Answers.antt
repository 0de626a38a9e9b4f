use Rattle.equations.proofs.Monotone.{lawful_by}
use Rattle.table_model.proofs.All.{table_laws}
use Rattle.table_model.proofs.Determined.{calls_are_determined}
use Rattle.attribute_table.proofs.laws.row_count.Goals as goal

pub returns : goal.returns
returns g c =
    let laws = g.S.Value.Lattice.laws in
    let e = g.S.System.equations c.args.system.now in
    let lawful = lawful_by c.size.ensures.bottom c.size.ensures.order (g.S.System.lawful c.args.system.now) in
    record { value = c.size.ensures.size; laws = table_laws laws e lawful (calls_are_determined laws e lawful) }
