-- The session fits the record and there are enough rows, or 0 is answered.
use Rattle.std.proofs.Common.{arith, rules}
use Rattle.attribute_table.proofs.Each.{each_lent, counts_lent}
use Rattle.attribute_table.proofs.Outcomes.{given_up, not_given_up}
use Rattle.attribute_table.proofs.table.Table.give_up.Goals.{then-rows-size-via-then-rows-size, then-rows-size-via-else-rows-size+then-not-fits}
use Rattle.attribute_table.proofs.table.Table.give_up.Goals as goal

pub returns-then-rows-size : goal.returns-then-rows-size
returns-then-rows-size g c =
    not_given_up g.P.Phase.phase c.args.session.instance (λ lent. elim c.then-rows-size.branch [
      | then-rows-size-via-then-rows-size w ↦ absurd (omega arith)
      | then-rows-size-via-else-rows-size+then-not-fits w ↦ search rules
    ])

pub returns : goal.returns
returns g c =
    let bot = g.S.Value.Lattice.bot in
    let rows = c.args.rows.now in
    let releases = c.release.ensures in
    let size = c.size-size.ensures.size in
    given_up g.P.Phase.phase c.args.session.instance (omega arith) (search rules) (each_lent bot size rows (omega arith) releases.rows) (counts_lent bot size rows (omega arith) releases.count)
