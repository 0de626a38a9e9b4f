-- The session fits the record, or it does not.
use Rattle.std.proofs.Common.{ap, ◌∙◌, arith}
use Rattle.std.proofs.lemmas.List.{get_or_read}
use Rattle.table_model.specs.Calls.{evaluation}
use Rattle.table_model.specs.Rows.{row}
use Rattle.table_model.specs.Steps.{close_none, close_unfit}
use Rattle.table_model.specs.declared.row.Mark.TheVariants.{Untouched}
use Rattle.attribute_table.specs.Lent.{rows_of}
use Rattle.attribute_table.proofs.Calls.{kept}
use Rattle.attribute_table.proofs.Each.{each_lent, counts_lent}
use Rattle.attribute_table.proofs.Outcomes.{another_settled, close_of_settled}
use Rattle.attribute_table.proofs.table.Table.close.Goals.{in_default-via-in-Settled-default+else-settled-instance, in_default-via-in_default}
use Rattle.attribute_table.proofs.table.Table.close.Goals as goal

pub returns-then-session-size-clause-call : goal.returns-then-session-size-clause-call
returns-then-session-size-clause-call g c = kept (omega arith) (close_none (omega arith))

pub returns-in-Settled-default-clause-call : goal.returns-in-Settled-default-clause-call
returns-in-Settled-default-clause-call g c =
    let rows = c.args.rows.now in
    let bot = g.S.Value.Lattice.bot in
    let size = c.size-size.ensures.size in
    let closes = c.make_final-made_final.ensures in
    let read = get_or_read rows c.spend.result c.index-rows-spend.result (omega arith) c.index-rows-spend.is (row Untouched bot) in
    close_of_settled (omega arith) c.in-Settled-default.settled c.if-settled-instance.true c.in-Settled-default.is-0 (omega arith) c.index-rows-spend.result
    (read ∙ ap (rows_of bot rows) c.spend.ensures) (each_lent bot size _ (omega arith) closes.rows) (counts_lent bot size rows (omega arith) closes.count)

pub returns-in_default-clause-call : goal.returns-in_default-clause-call
returns-in_default-clause-call g c =
    kept (omega arith) (close_unfit (omega arith) (elim c.in_default.branch [
      | in_default-via-in-Settled-default+else-settled-instance w ↦ another_settled _ w.in-Settled-default.settled _ w.in-Settled-default.is-0 w.if-settled-instance.false
      | in_default-via-in_default w ↦ λ k. w.in_default.not-Settled-0 (evaluation c.args.session.instance k)
    ]))
