-- The session fits the record, or it does not.
use Rattle.std.proofs.Common.{refl, arith}
use Rattle.table_model.specs.Calls.{evaluation}
use Rattle.table_model.specs.Steps.{round_unfit}
use Rattle.attribute_table.proofs.Calls.{kept}
use Rattle.attribute_table.proofs.Outcomes.{another_open, round_settles, changing_round}
use Rattle.attribute_table.proofs.table.Table.round.Goals as goal

pub returns-then-count-eq0-clause-call : goal.returns-then-count-eq0-clause-call
returns-then-count-eq0-clause-call g c =
    let at = c.in-Iterating-default in
    round_settles (omega arith) at.open c.if-open-instance.true at.is-0 c.evaluate_all-count.ensures c.saturating_add-rounds.ensures c.if-count-eq0.true

pub returns-else-count-eq0-clause-call : goal.returns-else-count-eq0-clause-call
returns-else-count-eq0-clause-call g c =
    let at = c.in-Iterating-default in
    changing_round (omega arith) at.open c.if-open-instance.true at.is-0 c.evaluate_all-count.ensures c.saturating_add-rounds.ensures c.if-count-eq0.false

pub returns-in_default-clause-call : goal.returns-in_default-clause-call
returns-in_default-clause-call g c =
    kept (omega arith) (round_unfit (another_open _ c.in-Iterating-default.open _ c.in-Iterating-default.is-0 c.if-open-instance.false))

pub returns-in_default-2 : goal.returns-in_default-2
returns-in_default-2 g c =
    record { call = kept (omega arith) (round_unfit (λ k. c.in_default.not-Iterating-0 (evaluation c.args.session.instance k))); session = refl }
