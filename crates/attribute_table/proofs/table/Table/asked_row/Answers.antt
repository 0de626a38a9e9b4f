-- The checks in their order, then the row.
use Rattle.std.proofs.Common.{arith}
use Rattle.std.proofs.lemmas.Result.{MatchResult-weaker, err_from_is_err_and}
use Rattle.attribute_table.specs.Lent.{too_short, not_idle, no_instance}
use Rattle.attribute_table.proofs.table.Table.asked_row.Goals as goal

pub returns-in_err-check_length-clause-err : goal.returns-in_err-check_length-clause-err
returns-in_err-check_length-clause-err g c =
    let p = err_from_is_err_and c.from_residual.result c.from_residual.ensures.1 in
    let few = c.in_err-check_length.ensures.err in
    rw (p.1, p.2, few.0) (too_short (λ lent. let enough = lent.0 in omega (arith, few.1)))

pub returns-in_err-check_length-2-clause-err : goal.returns-in_err-check_length-2-clause-err
returns-in_err-check_length-2-clause-err g c =
    let p = err_from_is_err_and c.from_residual-in_err-check_length-2.result c.from_residual-in_err-check_length-2.ensures.1 in
    let few = c.in_err-check_length-2.ensures.err in
    rw (p.1, p.2, few.0) (too_short (λ lent. let places = lent.1 in omega (arith, few.1)))

pub returns-in_default : goal.returns-in_default
returns-in_default g c =
    let enough = c.in_ok-check_length.ensures.ok in
    let places = c.in_ok-check_length-2.ensures.ok in
    record { ok = tt; err = not_idle (omega arith, omega arith) c.in_default.not-Idle }

pub returns-clause-err : goal.returns-clause-err
returns-clause-err g c =
    let enough = c.in_ok-check_length.ensures.ok in
    let places = c.in_ok-check_length-2.ensures.ok in
    MatchResult-weaker c.row_of.result c.row_of.ensures.err (λ _ u. u) (λ f none. rw none.0 (no_instance (omega arith, omega arith) c.in-Idle.is (omega (arith, none.1))))
