-- The row is read where there is one.
use Rattle.std.proofs.Common.{arith}
use Rattle.std.proofs.lemmas.Result.{err_from_is_err_and}
use Rattle.table_model.specs.Steps.{read_none}
use Rattle.attribute_table.proofs.Calls.{kept}
use Rattle.attribute_table.proofs.Outcomes.{not_final, read_of_final, read_of_other}
use Rattle.attribute_table.proofs.table.Table.read.Goals as goal

pub returns-in_err-row : goal.returns-in_err-row
returns-in_err-row g c =
    let enough = c.in_ok-check_length.ensures.ok in
    let none = c.in_err-row.ensures.err in
    let p = err_from_is_err_and c.from_residual-in_err-row.result c.from_residual-in_err-row.ensures.1 in
    rw (p.1, p.2, none.0) (kept (omega arith) (read_none (omega (arith, none.1))))

pub returns-in-Final : goal.returns-in-Final
returns-in-Final g c =
    let enough = c.in_ok-check_length.ensures.ok in
    let found = c.in_ok-row.ensures.ok in
    read_of_final (omega arith) (omega (arith, found.0)) c.in_ok-row.row found.1 c.in-Final.is

pub returns-in-Untouched : goal.returns-in-Untouched
returns-in-Untouched g c =
    let enough = c.in_ok-check_length.ensures.ok in
    let found = c.in_ok-row.ensures.ok in
    read_of_other (omega arith) (omega (arith, found.0)) c.in_ok-row.row found.1 (not_final _ c.in-Untouched.is)
