-- The row that is asked for, then the search of the reach.
use Rattle.std.proofs.Common.{◌≡◌, arith, rules}
use Rattle.std.proofs.lemmas.Result.{err_from_is_err_and}
use Rattle.table_model.specs.Steps.{open_busy, open_none}
use Rattle.table_model.specs.declared.row.Mark.TheVariants.{Final}
use Rattle.attribute_table.proofs.Each.{each_lent}
use Rattle.attribute_table.proofs.Outcomes.{not_asked, open_of_final, open_of_dangling, open_of_whole}
use Rattle.attribute_table.proofs.table.Table.open.Goals as goal

pub returns-in_err-asked-clause-call : goal.returns-in_err-asked-clause-call
returns-in_err-asked-clause-call g c =
    let p = err_from_is_err_and c.from_residual.result c.from_residual.ensures.1 in
    rw (p.1, p.2) (not_asked open_busy open_none _ c.in_err-asked.ensures.err)

pub returns-then-eq-clause-call : goal.returns-then-eq-clause-call
returns-then-eq-clause-call g c =
    let asked = c.in_ok-asked.ensures.ok in
    let r = c.in_ok-asked.asked in
    let final : r.mark ≡ Final = search rules in
    open_of_final asked.0.0 asked.0.2 r asked.1 asked.0.1 final

pub returns-in_err-reach-clause-call : goal.returns-in_err-reach-clause-call
returns-in_err-reach-clause-call g c =
    let asked = c.in_ok-asked.ensures.ok in
    let r = c.in_ok-asked.asked in
    let p = err_from_is_err_and c.from_residual-in_err-reach.result c.from_residual-in_err-reach.ensures.1 in
    let other : r.mark ≡ Final → ⊥ = search rules in
    rw (p.1, p.2) (open_of_dangling asked.0.0 asked.0.2 r asked.1 asked.0.1 other (c.reach.ensures.tells asked.0.0.1 asked.0.2) _ c.in_err-reach.was)

pub returns-clause-call : goal.returns-clause-call
returns-clause-call g c =
    let asked = c.in_ok-asked.ensures.ok in
    let r = c.in_ok-asked.asked in
    let other : r.mark ≡ Final → ⊥ = search rules in
    open_of_whole asked.0.0 asked.0.2 r asked.1 asked.0.1 other (c.reach.ensures.tells asked.0.0.1 asked.0.2) _ c.in_ok-reach.was
    c.reach.new.work (c.reach.ensures.marks asked.0.0.1 asked.0.2) (each_lent _ c.size-size.ensures.size _ (omega arith) c.open_rows.ensures)
