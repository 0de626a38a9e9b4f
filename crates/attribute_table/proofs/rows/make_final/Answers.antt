-- Each row is what the closure gives for it.
use Rattle.std.proofs.Common.{rules}
use Rattle.attribute_table.proofs.Each.{each_by, closed_by}
use Rattle.attribute_table.proofs.rows.make_final.Goals as goal

pub returns-clause-rows : goal.returns-clause-rows
returns-clause-rows g c = each_by _ (λ j r x h. closed_by g.V.Lattice.bot h (λ p. search rules)) c.replace_pending.ensures.rows
