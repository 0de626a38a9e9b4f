-- Each row is what the closure gives for it.
use Rattle.std.proofs.Common.{rules}
use Rattle.attribute_table.proofs.Each.{each_by, released_by}
use Rattle.attribute_table.proofs.rows.release.Goals as goal

pub returns-clause-rows : goal.returns-clause-rows
returns-clause-rows g c = each_by _ (λ j r x h. released_by _ h (λ p. search rules)) c.replace_pending.ensures.rows
