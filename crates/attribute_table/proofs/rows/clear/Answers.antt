-- Each row is what the closure gives for it.
use Rattle.std.proofs.Common.{rules}
use Rattle.attribute_table.proofs.Each.{each_by}
use Rattle.attribute_table.proofs.rows.clear.Goals as goal

pub returns : goal.returns
returns g c = each_by _ (λ j r x h. search rules) c.replace_each.ensures
