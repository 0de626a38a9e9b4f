-- A turn replaces and counts one row more, if it is pending.
use Rattle.std.proofs.Common.{rules, arith, sym, ◌∙◌, subst}
use Rattle.std.proofs.lemmas.List.{set-get_or}
use Rattle.attribute_table.proofs.Counting.{counting_written, counting_kept}
use Rattle.attribute_table.proofs.rows.replace_pending.Goals as goal
use Rattle.attribute_table.proofs.rows.replace_pending.Goals.{then-eq, else-eq}

pub loop-row-preserved : goal.loop-row-preserved
loop-row-preserved g c =
    let r = c.row-item.result in
    elim c.if-eq.branch [
      | then-eq w ↦ counting_written _ _ _ c.loop-row.invariant (omega arith) r c.row-item.is _ _ _ w.rows-is w.count-is (search rules) (subst (λ z. g.F.Fn.post c.args.by (z, tt) w.by.result) (sym c.row-item.is) w.by.ensures)
      | else-eq w ↦ counting_kept _ _ _ c.loop-row.invariant (omega arith) r c.row-item.is _ _ (w.rows-is ∙ set-get_or _ _ _) w.count-is (search rules)
    ]
