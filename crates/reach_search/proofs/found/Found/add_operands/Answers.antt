-- A turn adds the operand that it reads.
use Rattle.std.proofs.Common.{◌+◌, sym, ◌∙◌, subst}
use Rattle.reach_search.specs.Additions.{Adds}
use Rattle.reach_search.proofs.Searching.{UsesBelow, adds_operand, adds_dangling}
use Rattle.reach_search.proofs.found.Found.add_operands.Goals as goal
use Rattle.reach_search.proofs.found.Found.add_operands.Goals.{in-Ok, in_default}

pub loop-index-preserved : goal.loop-index-preserved
loop-index-preserved g c =
    let e = g.S.System.equations c.args.self.now.system.now in
    elim c.match-operand.branch [
      | in-Ok w ↦ subst (Adds (UsesBelow e c.args.instance (c.loop-index.index + 1)) c.args.self.now) (sym w.self-is) (adds_operand e c.loop-index.invariant (sym c.operand.ensures ∙ w.in-Ok.is) w.add.ensures)
      | in_default w ↦ subst (Adds (UsesBelow e c.args.instance (c.loop-index.index + 1)) c.args.self.now) (sym w.self-is) (adds_dangling e c.loop-index.invariant (sym c.operand.ensures ∙ w.in_default.is))
    ]
