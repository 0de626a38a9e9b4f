use Rattle.std.proofs.Common.{vec_items, take, ap, ◌∙◌}
use Rattle.example_system.specs.Example.{operand_at}
use Rattle.example_system.proofs.Limited.{read_limited}
use Rattle.example_system.proofs.parts.ExampleSystem.operand_at.Goals as goal

pub returns : goal.returns
returns c =
    c.copied.ensures
    ∙ read_limited (vec_items c.in_ok-found.found.now.operands) c.limited.result.now c.args.index c.get.result
    (c.limited.ensures.value ∙ ap (take 4096) c.deref.ensures.value) c.get.ensures.lookup
    ∙ ap (λ o. operand_at o c.args.index) c.in_ok-found.ensures
