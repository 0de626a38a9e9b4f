use Rattle.std.proofs.Common.{vec_items, take, ap, ◌∙◌}
use Rattle.example_system.proofs.Limited.{read_limited}
use Rattle.example_system.proofs.parts.ExampleSystem.instance.Goals as goal

pub returns : goal.returns
returns c =
    read_limited (vec_items c.args.self.now.instances) c.limited.result.now c.args.instance c.get.result
    (c.limited.ensures.value ∙ ap (take 4096) c.deref.ensures.value) c.get.ensures.lookup
