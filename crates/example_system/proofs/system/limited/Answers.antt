use Rattle.example_system.proofs.Limited.{take_at_most}
use Rattle.example_system.proofs.system.limited.Goals as goal

pub returns-clause-value : goal.returns-clause-value
returns-clause-value g c = take_at_most c.args.elements.now c.min.result 4096 c.min.ensures
