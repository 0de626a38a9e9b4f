use Rattle.std.proofs.Common.{refl}
use Rattle.entry_format.specs.Names.{same_text}
use Rattle.entries.proofs.sample.sample_grammar.Goals as goal

pub returns : goal.returns
unfolding same_text
returns c = record { file = refl; loads = refl }
