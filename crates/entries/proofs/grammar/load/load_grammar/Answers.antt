use Rattle.std.proofs.Common.{◌<◌}
use Rattle.std.proofs.ByRecursion.{All-from_get_or}
use Rattle.entry_format.proofs.Meaning.{loading_means}
use Rattle.entries.proofs.grammar.load.load_grammar.Goals as goal

pub returns-clause-meaning : goal.returns-clause-meaning
returns-clause-meaning c =
    let file = c.args.file.now in
    let bytes = All-from_get_or (λ b. b < 256) file 0 (λ i _. (c.type_inv.file i).fits) in
    rw c.read_grammar.ensures (loading_means file bytes)
