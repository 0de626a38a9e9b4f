use Rattle.std.proofs.Common.{sym, ◌∙◌, rules, tests}
use Rattle.std.proofs.lemmas.Iterator.{YieldsList-from_slice}
use Rattle.std.proofs.lemmas.Iterator.Search.{position_from_yields_List}
use Rattle.entry_reader.specs.Reads.{name_of}
use Rattle.entries.proofs.Found.{equals, position_is}
use Rattle.entries.proofs.lookup.position_of.Goals as goal

pub returns : goal.returns
returns c =
    let names = c.args.names.now in
    let n = name_of c.args.name.now in
    position_from_yields_List (equals n) _ _ _ c.position.ensures.ran (YieldsList-from_slice names cc) (λ x b q k. search (rules, tests))
    ∙ sym (position_is names n)
