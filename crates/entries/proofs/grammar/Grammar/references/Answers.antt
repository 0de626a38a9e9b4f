use Rattle.std.proofs.Common.{map, sym, ap, ◌∙◌}
use Rattle.entry_reader.specs.Reads.{name_of}
use Rattle.entries.proofs.Invariant.{tiles}
use Rattle.entries.proofs.Tiling.{references_all}
use Rattle.entries.proofs.grammar.Grammar.references.Goals as goal

pub returns : goal.returns
returns c = let g = c.args.self.now in ap (map name_of) c.as_slice.ensures.value ∙ sym (references_all g.productions g.references (tiles g))
