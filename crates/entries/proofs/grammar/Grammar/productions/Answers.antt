use Rattle.std.proofs.Common.{vec_items, vec_len, sym}
use Rattle.entries.specs.Loaded.{Tiles}
use Rattle.entries.proofs.Invariant.{tiles}
use Rattle.entries.proofs.Tiling.{references_count}
use Rattle.entries.proofs.grammar.Grammar.productions.Goals as goal

pub returns-clause-tiles : goal.returns-clause-tiles
returns-clause-tiles c =
    let g = c.args.self.now in
    let all : Tiles 0 (vec_items g.productions) (vec_len g.references) = tiles g in
    rw (references_count g.productions g.references all) (rw (sym c.as_slice.ensures.value) at all)
