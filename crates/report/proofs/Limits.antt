-- How many symbols and references a grammar has at most. Assumes nothing.
use Rattle.std.proofs.Common.{◌≡◌, ◌≤◌, length, vec_items, ◌∙◌, arith}
use Rattle.entry_format.specs.Grammars.{references}
use Rattle.entries.specs.declared.grammar.Grammar.{Grammar}
use Rattle.entries.specs.Models.{grammar_of}
use Rattle.entries.proofs.Invariant.{tiles, few_references}
use Rattle.entries.proofs.Tiling.{references_count}

module _ (g : Grammar) where
  pub references_length : length (references (grammar_of g).productions) ≡ length (vec_items g.references)
  references_length = references_count g.productions g.references (tiles g) ∙ g.references.ok.0

  pub references_le : length (references (grammar_of g).productions) ≤ 1024
  references_le = omega (arith, few_references g, references_count g.productions g.references (tiles g))
