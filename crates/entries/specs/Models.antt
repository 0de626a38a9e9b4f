-- What a loaded grammar stands for. Assumes nothing.
use Rattle.std.specs.Prelude.{Ok, Err, Result}
use Rattle.reserved_vec.specs.Reserved.{IsReserved}
use Rattle.entry_format.specs.Grammars.{GrammarModel}
use Rattle.entries.specs.declared.grammar.Grammar.{Grammar}
use Rattle.entries.specs.declared.grammar.GrammarMemory.{GrammarMemory}
use Rattle.entries.specs.Loaded.{model_of}

abbrev pub grammar_of : Grammar → GrammarModel
grammar_of g = model_of g.terminals g.nonterminals g.productions g.references

-- a result, by what stands for its value
abbrev pub answered : {F V W : Type 0} → (V → W) → Result V F → Result W F
answered f (Ok v) = Ok (f v)
answered f (Err e) = Err e

-- the vectors are empty, and have room for every grammar within the limits
pub record Reserved (m : GrammarMemory) : Type 0 where
  pub terminals : IsReserved 63 m.terminals.items
  pub nonterminals : IsReserved 64 m.nonterminals.items
  pub productions : IsReserved 256 m.productions.items
  pub references : IsReserved 1024 m.references.items
