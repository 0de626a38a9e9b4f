-- A grammar in vectors. Assumes nothing.
use Rattle.std.specs.Prelude.{◌≡◌, ℕ, ◌+◌, ◌≤◌, List, [], ◌∷◌, map, take, drop, vec_items, vec_len, Vec}
use Rattle.std.specs.declared.alloc.Global.{Global}
use Rattle.entry_format.specs.Encoding.{Lawful}
use Rattle.entry_format.specs.Grammars.{ProductionModel, GrammarModel}
use Rattle.entry_reader.specs.declared.name.Name.{Name}
use Rattle.entry_reader.specs.Reads.{name_of}
use Rattle.entries.specs.declared.production.Production.{Production}
use Rattle.entries.specs.Fields.{names_of, Keeps}

-- a production, whose right side is a part of the references
abbrev pub production_of : List Name → Production → ProductionModel
production_of references p = record {
  left = name_of p.left;
  nonterminal = p.nonterminal;
  right = map name_of (take p.len (drop p.first references));
}

abbrev pub productions_of : Vec Production Global → Vec Name Global → List ProductionModel
productions_of productions references = map (production_of (vec_items references)) (vec_items productions)

-- the right sides lie one behind the other, from number `at` on, and end before number n
abbrev pub Tiles : ℕ → List Production → ℕ → Type 0
Tiles at [] n = at ≡ n
Tiles at (p ∷ ps) n = (p.first ≡ at) × Tiles (at + p.len) ps n

-- the right side of p was added to the references
pub record Adds (p : Production) (before after : Vec Name Global) : Type 0 where
  pub first : p.first ≡ vec_len before
  pub keeps : Keeps p.len before after
  pub few : vec_len after ≤ 1024

abbrev pub model_of : Vec Name Global → Vec Name Global → Vec Production Global → Vec Name Global → GrammarModel
model_of terminals nonterminals productions references = record {
  terminals = names_of terminals;
  nonterminals = names_of nonterminals;
  productions = productions_of productions references;
}

-- vectors that hold a lawful grammar, all references in the order of the productions
pub record Loaded (terminals nonterminals : Vec Name Global) (productions : Vec Production Global) (references : Vec Name Global) : Type 0 where
  pub lawful : Lawful (model_of terminals nonterminals productions references)
  pub tiles : Tiles 0 (vec_items productions) (vec_len references)
