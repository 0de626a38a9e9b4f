-- A small grammar, as a file and as what is loaded from it. Assumes nothing.
use Rattle.std.specs.Prelude.{ℕ, List, [], ◌∷◌}
use Rattle.entry_format.specs.Grammars.{GrammarModel}
use Rattle.entry_format.specs.Reading.{NameModel}

abbrev pub sample_file : List ℕ
sample_file =
    1
    ∷ 0 ∷ 2 ∷ 1 ∷ 97 ∷ 1 ∷ 98
    ∷ 0 ∷ 2 ∷ 1 ∷ 83 ∷ 1 ∷ 84
    ∷ 0 ∷ 3
    ∷ 1 ∷ 83 ∷ 0 ∷ 2 ∷ 1 ∷ 84 ∷ 1 ∷ 98
    ∷ 1 ∷ 84 ∷ 0 ∷ 2 ∷ 1 ∷ 97 ∷ 1 ∷ 84
    ∷ 1 ∷ 84 ∷ 0 ∷ 0
    ∷ []

-- a name of one byte
abbrev letter : ℕ → ℕ → NameModel
letter b p = record { text = b ∷ []; at = p }

-- terminals a and b, nonterminals S and T; S is T b, and T is a T or empty
abbrev pub sample_grammar : GrammarModel
sample_grammar = record {
  terminals = letter 97 3 ∷ letter 98 5 ∷ [];
  nonterminals = letter 83 9 ∷ letter 84 11 ∷ [];
  productions =
      record { left = letter 83 15; nonterminal = 0; right = letter 84 19 ∷ letter 98 21 ∷ [] }
      ∷ record { left = letter 84 23; nonterminal = 1; right = letter 97 27 ∷ letter 84 29 ∷ [] }
      ∷ record { left = letter 84 31; nonterminal = 1; right = [] }
      ∷ [];
}
