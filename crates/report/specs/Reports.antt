-- The report on a grammar, by its bytes. Assumes nothing.
use Rattle.std.specs.Prelude.{ℕ, ◌+◌, List, [], ◌∷◌, ◌++◌, length, Option}
use Rattle.entry_format.specs.Grammars.{ProductionModel, GrammarModel, symbols}
use Rattle.entry_format.specs.Reading.{NameModel}
use Rattle.report.specs.Lines.{counts_line, symbol_line, production_line, reference_line}

-- a line for each element, the first of them with number i
abbrev pub numbered : {X : Type 0} → (ℕ → X → List ℕ) → ℕ → List X → List ℕ
numbered line i [] = []
numbered line i (x ∷ xs) = line i x ++ numbered line (i + 1) xs

-- a line for each symbol
abbrev pub symbols_text : GrammarModel → List ℕ
symbols_text g = numbered (symbol_line (length g.terminals)) 0 (symbols g)

module _ (names : ℕ → Option ℕ) where
  -- a line for each right-side name, the first of them reference r
  abbrev pub reference_lines : ℕ → List NameModel → List ℕ
  reference_lines r right = numbered (λ i n. reference_line i n (names i)) r right

  -- production i, whose first right-side name is reference r
  abbrev pub production_text : ℕ → ℕ → NameModel → List NameModel → List ℕ
  production_text i r left right = production_line i left (length right) ++ reference_lines r right

  -- productions from number i on, whose first right-side name is reference r
  abbrev pub productions_text : ℕ → ℕ → List ProductionModel → List ℕ
  productions_text i r [] = []
  productions_text i r (p ∷ ps) = production_text i r p.left p.right ++ productions_text (i + 1) (r + length p.right) ps

-- the whole report, given the symbol that each reference names
abbrev pub grammar_report : List ℕ → GrammarModel → (ℕ → Option ℕ) → List ℕ
grammar_report file g names = counts_line file g ++ (symbols_text g ++ productions_text names 0 0 g.productions)
