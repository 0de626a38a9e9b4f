-- The lines that are written, by their bytes; each ends with a newline. Assumes nothing.
use Rattle.std.specs.Prelude.{ℕ, cond, List, [], ◌∷◌, ◌++◌, length, Some, None, codes, decimal, Option, ◌==◌, nat_lt}
use Rattle.entry_format.specs.declared.fault.LoadFault.{LoadFault}
use Rattle.entry_format.specs.Faults.{layer_name, number_of, layer_of, place_of, reason_of}
use Rattle.entry_format.specs.Grammars.{GrammarModel, references}
use Rattle.entry_format.specs.Reading.{NameModel}

abbrev pub newline : List ℕ
newline = 10 ∷ []

abbrev pub tab : List ℕ
tab = 9 ∷ []

-- a count and its noun
abbrev pub counted_noun : ℕ → List ℕ → List ℕ
counted_noun n noun = decimal n ++ (codes " " ++ (noun ++ cond (n == 1) [] (codes "s")))

abbrev pub counts_words : List ℕ → List ℕ → List ℕ → List ℕ → List ℕ → List ℕ
counts_words file terminals nonterminals productions names =
    file ++ (codes ": grammar with " ++ (terminals ++ (codes ", " ++ (nonterminals ++ (codes ", " ++ (productions ++ (codes " and " ++ (names ++ newline))))))))

-- how many of each kind a grammar has
abbrev pub counts_line : List ℕ → GrammarModel → List ℕ
counts_line file g =
    counts_words file
    (counted_noun (length g.terminals) (codes "terminal"))
    (counted_noun (length g.nonterminals) (codes "nonterminal"))
    (counted_noun (length g.productions) (codes "production"))
    (counted_noun (length (references g.productions)) (codes "right-side name"))

-- symbol i of a grammar with t terminals, which come first; the start symbol is the first nonterminal
abbrev pub symbol_line : ℕ → ℕ → NameModel → List ℕ
symbol_line t i n =
    codes "symbol " ++ (decimal i ++ (codes ": " ++ (cond (nat_lt i t) (codes "terminal") (codes "nonterminal") ++ (
    codes " " ++ (n.text ++ (cond (i == t) (codes ", the start symbol") [] ++ newline))))))

-- production i: its left name and the number of its right-side names
abbrev pub production_line : ℕ → NameModel → ℕ → List ℕ
production_line i left count =
    codes "production " ++ (decimal i ++ (codes " of " ++ (left.text ++ (codes ", right-side names: " ++ (decimal count ++ newline)))))

-- what a reference names
abbrev pub named_words : Option ℕ → List ℕ
named_words (Some symbol) = codes " is symbol " ++ (decimal symbol ++ newline)
named_words None = codes " dangles" ++ newline

-- reference r, its name, and the symbol that it names, if any
abbrev pub reference_line : ℕ → NameModel → Option ℕ → List ℕ
reference_line r n symbol =
    codes "  reference " ++ (decimal r ++ (codes " at byte " ++ (decimal n.at ++ (codes ": " ++ (n.text ++ named_words symbol)))))

-- a refusal's number, layer, place and reason
abbrev pub refusal_words : List ℕ → ℕ → List ℕ → ℕ → List ℕ → List ℕ
refusal_words file number layer place reason =
    file ++ (codes ": refused with number " ++ (decimal number ++ (codes " by the " ++ (layer ++ (
    codes " layer at byte " ++ (decimal place ++ (codes ": " ++ (reason ++ newline))))))))

-- a refused file, in words
abbrev pub refusal_line : List ℕ → LoadFault → List ℕ
refusal_line file e = refusal_words file (number_of e) (layer_name (layer_of e)) (place_of e) (reason_of e)

-- a loaded file, in fields
abbrev pub entry_row : List ℕ → List ℕ
entry_row file = codes "entry" ++ (tab ++ (file ++ (tab ++ (codes "grammar" ++ newline))))

-- a refused file, in fields
abbrev pub refusal_row : List ℕ → LoadFault → List ℕ
refusal_row file e =
    codes "refused" ++ (tab ++ (file ++ (tab ++ (decimal (number_of e) ++ (tab ++ (layer_name (layer_of e) ++ (tab ++ (decimal (place_of e) ++ newline))))))))
