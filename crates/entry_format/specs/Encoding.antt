-- Writing a grammar's entry file, and which grammars are lawful. Assumes nothing.
use Rattle.std.specs.Prelude.{◌≡◌, ℕ, ◌+◌, ◌/◌, ◌%◌, ◌≤◌, true, List, [], ◌∷◌, ◌++◌, length}
use Rattle.std.specs.List.{flat_map, AllByRecursion}
use Rattle.entry_format.specs.Grammars.{ProductionModel, GrammarModel, symbols, references}
use Rattle.entry_format.specs.Names.{Distinct, IsAt}
use Rattle.entry_format.specs.Reading.{NameModel, printable}

abbrev pub encode_count : ℕ → List ℕ
encode_count n = n / 256 ∷ n % 256 ∷ []

abbrev pub encode_name : NameModel → List ℕ
encode_name n = length n.text ∷ n.text

abbrev pub encode_names : List NameModel → List ℕ
encode_names names = flat_map encode_name names

-- a count and the names
abbrev pub encode_list : List NameModel → List ℕ
encode_list names = encode_count (length names) ++ encode_names names

abbrev pub encode_production : ProductionModel → List ℕ
encode_production p = encode_name p.left ++ encode_list p.right

abbrev pub encode_productions : List ProductionModel → List ℕ
encode_productions ps = encode_count (length ps) ++ flat_map encode_production ps

abbrev pub encode_grammar : GrammarModel → List ℕ
encode_grammar g = 1 ∷ encode_list g.terminals ++ (encode_list g.nonterminals ++ encode_productions g.productions)

-- a name has 1 to 32 bytes, each from hexadecimal 21 to 7E
abbrev pub WellFormed : NameModel → Type 0
WellFormed n = (1 ≤ length n.text) × (length n.text ≤ 32) × AllByRecursion (λ b. printable b ≡ true) n.text

-- all names of a production, in file order
abbrev pub production_names : ProductionModel → List NameModel
production_names p = p.left ∷ p.right

-- all names of a grammar, in file order
abbrev pub all_names : GrammarModel → List NameModel
all_names g = symbols g ++ flat_map production_names g.productions

-- the names stand one behind the other, the first of them at p
abbrev pub NamesAt : ℕ → List NameModel → Type 0
NamesAt p [] = Unit {0}
NamesAt p (n ∷ names) = (n.at ≡ p) × NamesAt (p + length (encode_name n)) names

-- the productions stand one behind the other, the first of them at p: its left name, a count of two bytes, and its right side
abbrev pub ProductionsAt : ℕ → List ProductionModel → Type 0
ProductionsAt p [] = Unit {0}
ProductionsAt p (q ∷ ps) =
    (q.left.at ≡ p)
    × NamesAt (p + length (encode_name q.left) + 2) q.right
    × ProductionsAt (p + length (encode_production q)) ps

-- each name has the place at which the encoding writes it
pub record Located (g : GrammarModel) : Type 0 where
  pub terminals : NamesAt 3 g.terminals
  pub nonterminals : NamesAt (1 + length (encode_list g.terminals) + 2) g.nonterminals
  pub productions : ProductionsAt (1 + length (encode_list g.terminals) + length (encode_list g.nonterminals) + 2) g.productions

-- a grammar that an entry file can hold
pub record Lawful (g : GrammarModel) : Type 0 where
  pub few_terminals : length g.terminals ≤ 63
  pub some_nonterminal : 1 ≤ length g.nonterminals
  pub few_nonterminals : length g.nonterminals ≤ 64
  pub few_productions : length g.productions ≤ 256
  pub few_references : length (references g.productions) ≤ 1024
  -- every name is well-formed
  pub well_formed : AllByRecursion WellFormed (all_names g)
  -- no two symbols have equal names
  pub distinct : Distinct (symbols g)
  -- every left name equals that of the production's nonterminal
  pub left_sides : AllByRecursion (λ p. IsAt g.nonterminals p.left p.nonterminal) g.productions
  pub located : Located g
