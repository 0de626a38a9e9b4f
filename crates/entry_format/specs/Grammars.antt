-- Reading a grammar's entry file. Assumes nothing.
use Rattle.std.specs.Prelude.{ℕ, ◌-◌, cond, List, [], ◌++◌, length, is_some, Ok, Err, Result, ◌==◌}
use Rattle.std.specs.List.{flat_map}
use Rattle.std.specs.Option.{ok_or}
use Rattle.entry_format.specs.declared.fault.LoadFault.{LoadFault}
use Rattle.entry_format.specs.declared.fault.LoadFault.TheVariants.{Names, WrongKind, OverLimit, TrailingBytes}
use Rattle.entry_format.specs.declared.fault.NameFault.{NameFault}
use Rattle.entry_format.specs.declared.fault.NameFault.TheVariants.{Duplicate, NotNonterminal}
use Rattle.entry_format.specs.Names.{position}
use Rattle.entry_format.specs.Reading.{Input, input, Parsed, got, bad, and_then, series, lift, read_byte, read_count, within, NameModel, read_name}

-- a production: its left name, the number of the nonterminal that this names, and its right-side names
pub record ProductionModel : Type 0 where
  pub left : NameModel
  pub nonterminal : ℕ
  pub right : List NameModel

-- a grammar, its lists in file order
pub record GrammarModel : Type 0 where
  pub terminals : List NameModel
  pub nonterminals : List NameModel
  pub productions : List ProductionModel

-- the symbols by their numbers: terminals first
abbrev pub symbols : GrammarModel → List NameModel
symbols g = g.terminals ++ g.nonterminals

-- the references by their numbers: all right-side names
abbrev pub references : List ProductionModel → List NameModel
references productions = flat_map (λ p. p.right) productions

-- the checks of names beside other names, which a reading is given
pub record NameChecks : Type 0 where
  -- of a name that is declared behind others
  pub declares : List NameModel → NameModel → Result (Unit {0}) NameFault
  -- of a left name beside the nonterminals, with the number of the one that it names
  pub left_side : List NameModel → NameModel → Result ℕ NameFault

-- the checks that a loader makes
abbrev pub loader_checks : NameChecks
loader_checks = record {
  declares = λ earlier n. cond (is_some (position earlier n)) (Err (Duplicate n.at)) (Ok tt);
  left_side = λ nonterminals n. ok_or (position nonterminals n) (NotNonterminal n.at);
}

-- a check, as a reading of nothing
abbrev pub checked : {V : Type 0} → Result V NameFault → Input → Parsed LoadFault V
checked (Ok v) l = got v l
checked (Err e) l = bad (Names e)

-- the first byte, which tells the kind of the entry
abbrev pub read_kind : ℕ → Input → Parsed LoadFault (Unit {0})
read_kind kind l = and_then (lift (read_byte l)) (λ b after. cond (b == kind) (got tt after) (bad (WrongKind l.place)))

-- a count between two limits
abbrev pub read_limited : ℕ → ℕ → Input → Parsed LoadFault ℕ
read_limited low high l = and_then (lift (read_count l)) (λ n after. cond (within low high n) (got n after) (bad (OverLimit l.place)))

module _ (checks : NameChecks) where
  -- a name that is declared behind `earlier` and `done`
  abbrev pub read_declaration : List NameModel → List NameModel → Input → Parsed LoadFault NameModel
  read_declaration earlier done l =
      and_then (lift (read_name l)) (λ n l₁.
      and_then (checked (checks.declares (earlier ++ done) n) l₁) (λ _ l₂. got n l₂))

  -- a count and that many declared names
  abbrev pub read_declarations : ℕ → ℕ → List NameModel → Input → Parsed LoadFault (List NameModel)
  read_declarations low high earlier l =
      and_then (read_limited low high l) (λ n l₁. series (read_declaration earlier) n [] l₁)

  -- a production behind `used` right-side names, which count towards the limit of 1,024
  abbrev pub read_production_after : List NameModel → ℕ → Input → Parsed LoadFault ProductionModel
  read_production_after nonterminals used l =
      and_then (lift (read_name l)) (λ left l₁.
      and_then (checked (checks.left_side nonterminals left) l₁) (λ nonterminal l₂.
      and_then (read_limited 0 (1024 - used) l₂) (λ n l₃.
      and_then (lift (series (λ _. read_name) n [] l₃)) (λ right l₄.
      got (record { left = left; nonterminal = nonterminal; right = right }) l₄))))

  -- a production behind those of `done`
  abbrev pub read_production : List NameModel → List ProductionModel → Input → Parsed LoadFault ProductionModel
  read_production nonterminals done l = read_production_after nonterminals (length (references done)) l

  -- a count and that many productions
  abbrev pub read_productions : List NameModel → Input → Parsed LoadFault (List ProductionModel)
  read_productions nonterminals l =
      and_then (read_limited 0 256 l) (λ n l₁. series (read_production nonterminals) n [] l₁)

  -- kind 1, the terminals, the nonterminals, of which there is one at least, and the productions
  abbrev pub read_grammar : Input → Parsed LoadFault GrammarModel
  read_grammar l =
      and_then (read_kind 1 l) (λ _ l₁.
      and_then (read_declarations 0 63 [] l₁) (λ terminals l₂.
      and_then (read_declarations 1 64 terminals l₂) (λ nonterminals l₃.
      and_then (read_productions nonterminals l₃) (λ productions l₄.
      got (record { terminals = terminals; nonterminals = nonterminals; productions = productions }) l₄))))

-- what was read, if nothing is left behind it
abbrev pub whole : {V : Type 0} → Parsed LoadFault V → Result V LoadFault
whole (got v l) = cond (length l.rest == 0) (Ok v) (Err (TrailingBytes l.place))
whole (bad e) = Err e

-- the grammar of a file, or its first fault
abbrev pub load_grammar : NameChecks → List ℕ → Result GrammarModel LoadFault
load_grammar checks file = whole (read_grammar checks (input file 0))
