-- A grammar whose right-side names are resolved. Assumes nothing.
use Rattle.std.specs.Prelude.{◌≡◌, ℕ, ◌+◌, ◌<◌, ◌≤◌, List, [], ◌∷◌, length, take, Some, None, Option}
use Rattle.std.specs.List.{slice_get}

-- A symbol of a form: a symbol of the grammar by its number, or a dangling name by its bytes.
pub data Letter : Type 0 where
  known : ℕ → Letter
  dangling : List ℕ → Letter

abbrev pub Form : Type 0
Form = List Letter

-- A production: the number of its left side among the nonterminals, and its right side.
pub record Rule : Type 0 where
  pub left : ℕ
  pub right : Form

-- The symbols are numbered: terminals first, then nonterminals, of which the first is the start symbol.
pub record Rules : Type 0 where
  pub terminals : ℕ
  pub nonterminals : ℕ
  pub rules : List Rule

abbrev pub symbol_count : Rules → ℕ
symbol_count g = g.terminals + g.nonterminals

abbrev pub rule_count : Rules → ℕ
rule_count g = length g.rules

abbrev pub total_length : List Rule → ℕ
total_length [] = 0
total_length (x ∷ xs) = length x.right + total_length xs

-- How many right-side names there are in all.
abbrev pub name_count : Rules → ℕ
name_count g = total_length g.rules

-- The number of the first right-side name of production p: how many there are before.
abbrev pub first_name : Rules → ℕ → ℕ
first_name g p = total_length (take p g.rules)

abbrev pub left_from : Option Rule → ℕ
left_from (Some x) = x.left
left_from None = 0

abbrev pub right_from : Option Rule → Form
right_from (Some x) = x.right
right_from None = []

-- The left and the right side of production p.
abbrev pub left_of : Rules → ℕ → ℕ
left_of g p = left_from (slice_get g.rules p)

abbrev pub right_of : Rules → ℕ → Form
right_of g p = right_from (slice_get g.rules p)

abbrev pub LetterWithin : Rules → Letter → Type 0
LetterWithin g (known s) = s < symbol_count g
LetterWithin g (dangling name) = Unit

-- A grammar within the limits, whose productions speak of its symbols alone.
pub record WellFormed (g : Rules) : Type 0 where
  pub terminals : g.terminals ≤ 63
  pub some_nonterminal : 1 ≤ g.nonterminals
  pub nonterminals : g.nonterminals ≤ 64
  pub rules : rule_count g ≤ 256
  pub names : name_count g ≤ 1024
  pub lefts : (p : ℕ) (x : Rule) → slice_get g.rules p ≡ Some x → x.left < g.nonterminals
  pub letters : (p : ℕ) (x : Rule) → slice_get g.rules p ≡ Some x → (k : ℕ) (a : Letter) → slice_get x.right k ≡ Some a → LetterWithin g a
