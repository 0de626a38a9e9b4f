-- Derivations of a grammar. Assumes nothing.
use Rattle.std.specs.Prelude.{◌≡◌, ℕ, ◌+◌, ◌<◌, List, [], ◌∷◌, ◌++◌, Some}
use Rattle.std.specs.List.{slice_get}
use Rattle.grammar_equations.specs.Rules.{Letter, known, dangling, Form, Rule, Rules}

-- Nonterminal a, as a symbol of a form.
abbrev pub nonterminal : Rules → ℕ → Letter
nonterminal g a = known (g.terminals + a)

-- One nonterminal of a form is rewritten by one of its right sides.
pub data Rewrites (g : Rules) : Form → Form → Type 0 where
  rewrite : (l r : Form) (p : ℕ) (x : Rule) → slice_get g.rules p ≡ Some x → Rewrites g (l ++ nonterminal g x.left ∷ r) (l ++ x.right ++ r)

-- Zero or more rewritings.
pub data Derives (g : Rules) : Form → Form → Type 0 where
  done : {a : Form} → Derives g a a
  next : {a b c : Form} → Rewrites g a b → Derives g b c → Derives g a c

-- Nonterminal a derives the empty form.
abbrev pub Nullable : Rules → ℕ → Type 0
Nullable g a = Derives g (nonterminal g a ∷ []) []

-- It derives a form that begins with c.
abbrev pub Begins : Rules → ℕ → ℕ → Type 0
Begins g a c = (rest : Form) × Derives g (nonterminal g a ∷ []) (known c ∷ rest)

-- Some nonterminal derives a form with a directly before c.
abbrev pub Precedes : Rules → ℕ → ℕ → Type 0
Precedes g a c =
    (b : ℕ) × (l : Form) × (r : Form) × (b < g.nonterminals) × Derives g (nonterminal g b ∷ []) (l ++ nonterminal g a ∷ known c ∷ r)

-- The start symbol derives a form that ends in a.
abbrev pub Ends : Rules → ℕ → Type 0
Ends g a = (l : Form) × Derives g (nonterminal g 0 ∷ []) (l ++ nonterminal g a ∷ [])

-- a derives a form with a dangling name.
abbrev pub DerivesDangling : Rules → ℕ → Type 0
DerivesDangling g a = (l : Form) × (r : Form) × (name : List ℕ) × Derives g (nonterminal g a ∷ []) (l ++ dangling name ∷ r)

-- Some nonterminal derives a form with a, and a dangling name somewhere behind it.
abbrev pub PrecedesDangling : Rules → ℕ → Type 0
PrecedesDangling g a =
    (b : ℕ) × (l : Form) × (m : Form) × (r : Form) × (name : List ℕ) ×
    (b < g.nonterminals) × Derives g (nonterminal g b ∷ []) (l ++ nonterminal g a ∷ m ++ dangling name ∷ r)
