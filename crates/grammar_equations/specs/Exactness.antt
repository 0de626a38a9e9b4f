-- What the least solution of a grammar's equations says of its derivations. Assumes nothing.
use Rattle.std.specs.Prelude.{◌≡◌, ℕ, ◌+◌, ◌<◌, true, ◌⊎◌, ◌↔◌}
use Rattle.equations.specs.Equations.{Lawful}
use Rattle.equations.specs.Reach.{ReachesDangling, Whole, Least}
use Rattle.grammar_equations.specs.Derivations.{Nullable, Begins, Precedes, Ends, DerivesDangling, PrecedesDangling}
use Rattle.grammar_equations.specs.GrammarEquations.{grammar_equations}
use Rattle.grammar_equations.specs.Instances.{symbol, follow, number, Numbered}
use Rattle.grammar_equations.specs.Rules.{Rules}
use Rattle.grammar_equations.specs.Values.{Value, nullable, has, le, bottom, end_mark}

-- The value of nonterminal a says exactly what a derives.
pub record ExactSymbol (g : Rules) (a : ℕ) (v : Value) : Type 0 where
  pub nullable : (nullable v ≡ true) ↔ Nullable g a
  pub first : (c : ℕ) → (has v c ≡ true) ↔ ((c < g.terminals) × Begins g a c)

-- The value of the follow of a says exactly what comes behind a in derived forms, and whether they end in a.
pub record ExactFollow (g : Rules) (a : ℕ) (v : Value) : Type 0 where
  pub follow : (c : ℕ) → (has v c ≡ true) ↔ (((c < g.terminals) × Precedes g a c) ⊎ ((c ≡ end_mark) × Ends g a))

pub record Exactness (g : Rules) : Type 0 where
  pub numbered : Numbered g
  pub lawful : Lawful bottom le (grammar_equations g)
  pub symbols : (v : ℕ → Value) → Least le (grammar_equations g) v → (a : ℕ) → a < g.nonterminals →
      Whole (grammar_equations g) (number g (symbol (g.terminals + a))) → ExactSymbol g a (v (number g (symbol (g.terminals + a))))
  pub follows : (v : ℕ → Value) → Least le (grammar_equations g) v → (a : ℕ) → a < g.nonterminals →
      Whole (grammar_equations g) (number g (follow a)) → ExactFollow g a (v (number g (follow a)))
  pub dangling_symbols : (a : ℕ) → a < g.nonterminals → ReachesDangling (grammar_equations g) (number g (symbol (g.terminals + a))) ↔ DerivesDangling g a
  pub dangling_follows : (a : ℕ) → a < g.nonterminals → ReachesDangling (grammar_equations g) (number g (follow a)) ↔ PrecedesDangling g a
