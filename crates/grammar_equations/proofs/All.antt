-- The least solution of a grammar's equations says exactly what its derivations give. Assumes nothing.
use Rattle.std.proofs.Common.{ℕ, ◌+◌, ◌<◌, ◌↔◌, arith}
use Rattle.grammar_equations.specs.Exactness.{Exactness}
use Rattle.grammar_equations.specs.Instances.{symbol, follow}
use Rattle.grammar_equations.specs.Rules.{Rules, WellFormed, symbol_count}
use Rattle.grammar_equations.proofs.Bridge.{dangling_bridge, whole_bridge}
use Rattle.grammar_equations.proofs.Exact.{exact_symbol, exact_follow, dangling_symbol, dangling_follow}
use Rattle.grammar_equations.proofs.Lawfulness.{grammar_lawful}
use Rattle.grammar_equations.proofs.Numbering.{numbered}
use Rattle.grammar_equations.proofs.Solved.{solution}

module _ (g : Rules) (formed : WellFormed g) where
  within : (a : ℕ) → a < g.nonterminals → g.terminals + a < symbol_count g
  within a l = omega arith

  both : {A B C : Type 0} → A ↔ B → B ↔ C → A ↔ C
  both p q = (λ a. q.0 (p.0 a), λ c. p.1 (q.1 c))

  pub exactness : Exactness g
  exactness =
      record {
        numbered = numbered g formed;
        lawful = grammar_lawful g formed;
        symbols = λ v least a l w.
            exact_symbol formed (solution formed v least) a l ((whole_bridge g formed (symbol (g.terminals + a)) (within a l)).0 w);
        follows = λ v least a l w. exact_follow formed (solution formed v least) a l ((whole_bridge g formed (follow a) l).0 w);
        dangling_symbols = λ a l. both (dangling_bridge g formed (symbol (g.terminals + a)) (within a l)) (dangling_symbol formed a l);
        dangling_follows = λ a l. both (dangling_bridge g formed (follow a) l) (dangling_follow formed a l);
      }
