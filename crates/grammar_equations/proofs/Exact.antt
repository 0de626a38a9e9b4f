-- A solution says of complete instances exactly what derivations show. Assumes nothing.
use Rattle.std.proofs.Common.{ℕ, ◌+◌, ◌<◌, ⊎_elim, arith}
use Rattle.grammar_equations.specs.Exactness.{ExactSymbol, ExactFollow}
use Rattle.grammar_equations.specs.Instances.{Instance, symbol, follow, Valid}
use Rattle.grammar_equations.specs.Paths.{Complete}
use Rattle.grammar_equations.specs.Rules.{Rules, WellFormed}
use Rattle.grammar_equations.specs.Values.{Value}
pub use Rattle.grammar_equations.proofs.Dangling.{dangling_symbol, dangling_follow}
use Rattle.grammar_equations.proofs.Said.{nullable_said, first_said, follow_said, end_said}
use Rattle.grammar_equations.proofs.Solutions.{Solution}
use Rattle.grammar_equations.proofs.Sound.{nullable_sound, first_sound, follow_sound}

module _ {g : Rules} (well : WellFormed g) {v : Instance → Value} (solution : Solution g v) (a : ℕ) (inside : a < g.nonterminals) where
  pub exact_symbol : Complete g (symbol (g.terminals + a)) → ExactSymbol g a (v (symbol (g.terminals + a)))
  exact_symbol complete =
      let s = g.terminals + a in
      let valid : Valid g (symbol s) = omega arith in
      record {
        nullable = (nullable_sound well 0 solution s valid complete, nullable_said well solution 64 s complete (omega arith));
        first = λ c. (first_sound well c solution a valid complete, λ q. first_said well solution c s complete q.1.0 q.0 q.1.1);
      }

  pub exact_follow : Complete g (follow a) → ExactFollow g a (v (follow a))
  exact_follow complete =
      record {
        follow = λ c. (
          follow_sound well c solution a inside complete,
          ⊎_elim (λ q. let (b, l, r, h, d) = q.1 in follow_said well solution c a b l r q.0 d inside complete)
              (λ q. end_said well solution c a q.1.0 q.0 q.1.1 inside complete),
        );
      }
