use Rattle.std.proofs.Common.{sym, ap, ◌∙◌}
use Rattle.entry_format.proofs.Positions.{position_unique}
use Rattle.entry_format.specs.Grammars.{GrammarModel, symbols}
use Rattle.entry_format.specs.Names.{Distinct}
use Rattle.entries.specs.Models.{grammar_of}
use Rattle.entries.specs.Resolving.{symbol_of, Resolves}
use Rattle.entries.proofs.Invariant.{distinct}
use Rattle.entries.proofs.resolver.GrammarResolver.new.Goals as goal

resolves : (g : GrammarModel) → Distinct (symbols g) → Resolves g
resolves g d = record {
  names = λ r n at k.
      let e = ap (symbol_of (symbols g)) at in
      let u = (position_unique (symbols g) n d).0 k in
      (λ named. u.0 (sym e ∙ named), λ is. e ∙ u.1 is);
  dangles = λ r n at.
      let e = ap (symbol_of (symbols g)) at in
      let u = (position_unique (symbols g) n d).1 in
      (λ none. u.0 (sym e ∙ none), λ nowhere. e ∙ u.1 nowhere);
  one = λ n j k is is'.
      let a = ((position_unique (symbols g) n d).0 j).1 is in
      let b = ((position_unique (symbols g) n d).0 k).1 is' in
      cc;
}

pub returns-clause-resolves : goal.returns-clause-resolves
returns-clause-resolves c = resolves (grammar_of c.args.grammar.now) (distinct c.args.grammar.now)
