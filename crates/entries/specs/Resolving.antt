-- Which symbol each reference of a grammar names. Assumes nothing.
use Rattle.std.specs.Prelude.{◌≡◌, ℕ, ◌<◌, ◌↔◌, List, length, Some, None, Option}
use Rattle.std.proofs.Common.{ap, arith}
use Rattle.std.specs.List.{slice_get}
use Rattle.std.proofs.lemmas.Option.{slice_get_past}
use Rattle.entry_format.proofs.Positions.{is_from_position}
use Rattle.entry_format.specs.Grammars.{GrammarModel, symbols, references}
use Rattle.entry_format.specs.Names.{position, IsAt}
use Rattle.entry_format.specs.Reading.{NameModel}
use Rattle.references.specs.Resolution.{ResolverLaws}

-- the symbol of equal name, if there is a name and it has one
abbrev pub symbol_of : List NameModel → Option NameModel → Option ℕ
symbol_of symbols (Some n) = position symbols n
symbol_of symbols None = None

-- the symbol that reference r names
abbrev pub resolve_reference : GrammarModel → ℕ → Option ℕ
resolve_reference g r = symbol_of (symbols g) (slice_get (references g.productions) r)

symbol_within : (symbols : List NameModel) (o : Option NameModel) (d : ℕ) → symbol_of symbols o ≡ Some d → d < length symbols
symbol_within symbols (Some n) d e = (is_from_position symbols n d e).0
symbol_within symbols None d e = absurd (let z : ◌≡◌ {A = ℕ} 0 1 = cc in omega arith)

-- a grammar's references follow the rules of a resolver
pub resolver_laws : (g : GrammarModel) → ResolverLaws (length (references g.productions)) (length (symbols g)) (resolve_reference g)
resolver_laws g = record {
  past_end = λ r h. ap (symbol_of (symbols g)) (slice_get_past (references g.productions) r h);
  within = λ r d e. symbol_within (symbols g) (slice_get (references g.productions) r) d e;
}

-- each reference names the one symbol of equal name, or none has an equal name
pub record Resolves (g : GrammarModel) : Type 0 where
  pub names : (r : ℕ) (n : NameModel) → slice_get (references g.productions) r ≡ Some n →
      (d : ℕ) → (resolve_reference g r ≡ Some d) ↔ IsAt (symbols g) n d
  pub dangles : (r : ℕ) (n : NameModel) → slice_get (references g.productions) r ≡ Some n →
      (resolve_reference g r ≡ None) ↔ ((d : ℕ) → IsAt (symbols g) n d → ⊥)
  pub one : (n : NameModel) (d e : ℕ) → IsAt (symbols g) n d → IsAt (symbols g) n e → d ≡ e
