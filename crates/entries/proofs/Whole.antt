-- The parts of a grammar, read one behind the other. Assumes nothing.
use Rattle.std.proofs.Common.{◌≡◌, List, [], sym, refl}
use Rattle.entry_format.proofs.Series.{and_then_is}
use Rattle.entry_format.specs.Grammars.{ProductionModel, loader_checks, read_kind, read_declarations, read_productions, read_grammar}
use Rattle.entry_format.specs.Reading.{Input, got, NameModel}

pub grammar_read : (l₀ l₁ l₂ l₃ l₄ : Input) (ts ns : List NameModel) (ps : List ProductionModel) →
    got tt l₁ ≡ read_kind 1 l₀ →
    got ts l₂ ≡ read_declarations loader_checks 0 63 [] l₁ →
    got ns l₃ ≡ read_declarations loader_checks 1 64 ts l₂ →
    got ps l₄ ≡ read_productions loader_checks ns l₃ →
    read_grammar loader_checks l₀ ≡ got (record { terminals = ts; nonterminals = ns; productions = ps }) l₄
grammar_read l₀ l₁ l₂ l₃ l₄ ts ns ps a b c d =
    and_then_is _ (sym a) (and_then_is _ (sym b) (and_then_is _ (sym c) (and_then_is _ (sym d) refl)))
