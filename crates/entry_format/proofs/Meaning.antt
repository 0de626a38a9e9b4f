-- What the answer to every file means. Assumes nothing.
use Rattle.std.proofs.Common.{◌≡◌, ℕ, List, ◌++◌, length, refl, arith}
use Rattle.entry_format.specs.Encoding.{encode_grammar, Lawful}
use Rattle.entry_format.specs.Grammars.{GrammarModel, loader_checks, read_grammar}
use Rattle.entry_format.specs.Laws.{Bytes, LoadingMeans}
use Rattle.entry_format.specs.Reading.{Input, input, got}
use Rattle.entry_format.proofs.Exact.{grammar_sound, encoding_loads, loads_exactly}
use Rattle.entry_format.proofs.Fronts.{same_front, no_encoding_begins_so}
use Rattle.entry_format.proofs.Refusals.{refusals_tell}
use Rattle.entry_format.proofs.Standing.{names_stand}

-- a grammar that was read from the front of a file of bytes is lawful, and stands there encoded
front_sound : (file : List ℕ) (g : GrammarModel) (l : Input) → Bytes file → read_grammar loader_checks (input file 0) ≡ got g l →
    (file ≡ encode_grammar g ++ l.rest) × (l.place ≡ length (encode_grammar g)) × Lawful g
front_sound file g l bytes e =
    let s = grammar_sound (input file 0) g l e in
    (s.0.front bytes, omega (arith, s.0.moved), s.1 refl)

pub loading_means : LoadingMeans
loading_means file bytes = record {
  exact = λ g. loads_exactly file g bytes;
  names = λ g. names_stand file g bytes;
  tells = λ e. refusals_tell front_sound file e bytes;
  first = λ e refused other. same_front file other e refused;
  never = λ e refused. no_encoding_begins_so encoding_loads file e refused;
}
