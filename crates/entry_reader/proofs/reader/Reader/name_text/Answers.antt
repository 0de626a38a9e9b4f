use Rattle.std.proofs.Common.{◌≡◌, take, IsUtf8, Ok, Err, Result, refl, ap, subst, arith}
use Rattle.std.specs.Result.{IsOk, MatchResult}
use Rattle.entry_reader.specs.Reads.{input_of}
use Rattle.entry_reader.proofs.Fronts.{name_utf8}
use Rattle.entry_reader.proofs.reader.Reader.name_text.Goals as goal

ok_if_no_error : {T E : Type 0} (r : Result T E) (P : T → Type 0) (Q : E → Type 0) → MatchResult r P Q → ((e : E) → Q e → ⊥) → IsOk r
ok_if_no_error (Ok x) P Q h none = refl
ok_if_no_error (Err e) P Q h none = absurd (none e h)

pub unwrap-requires : goal.unwrap-requires
unwrap-requires c =
    let bytes = name_utf8 c.args.len (input_of c.args.self.now) _ _ c.in_ok-pass_name.ensures.read in
    let len : c.args.len ≡ c.from.result = omega arith in
    let text : IsUtf8 (take c.from.result c.args.self.now.rest.now) = subst IsUtf8 (ap (λ n. take n c.args.self.now.rest.now) len) bytes in
    ok_if_no_error c.from_utf8.result _ _ c.from_utf8.ensures.cases (λ e wrong. wrong.0 text)
