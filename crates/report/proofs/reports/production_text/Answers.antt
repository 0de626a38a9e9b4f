use Rattle.std.proofs.Common.{◌≡◌, ℕ, Option, List, ◌+◌, ◌<◌, ◌≤◌, ◌++◌, map, length, get_or, drop, string_bytes, sym, refl, ap, ◌∙◌, arith}
use Rattle.std.specs.Result.{result_ok}
use Rattle.std.proofs.lemmas.List.{length-map, get_or-map, at_drop_more, at_drop_all}
use Rattle.std.proofs.lemmas.Slice.{pushed}
use Rattle.references.proofs.Resolved.{ok_resolved}
use Rattle.entry_format.specs.Reading.{NameModel}
use Rattle.entry_reader.specs.Reads.{name_of}
use Rattle.report.specs.Lines.{production_line, reference_line}
use Rattle.report.specs.Reports.{reference_lines, production_text}
use Rattle.report.proofs.Productions.{no_name}
use Rattle.report.proofs.Steps.{written_more, written_all}
use Rattle.report.proofs.reports.production_text.Goals as goal

-- the line of a reference, whose number is r
line_at : (names : ℕ → Option ℕ) (name : NameModel) {reference : ℕ} {symbol : Option ℕ} {line : List ℕ} (r : ℕ) → line ≡ reference_line reference name symbol → symbol ≡ names reference → reference ≡ r → line ≡ reference_line r name (names r)
line_at names name r line symbol e = line ∙ (λ k. reference_line (e k) name ((symbol ∙ ap names e) k))

pub loop-i-init : goal.loop-i-init
loop-i-init g c =
    let names = g.R.Resolver.names c.args.resolver.now in
    let right = map name_of c.args.right.now in
    let size = sym (length-map c.args.right.now name_of) in
    let head = c.in_ok-lines.ensures ∙ (λ k. production_line c.args.number (name_of (c.left.ensures k)) (size k)) in
    let none : c.first-first.result + 0 ≡ c.first-first.result = omega arith in
    λ k. head k ++ reference_lines names (none k) right

pub loop-i-preserved : goal.loop-i-preserved
loop-i-preserved g c =
    let names = g.R.Resolver.names c.args.resolver.now in
    let right = map name_of c.args.right.now in
    let i = c.loop-i.i in
    let r = c.first-first.result + i in
    let name = name_of (get_or c.args.right.now i no_name) in
    let lt : i < length right = omega (arith, length-map c.args.right.now name_of, c.loop-i-test.true) in
    let next : r + 1 ≡ c.first-first.result + (i + 1) = omega arith in
    let symbol = c.ok-symbol.ensures.value ∙ ap result_ok c.resolve.ensures ∙ ok_resolved _ (names _) in
    let piece = line_at names name r (c.deref.ensures ∙ c.in_ok-reference_line.ensures) symbol (omega arith) in
    let step = at_drop_more (reference_lines names r) right i (name_of no_name) lt
    ∙ (λ k. reference_line r (get_or-map name_of c.args.right.now i no_name (name_of no_name) c.loop-i-test.true k) (names r) ++ reference_lines names (next k) (drop (i + 1) right)) in
    let push = pushed c.deref.result.now refl c.in_ok-push_str.was c.push_str.ensures.bytes in
    written_more (string_bytes c.loop-i.lines) (reference_line r name (names r)) (reference_lines names (c.first-first.result + (i + 1)) (drop (i + 1) right)) c.loop-i.invariant step (push ∙ ap (λ t. string_bytes c.loop-i.lines ++ t) piece)

pub returns : goal.returns
returns g c =
    let names = g.R.Resolver.names c.args.resolver.now in
    let right = map name_of c.args.right.now in
    let i = c.loop-i.i in
    let le : length right ≤ i = omega (arith, length-map c.args.right.now name_of, c.loop-i-test.false) in
    written_all (string_bytes c.loop-i.lines) c.loop-i.invariant (at_drop_all (reference_lines names (c.first-first.result + i)) right i le)
    ∙ ap (λ r. production_text names c.args.number r (name_of c.args.production.now.left) right) c.first-first.ensures
