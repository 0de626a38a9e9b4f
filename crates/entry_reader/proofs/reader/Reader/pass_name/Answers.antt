use Rattle.std.proofs.Common.{◌≡◌, ◌+◌, ◌-◌, take, sym, ap, ◌∙◌, arith}
use Rattle.std.proofs.lemmas.Result.{err_from_is_err_and}
use Rattle.entry_format.specs.Reading.{read_name_byte, read_name_bytes}
use Rattle.entry_format.proofs.Loops.{series_more, series_bad}
use Rattle.entry_reader.specs.Reads.{input_of}
use Rattle.entry_reader.proofs.Fronts.{byte_rest, front_more, name_byte_end, name_byte_good, name_byte_wrong}
use Rattle.entry_reader.proofs.reader.Reader.pass_name.Goals as goal

pub returns-in_err-b : goal.returns-in_err-b
returns-in_err-b c =
    let front = take c.loop.counter c.args.self.now.rest.now in
    let e = series_bad (λ _. read_name_byte) c.args.len c.loop.counter c.loop-test.true front (input_of c.loop.self) _ (name_byte_end (input_of c.loop.self) _ c.in_err-b.ensures) in
    let p = err_from_is_err_and c.from_residual.result c.from_residual.ensures.1 in
    rw (p.1, p.2) (record { read = sym (c.loop.invariant.0 ∙ e); within = tt })

pub returns-then-not-is_ascii_graphic : goal.returns-then-not-is_ascii_graphic
returns-then-not-is_ascii_graphic c =
    let front = take c.loop.counter c.args.self.now.rest.now in
    let e = series_bad (λ _. read_name_byte) c.args.len c.loop.counter c.loop-test.true front (input_of c.loop.self) _ (name_byte_wrong (input_of c.loop.self) _ _ c.in_ok-b.ensures c.if-not-is_ascii_graphic.ensures.value) in
    record { read = sym (c.loop.invariant.0 ∙ e); within = tt }

pub loop-preserved : goal.loop-preserved
loop-preserved c =
    let all = c.args.self.now.rest.now in
    let front = take c.loop.counter all in
    let e = series_more (λ _. read_name_byte) c.args.len c.loop.counter c.loop-test.true front (input_of c.loop.self) _ _ (name_byte_good (input_of c.loop.self) _ _ c.in_ok-b.ensures c.if-not-is_ascii_graphic.ensures.value) in
    let f = front_more all c.byte.new.self.rest.now c.loop.counter _ (sym c.loop.invariant.1 ∙ byte_rest _ _ _ _ c.in_ok-b.ensures) in
    (c.loop.invariant.0 ∙ e ∙ ap (λ t. read_name_bytes (c.args.len - (c.loop.counter + 1)) t (input_of c.byte.new.self)) (sym f.0), sym f.1, omega (arith, f.2))

pub returns : goal.returns
returns c =
    let e : c.loop.counter ≡ c.args.len = omega arith in
    let z : c.args.len - c.loop.counter ≡ 0 = omega arith in
    record {
      read = sym (c.loop.invariant.0 ∙ (λ k. read_name_bytes (z k) (take (e k) c.args.self.now.rest.now) (input_of c.loop.self)));
      within = omega arith;
    }
