use Rattle.std.proofs.Common.{arith, rules}
use Rattle.std.proofs.lemmas.List.FromFn.{map-range_with_len_more}
use Rattle.references.proofs.FirstAnswers.{get_d_answers, within_answers}
use Rattle.references.proofs.Resolved.{ok_resolved}
use Rattle.references.proofs.memoization.Memoized.new.Goals as goal

pub loop-reference-preserved : goal.loop-reference-preserved
loop-reference-preserved g c =
    let names = g.R.Resolver.names c.args.below in
    let i = c.loop-reference.reference in
    let answer = ok_resolved i (names i) in
    let more = map-range_with_len_more names 0 i i (omega arith) in
    (cc, search rules, search rules, c.loop-reference.invariant.3)

pub invariant_of-result : goal.invariant_of-result
invariant_of-result g c =
    let below = g.R.Resolver in
    let s = c.args.below in
    let all = within_answers (below.references s) (below.declarations s) (below.names s) c.loop-reference.reference (below.laws s) in
    record { within = rw (c.loop-reference.invariant.0, c.declaration_count-declarations.ensures) all }

pub returns-clause-names : goal.returns-clause-names
returns-clause-names g c = λ n. let e = get_d_answers (g.R.Resolver.names c.args.below) c.loop-reference.reference n in cc
