-- No instance is marked.
use Rattle.std.proofs.Common.{refl, arith}
use Rattle.reach_search.proofs.Adding.{once_none}
use Rattle.reach_search.proofs.found.Found.new.Goals as goal

pub invariant_of-result-clause-queued : goal.invariant_of-result-clause-queued
invariant_of-result-clause-queued g c =
    λ j m. absurd (omega (arith, m.1, c.fill.ensures.clones j 0 (omega (arith, m.0, c.fill.ensures.len)) refl))

pub invariant_of-result-clause-once : goal.invariant_of-result-clause-once
invariant_of-result-clause-once g c =
    once_none c.fill.new.self (λ j l. c.fill.ensures.clones j 0 (omega (arith, c.fill.ensures.len)) refl)
