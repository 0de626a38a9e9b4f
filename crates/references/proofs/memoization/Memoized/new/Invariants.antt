use Rattle.std.proofs.Common.{◌≡◌, ◌≤◌, min, map, vec_items, vec_len, vec_capacity}
use Rattle.std.specs.List.{range_with_len}
use Rattle.references.specs.Remembered.{memo_limit}
use Rattle.references.proofs.memoization.Memoized.new.Given as goal

abbrev pub invariant-loop-reference : goal.invariant-loop-reference
invariant-loop-reference g l =
    (vec_items l.answers ≡ map (g.R.Resolver.names l.below) (range_with_len 0 l.reference))
    × (vec_len l.answers ≡ l.reference)
    × (memo_limit ≤ vec_capacity l.answers)
    × (l.count ≡ min (g.R.Resolver.references l.below) memo_limit)
