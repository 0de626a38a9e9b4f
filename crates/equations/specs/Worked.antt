-- What the equation of an instance gives over a list of values. Assumes nothing.
use Rattle.std.specs.Prelude.{ℕ, cond, List, length, Some, None, Option, nat_lt, slice_index_or}
use Rattle.equations.specs.Equations.{Equations, equation}

-- None if there are fewer values than instances, else the equation's value.
abbrev pub worked : {V : Type 0} → V → Equations V → List V → ℕ → Option V
worked bot e values i = cond (nat_lt (length values) e.size) None (Some (equation e (λ j. slice_index_or values j bot) i))
