-- The equations of a system that is written down by hand. Assumes nothing.
use Rattle.std.specs.Prelude.{ℕ, min, Bool, false, cond, ◌||◌, Some, None, Ok, Err, vec_items, vec_len, Option, Result, nat_lt}
use Rattle.equations.specs.Equations.{Equations}
use Rattle.lattices.specs.Pairs.{pair, pair_lub}
use Rattle.lattices.specs.Sets.{empty_set, set_union}
use Rattle.lattices.specs.declared.number_set.NumberSet.{NumberSet}
use Rattle.lattices.specs.declared.pair.Pair.{Pair}
use Rattle.references.specs.declared.Dangling.{Dangling}
use Rattle.std.specs.List.{slice_get}
use Rattle.example_system.specs.declared.parts.ExampleSystem.{ExampleSystem}
use Rattle.example_system.specs.declared.parts.Instance.{Instance}
use Rattle.example_system.specs.declared.parts.Operand.{Operand}
use Rattle.example_system.specs.declared.parts.Step.{Step}
use Rattle.example_system.specs.declared.parts.Step.TheVariants.{Join, AndThen, Constant}

-- whether something may be empty, and the numbers that it may begin with
abbrev pub Values : Type 0
Values = Pair Bool NumberSet

-- the value after a step
abbrev pub applied : Step → Values → Values → Values
applied Join x v = pair_lub ◌||◌ set_union x v
applied AndThen x v = cond x.first (pair v.first (set_union x.second v.second)) x
applied (Constant c) x v = c

-- the operand that joins the value of a target
abbrev pub joined : Result ℕ Dangling → Operand
joined t = record { target = t; step = Join }

-- how many instances there are: 4,096 at most
abbrev pub size_of : ExampleSystem → ℕ
size_of s = min (vec_len s.instances) 4096

abbrev pub instance_at : ExampleSystem → ℕ → Option Instance
instance_at s i = cond (nat_lt i 4096) (slice_get (vec_items s.instances) i) None

abbrev pub count_of : Option Instance → ℕ
count_of (Some x) = min (vec_len x.operands) 4096
count_of None = 0

abbrev pub start_of : Option Instance → Values
start_of (Some x) = x.start
start_of None = pair false empty_set

abbrev pub operand_at : Option Instance → ℕ → Option Operand
operand_at (Some x) k = cond (nat_lt k 4096) (slice_get (vec_items x.operands) k) None
operand_at None k = None

-- the reference of an operand that there is not
abbrev pub missing : Result ℕ Dangling
missing = Err (record { reference = 65535 })

-- a target that is an instance, or dangles
abbrev pub target_of : ℕ → Result ℕ Dangling → Result ℕ Dangling
target_of n (Ok j) = cond (nat_lt j n) (Ok j) missing
target_of n (Err d) = Err d

abbrev pub operand_of : ℕ → Option Operand → Result ℕ Dangling
operand_of n (Some o) = target_of n o.target
operand_of n None = missing

abbrev pub step_of : Option Operand → Values → Values → Values
step_of (Some o) x v = applied o.step x v
step_of None x v = x

abbrev pub example_equations : ExampleSystem → Equations Values
example_equations s = record {
  size = size_of s;
  count = λ i. count_of (instance_at s i);
  operand = λ i k. operand_of (size_of s) (operand_at (instance_at s i) k);
  start = λ i. start_of (instance_at s i);
  step = λ i k. step_of (operand_at (instance_at s i) k);
}
