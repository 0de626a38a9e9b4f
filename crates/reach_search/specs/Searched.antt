-- What a search of an instance's reach finds. Assumes nothing.
use Rattle.std.specs.Prelude.{◌≡◌, ℕ, ◌*◌, ◌<◌, ◌≤◌, ◌⊎◌, List, length, Ok, Err, Result, slice_index}
use Rattle.equations.specs.Equations.{Equations}
use Rattle.equations.specs.Reach.{Reach, Whole}
use Rattle.table_model.specs.Calls.{LowestDangling}
use Rattle.table_model.specs.declared.fault.DanglingOperand.{DanglingOperand}
use Rattle.table_model.specs.declared.fault.TableFault.{TableFault}
use Rattle.table_model.specs.declared.fault.TableFault.TheVariants as fault

module _ {V : Type 0} (e : Equations V) (i : ℕ) where
  -- The first places of the work list, one for each instance, are 1 for those in reach of i and 0 for the others.
  abbrev pub MarksReach : List ℕ → Type 0
  MarksReach work =
      (j : ℕ) → j < e.size → ((slice_index work j ≡ 1) × Reach e i j) ⊎ ((slice_index work j ≡ 0) × (Reach e i j → ⊥))

  -- Whether i is whole: if not, the lowest dangling operand in its reach is told.
  pub data TellsWhole : Result Unit TableFault → Type 0 where
    whole : Whole e i → TellsWhole (Ok tt)
    dangling : {d : DanglingOperand} → LowestDangling e i d → TellsWhole (Err (fault.Dangling d))

  -- A search of the reach of i: too short a work list and an instance that there is not are refused, with the work list as it was.
  pub record Searched (before after : List ℕ) (r : Result Unit TableFault) : Type 0 where
    pub short : length before < 2 * e.size → (r ≡ Err fault.TooShort) × (after ≡ before)
    pub none : 2 * e.size ≤ length before → e.size ≤ i → (r ≡ Err fault.NoInstance) × (after ≡ before)
    pub marks : 2 * e.size ≤ length before → i < e.size → MarksReach after
    pub tells : 2 * e.size ≤ length before → i < e.size → TellsWhole r
    pub length : length after ≡ length before
