-- A table whose rows are lent as a list, and what each of its calls comes to. Assumes nothing.
use Rattle.std.specs.Prelude.{◌≡◌, ℕ, ◌*◌, ◌<◌, ◌≤◌, ◌≢◌, Bool, List, length, drop, Ok, Err, Result, slice_index_or}
use Rattle.equations.specs.Equations.{Equations}
use Rattle.table_model.specs.Calls.{Call, Answer, refused}
use Rattle.table_model.specs.Rows.{Rows, row}
use Rattle.table_model.specs.Runs.{New}
use Rattle.table_model.specs.Steps.{Step, table}
use Rattle.table_model.specs.declared.fault.TableFault.{TableFault}
use Rattle.table_model.specs.declared.fault.TableFault.TheVariants as fault
use Rattle.table_model.specs.declared.record.State.{State}
use Rattle.table_model.specs.declared.record.State.TheVariants.{Idle}
use Rattle.table_model.specs.declared.row.Mark.TheVariants.{Untouched}
use Rattle.table_model.specs.declared.row.Row.{Row}
use Rattle.attribute_table.specs.declared.table.Table.{Table}

-- The rows of a list by their numbers, untouched at the bottom past its end.
abbrev pub rows_of : {V : Type 0} → V → List (Row V) → Rows V
rows_of bot rows j = slice_index_or rows j (row Untouched bot)

-- There is a row for each instance.
abbrev pub EnoughRows : {V : Type 0} → Equations V → List (Row V) → Type 0
EnoughRows e rows = e.size ≤ length rows

-- There are also two places in the work list for each instance.
abbrev pub EnoughPlaces : {V : Type 0} → Equations V → List (Row V) → List ℕ → Type 0
EnoughPlaces e rows work = EnoughRows e rows × (2 * e.size ≤ length work)

module _ {V : Type 0} (e : Equations V) (s : State) (rows : List (Row V)) (work : List ℕ) (i : ℕ) where
  -- An open or a demand at i, with the record s, can go on: enough is lent, the table is idle, and there is such an instance.
  abbrev pub Asked : Type 0
  Asked = EnoughPlaces e rows work × (s ≡ Idle) × (i < e.size)

  -- It cannot. The refusals are in this order.
  pub data NotAsked : TableFault → Type 0 where
    too_short : (EnoughPlaces e rows work → ⊥) → NotAsked fault.TooShort
    not_idle : EnoughPlaces e rows work → (s ≢ Idle) → NotAsked fault.NotIdle
    no_instance : EnoughPlaces e rows work → s ≡ Idle → e.size ≤ i → NotAsked fault.NoInstance

module _ {V : Type 0} (bot : V) (same : V → V → Bool) (e : Equations V) where
  -- The call is a step of the table, with as many rows after as before, and those past the last instance as they were.
  pub record Stepped (s : State) (rows : List (Row V)) (c : Call) (a : Answer V) (t : State) (after : List (Row V)) : Type 0 where
    pub step : Step bot same e s (rows_of bot rows) c a (table t (rows_of bot after))
    pub length : length after ≡ length rows
    pub past : drop e.size after ≡ drop e.size rows

  -- A call at the record s that is lent the rows. If too little is lent, it is answered with `short` and changes nothing; else it is a step.
  -- A refusal changes nothing.
  pub record Called (enough : Type 0) (short : Answer V) (s : State) (rows : List (Row V)) (c : Call) (a : Answer V) (t : State) (after : List (Row V)) : Type 0 where
    pub too_short : (enough → ⊥) → (a ≡ short) × (t ≡ s) × (after ≡ rows)
    pub steps : enough → Stepped s rows c a t after
    pub refusal : (f : TableFault) → a ≡ refused f → (t ≡ s) × (after ≡ rows)

  -- Making a table: refused if the told height is 65,536, then if there are too few rows, with the rows as they were; else it is new.
  pub record Made (height : ℕ) (rows : List (Row V)) (r : Result Table TableFault) (after : List (Row V)) : Type 0 where
    pub too_high : 65536 ≤ height → (r ≡ Err fault.TooHigh) × (after ≡ rows)
    pub too_short : height < 65536 → length rows < e.size → (r ≡ Err fault.TooShort) × (after ≡ rows)
    pub made : height < 65536 → e.size ≤ length rows →
        (t : Table) × (r ≡ Ok t) × New bot e (table t.state (rows_of bot after)) × (drop e.size after ≡ drop e.size rows)
    pub length : length after ≡ length rows
