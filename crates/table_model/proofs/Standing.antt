-- What holds of the table and the answers at every point of a run. Assumes nothing.
use Rattle.std.proofs.Common.{◌≡◌, ℕ, ◌+◌, ◌≤◌, Bool, true, false, sym, refl}
use Rattle.std.proofs.lemmas.Bool.{false≢true}
use Rattle.equations.specs.Equations.{Equations}
use Rattle.table_model.specs.declared.record.State.{State}
use Rattle.table_model.specs.declared.record.State.TheVariants.{Idle, Iterating, Settled}
use Rattle.table_model.specs.Calls.{TableModel}
use Rattle.table_model.specs.Rows.{Rows}
use Rattle.table_model.specs.Runs.{Log, told_idle, rounds_since_open}
use Rattle.table_model.proofs.Finals.{Finals}
use Rattle.table_model.proofs.Sessions.{Session, AtLeast, row_ranks}
use Rattle.table_model.proofs.Told.{Told}

-- What holds in a state, where the calls told whether the table is idle, and n rounds since the last open.
-- In a session that is not settled the rounds are at most the sum of the ranks; a settled one is at the least solution.
abbrev pub Standing : {V : Type 0} → (V → V → Type 0) → (V → ℕ) → Equations V → (ℕ → V) → Bool → ℕ → Rows V → State → Type 0
Standing le rank e v told n rows Idle = told ≡ true
Standing le rank e v told n rows (Iterating x) =
    (told ≡ false) × Session le e v x.instance rows × (n ≤ row_ranks rank e rows) × (x.rounds ≤ row_ranks rank e rows)
Standing le rank e v told n rows (Settled x) =
    (told ≡ false) × Session le e v x.instance rows × AtLeast e v rows × (x.rounds ≤ row_ranks rank e rows + 1)

pub record Holds {V : Type 0} (le : V → V → Type 0) (rank : V → ℕ) (height : ℕ) (e : Equations V) (v : ℕ → V) (begin : TableModel V) (log : Log V) (s : State) (rows : Rows V) : Type 0 where
  pub finals : Finals e v rows
  pub told : Told e v height begin log rows
  pub standing : Standing le rank e v (told_idle log) (rounds_since_open log) rows s

-- If the calls told that the table is idle, it is.
pub idle_state : {V : Type 0} (le : V → V → Type 0) (rank : V → ℕ) (e : Equations V) (v : ℕ → V) (n : ℕ) (rows : Rows V) (s : State) → Standing le rank e v true n rows s → s ≡ Idle
idle_state le rank e v n rows Idle h = refl
idle_state le rank e v n rows (Iterating x) h = absurd (false≢true (sym h.0))
idle_state le rank e v n rows (Settled x) h = absurd (false≢true (sym h.0))
