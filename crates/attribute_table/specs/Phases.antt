-- The phases of a session. Assumes nothing.
use Rattle.std.specs.Prelude.{ℕ, Bool, false, ◌==◌}
use Rattle.table_model.specs.Calls.{Call, give_up_open, give_up_settled}
use Rattle.table_model.specs.declared.record.State.{State}
use Rattle.table_model.specs.declared.record.State.TheVariants.{Idle, Iterating, Settled}

pub data SessionPhase : Type 0 where
  iterating : SessionPhase
  settled : SessionPhase

-- Whether a session in the phase, at instance i, fits a record: the record is in the phase, at i.
abbrev pub fits_in : SessionPhase → State → ℕ → Bool
fits_in iterating Idle i = false
fits_in iterating (Iterating x) i = x.instance == i
fits_in iterating (Settled x) i = false
fits_in settled Idle i = false
fits_in settled (Iterating x) i = false
fits_in settled (Settled x) i = x.instance == i

-- The call that gives up a session in the phase.
abbrev pub give_up_in : SessionPhase → ℕ → Call
give_up_in iterating = give_up_open
give_up_in settled = give_up_settled
