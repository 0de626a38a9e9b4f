-- The calls of a table, and their answers. Assumes nothing.
use Rattle.std.specs.Prelude.{◌≡◌, ℕ, ◌+◌, ◌-◌, ◌^◌, ◌<◌, ◌≤◌, min, ◌⊎◌}
use Rattle.equations.specs.Equations.{Equations}
use Rattle.equations.specs.Reach.{Reach, DanglesAt}
use Rattle.references.specs.declared.Dangling.{Dangling}
use Rattle.table_model.specs.declared.fault.DanglingOperand.{DanglingOperand}
use Rattle.table_model.specs.declared.fault.TableFault.{TableFault}
use Rattle.table_model.specs.declared.record.Evaluation.{Evaluation}
use Rattle.table_model.specs.declared.record.State.{State}
use Rattle.table_model.specs.Rows.{Rows}

-- The calls, with the instance that is asked for or that of the session that is brought.
pub data Call : Type 0 where
  open_at : ℕ → Call
  round_of : ℕ → Call
  close_of : ℕ → Call
  give_up_open : ℕ → Call
  give_up_settled : ℕ → Call
  demand_at : ℕ → Call
  read_at : ℕ → Call

-- What a close or a demand answers.
pub record Result (V : Type 0) : Type 0 where
  pub value : V
  pub made_final : ℕ
  pub rounds : ℕ

-- The answers: a refusal; an open session; how many rows a round changed; the results of a close and of a demand;
-- how many rows a give-up released; a value that was read.
pub data Answer (V : Type 0) : Type 0 where
  refused : TableFault → Answer V
  opened : Answer V
  rounded : ℕ → Answer V
  closed : Result V → Answer V
  gave_up : ℕ → Answer V
  demanded : Result V → Answer V
  valued : V → Answer V

-- A table: its record and its rows.
pub record TableModel (V : Type 0) : Type 0 where
  pub state : State
  pub rows : Rows V

abbrev pub evaluation : ℕ → ℕ → Evaluation
evaluation i k = record { instance = i; rounds = k }

-- One round more, in a count of 32 bits that stays at its largest.
abbrev pub counted : ℕ → ℕ
counted k = min (k + 1) (2 ^ 32 - 1)

-- d is the lowest instance in reach of i that has a dangling operand, its lowest such operand, and the reference.
pub record LowestDangling {V : Type 0} (e : Equations V) (i : ℕ) (d : DanglingOperand) : Type 0 where
  pub reaches : Reach e i d.instance
  pub dangles : DanglesAt e d.instance d.operand d.dangling
  pub lowest : (j o : ℕ) (x : Dangling) → Reach e i j → DanglesAt e j o x → (d.instance < j) ⊎ ((d.instance ≡ j) × (d.operand ≤ o))
