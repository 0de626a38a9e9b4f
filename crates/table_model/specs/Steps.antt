-- What each call does: the table before, the call, its answer, and the table after. Assumes nothing.
use Rattle.std.specs.Prelude.{◌≡◌, ℕ, ◌<◌, ◌≤◌, Bool, cond, ◌==◌, ◌≢◌}
use Rattle.equations.specs.Equations.{Equations}
use Rattle.equations.specs.Reach.{Whole}
use Rattle.equations.specs.Rounds.{rounds, round_changes}
use Rattle.table_model.specs.declared.fault.DanglingOperand.{DanglingOperand}
use Rattle.table_model.specs.declared.fault.TableFault.TheVariants as fault
use Rattle.table_model.specs.declared.record.State.{State}
use Rattle.table_model.specs.declared.record.State.TheVariants.{Idle, Iterating, Settled}
use Rattle.table_model.specs.declared.row.Mark.TheVariants.{Final}
use Rattle.table_model.specs.Calls.{Call, open_at, round_of, close_of, give_up_open, give_up_settled, demand_at, read_at, Result, Answer, refused, opened, rounded, closed, gave_up, demanded, valued, TableModel, evaluation, counted, LowestDangling}
use Rattle.table_model.specs.Rows.{Rows, pending, values, Opened, Rounded, MadeFinal, Released, pending_count}

-- The state after a round that changed `count` rows.
abbrev pub round_state : ℕ → ℕ → ℕ → State
round_state i k count = cond (count == 0) (Settled (evaluation i (counted k))) (Iterating (evaluation i (counted k)))

abbrev pub table : {V : Type 0} → State → Rows V → TableModel V
table s rows = record { state = s; rows = rows }

-- A session fits if the record is in its state at its instance.
abbrev pub FitsOpen : State → ℕ → ℕ → Type 0
FitsOpen s i k = s ≡ Iterating (evaluation i k)

abbrev pub FitsSettled : State → ℕ → ℕ → Type 0
FitsSettled s i k = s ≡ Settled (evaluation i k)

module _ {V : Type 0} (bot : V) (same : V → V → Bool) (e : Equations V) where
  -- Open at i, rounds until one changes nothing, close: k rounds change something, and the next one nothing.
  pub record Worked (i : ℕ) (before after : Rows V) (result : Result V) : Type 0 where
    pub begun : Rows V
    pub opens : Opened bot e i before begun
    pub k : ℕ
    pub change : (j : ℕ) → j < k → 0 < round_changes same e (pending begun) j (values begun)
    pub settle : round_changes same e (pending begun) k (values begun) ≡ 0
    pub ended : Rows V
    pub marks : (j : ℕ) → (ended j).mark ≡ (begun j).mark
    pub worked : (j : ℕ) → (ended j).value ≡ rounds e (pending begun) k (values begun) j
    pub closes : MadeFinal bot e ended after
    pub value : result.value ≡ (ended i).value
    pub made_final : result.made_final ≡ pending_count bot e begun
    pub rounds : result.rounds ≡ counted k

  pub data Step (s : State) (rows : Rows V) : Call → Answer V → TableModel V → Type 0 where
    -- open
    open_busy : {i : ℕ} → (s ≢ Idle) → Step s rows (open_at i) (refused fault.NotIdle) (table s rows)
    open_none : {i : ℕ} → s ≡ Idle → e.size ≤ i → Step s rows (open_at i) (refused fault.NoInstance) (table s rows)
    open_final : {i : ℕ} → s ≡ Idle → i < e.size → (rows i).mark ≡ Final → Step s rows (open_at i) (refused fault.AlreadyFinal) (table s rows)
    open_dangling : {i : ℕ} {d : DanglingOperand} → s ≡ Idle → i < e.size → ((rows i).mark ≢ Final) → LowestDangling e i d →
        Step s rows (open_at i) (refused (fault.Dangling d)) (table s rows)
    open_done : {i : ℕ} {after : Rows V} → s ≡ Idle → i < e.size → ((rows i).mark ≢ Final) → Whole e i → Opened bot e i rows after →
        Step s rows (open_at i) opened (table (Iterating (evaluation i 0)) after)
    -- round
    round_done : {i k count : ℕ} {after : Rows V} → FitsOpen s i k → Rounded bot e same rows after count →
        Step s rows (round_of i) (rounded count) (table (round_state i k count) after)
    round_unfit : {i : ℕ} → ((k : ℕ) → FitsOpen s i k → ⊥) → Step s rows (round_of i) (refused fault.NoFit) (table s rows)
    -- close
    close_none : {i : ℕ} → e.size ≤ i → Step s rows (close_of i) (refused fault.NoInstance) (table s rows)
    close_unfit : {i : ℕ} → i < e.size → ((k : ℕ) → FitsSettled s i k → ⊥) → Step s rows (close_of i) (refused fault.NoFit) (table s rows)
    close_done : {i k : ℕ} {after : Rows V} → i < e.size → FitsSettled s i k → MadeFinal bot e rows after →
        Step s rows (close_of i) (closed (record { value = (rows i).value; made_final = pending_count bot e rows; rounds = k })) (table Idle after)
    -- give up
    give_open : {i k : ℕ} {after : Rows V} → FitsOpen s i k → Released bot e rows after →
        Step s rows (give_up_open i) (gave_up (pending_count bot e rows)) (table Idle after)
    give_open_unfit : {i : ℕ} → ((k : ℕ) → FitsOpen s i k → ⊥) → Step s rows (give_up_open i) (gave_up 0) (table s rows)
    give_settled : {i k : ℕ} {after : Rows V} → FitsSettled s i k → Released bot e rows after →
        Step s rows (give_up_settled i) (gave_up (pending_count bot e rows)) (table Idle after)
    give_settled_unfit : {i : ℕ} → ((k : ℕ) → FitsSettled s i k → ⊥) → Step s rows (give_up_settled i) (gave_up 0) (table s rows)
    -- demand
    demand_busy : {i : ℕ} → (s ≢ Idle) → Step s rows (demand_at i) (refused fault.NotIdle) (table s rows)
    demand_none : {i : ℕ} → s ≡ Idle → e.size ≤ i → Step s rows (demand_at i) (refused fault.NoInstance) (table s rows)
    demand_final : {i : ℕ} → s ≡ Idle → i < e.size → (rows i).mark ≡ Final →
        Step s rows (demand_at i) (demanded (record { value = (rows i).value; made_final = 0; rounds = 0 })) (table s rows)
    demand_dangling : {i : ℕ} {d : DanglingOperand} → s ≡ Idle → i < e.size → ((rows i).mark ≢ Final) → LowestDangling e i d →
        Step s rows (demand_at i) (refused (fault.Dangling d)) (table s rows)
    demand_done : {i : ℕ} {after : Rows V} {result : Result V} → s ≡ Idle → i < e.size → ((rows i).mark ≢ Final) → Whole e i →
        Worked i rows after result → Step s rows (demand_at i) (demanded result) (table Idle after)
    -- read
    read_none : {i : ℕ} → e.size ≤ i → Step s rows (read_at i) (refused fault.NoInstance) (table s rows)
    read_not : {i : ℕ} → i < e.size → ((rows i).mark ≢ Final) → Step s rows (read_at i) (refused fault.NotFinal) (table s rows)
    read_done : {i : ℕ} → i < e.size → (rows i).mark ≡ Final → Step s rows (read_at i) (valued (rows i).value) (table s rows)
