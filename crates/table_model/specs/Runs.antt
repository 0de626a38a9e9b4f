-- Lists of calls with their answers, from a table on, and what they tell. Assumes nothing.
use Rattle.std.specs.Prelude.{◌≡◌, ℕ, zero, suc, ◌+◌, ◌<◌, Bool, true, false, List, [], ◌∷◌, ◌≢◌}
use Rattle.equations.specs.Equations.{Equations}
use Rattle.equations.specs.Reach.{Reach, Uses, WholeInstance, Least}
use Rattle.table_model.specs.declared.record.State.TheVariants.{Idle}
use Rattle.table_model.specs.declared.row.Mark.TheVariants.{Untouched, Final}
use Rattle.table_model.specs.Calls.{Call, close_of, demand_at, Result, Answer, refused, opened, rounded, closed, gave_up, demanded, valued, TableModel}
use Rattle.table_model.specs.Rows.{row}
use Rattle.table_model.specs.Steps.{Step}

-- A call and its answer.
pub record Event (V : Type 0) : Type 0 where
  pub call : Call
  pub answer : Answer V

abbrev pub event : {V : Type 0} → Call → Answer V → Event V
event c a = record { call = c; answer = a }

-- The calls of a run, the newest first.
abbrev pub Log : Type 0 → Type 0
Log V = List (Event V)

-- Calls from a table on, each a step of the same system; the newest first.
pub data Run {V : Type 0} (bot : V) (same : V → V → Bool) (e : Equations V) (begin : TableModel V) : Log V → TableModel V → Type 0 where
  none : Run bot same e begin [] begin
  more : {log : Log V} {t u : TableModel V} {c : Call} {a : Answer V} →
      Run bot same e begin log t → Step bot same e t.state t.rows c a u → Run bot same e begin (event c a ∷ log) u

-- A table to begin with: idle; its final rows are closed under reach, whole, and at the values of every least solution; every other row is untouched at the bottom.
pub record Start {V : Type 0} (bot : V) (le : V → V → Type 0) (e : Equations V) (t : TableModel V) : Type 0 where
  pub idle : t.state ≡ Idle
  pub closed : (i j : ℕ) → i < e.size → (t.rows i).mark ≡ Final → Uses e i j → (t.rows j).mark ≡ Final
  pub whole : (i : ℕ) → i < e.size → (t.rows i).mark ≡ Final → WholeInstance e i
  pub least : (v : ℕ → V) → Least le e v → (i : ℕ) → i < e.size → (t.rows i).mark ≡ Final → (t.rows i).value ≡ v i
  pub rest : (i : ℕ) → i < e.size → ((t.rows i).mark ≢ Final) → t.rows i ≡ row Untouched bot

-- A new table: idle, every row untouched at the bottom.
pub record New {V : Type 0} (bot : V) (e : Equations V) (t : TableModel V) : Type 0 where
  pub idle : t.state ≡ Idle
  pub untouched : (i : ℕ) → i < e.size → t.rows i ≡ row Untouched bot

-- Whether the table is idle, as the answers tell: unless an open was answered and, since then, neither a close nor a give-up of more than 0.
abbrev pub idle_now : {V : Type 0} → Answer V → Bool → Bool
idle_now (refused f) was = was
idle_now opened was = false
idle_now (rounded n) was = was
idle_now (closed r) was = true
idle_now (gave_up zero) was = was
idle_now (gave_up (suc n)) was = true
idle_now (demanded r) was = was
idle_now (valued x) was = was

abbrev pub told_idle : {V : Type 0} → Log V → Bool
told_idle [] = true
told_idle (x ∷ log) = idle_now x.answer (told_idle log)

-- The event is in the log.
pub data In {V : Type 0} (x : Event V) : Log V → Type 0 where
  newest : {log : Log V} → In x (x ∷ log)
  older : {y : Event V} {log : Log V} → In x log → In x (y ∷ log)

-- A close or a demand was answered for instance i, with result r.
pub data Finished {V : Type 0} (log : Log V) (i : ℕ) (r : Result V) : Type 0 where
  by_close : In (event (close_of i) (closed r)) log → Finished log i r
  by_demand : In (event (demand_at i) (demanded r)) log → Finished log i r

-- j was final to begin with, or it is in reach of an instance for which a close or a demand was answered.
pub data ToldFinal {V : Type 0} (e : Equations V) (begin : TableModel V) (log : Log V) (j : ℕ) : Type 0 where
  from_begin : (begin.rows j).mark ≡ Final → ToldFinal e begin log j
  from_finished : {i : ℕ} {r : Result V} → Finished log i r → Reach e i j → ToldFinal e begin log j

-- The rounds of an answered close or demand.
abbrev pub rounds_of : {V : Type 0} → Answer V → ℕ
rounds_of (refused f) = 0
rounds_of opened = 0
rounds_of (rounded n) = 0
rounds_of (closed r) = r.rounds
rounds_of (gave_up n) = 0
rounds_of (demanded r) = r.rounds
rounds_of (valued x) = 0

-- The rounds that the closes and demands told, added up.
abbrev pub told_rounds : {V : Type 0} → Log V → ℕ
told_rounds [] = 0
told_rounds (x ∷ log) = rounds_of x.answer + told_rounds log

-- The answered rounds since the last answered open.
abbrev pub since_open : {V : Type 0} → Answer V → ℕ → ℕ
since_open (refused f) n = n
since_open opened n = 0
since_open (rounded m) n = suc n
since_open (closed r) n = n
since_open (gave_up m) n = n
since_open (demanded r) n = n
since_open (valued x) n = n

abbrev pub rounds_since_open : {V : Type 0} → Log V → ℕ
rounds_since_open [] = 0
rounds_since_open (x ∷ log) = since_open x.answer (rounds_since_open log)

-- 1 for an answered round, and 0 for any other answer.
abbrev pub answered_round : {V : Type 0} → Answer V → ℕ
answered_round (refused f) = 0
answered_round opened = 0
answered_round (rounded n) = 1
answered_round (closed r) = 0
answered_round (gave_up n) = 0
answered_round (demanded r) = 0
answered_round (valued x) = 0

-- How many rounds were answered.
abbrev pub answered_rounds : {V : Type 0} → Log V → ℕ
answered_rounds [] = 0
answered_rounds (x ∷ log) = answered_round x.answer + answered_rounds log

-- No open was answered.
abbrev pub NoneOpened : {V : Type 0} → Log V → Type 0
NoneOpened log = (c : Call) → In (event c opened) log → ⊥

-- The instances demanded in a log of demands alone.
pub data Demands {V : Type 0} : Log V → List ℕ → Type 0 where
  no_demand : Demands [] []
  demand : {i : ℕ} {a : Answer V} {log : Log V} {is : List ℕ} → Demands log is → Demands (event (demand_at i) a ∷ log) (i ∷ is)
