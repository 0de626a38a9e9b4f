-- The laws of the attribute table over every list of calls. Assumes nothing.
use Rattle.std.specs.Prelude.{◌≡◌, ℕ, suc, ◌+◌, ◌*◌, ◌<◌, ◌≤◌, Bool, true, ◌↔◌, List, ◌≢◌}
use Rattle.std.specs.List.Sorted.{IsPermutation}
use Rattle.equations.specs.Equations.{Equations}
use Rattle.equations.specs.Reach.{ReachesDangling, WholeInstance, Least}
use Rattle.equations.specs.Rounds.{members}
use Rattle.table_model.specs.declared.fault.TableFault.{TableFault}
use Rattle.table_model.specs.declared.record.State.{State}
use Rattle.table_model.specs.declared.record.State.TheVariants.{Iterating}
use Rattle.table_model.specs.declared.record.Evaluation.{Evaluation}
use Rattle.table_model.specs.declared.row.Mark.TheVariants.{Final}
use Rattle.table_model.specs.Calls.{Call, open_at, round_of, demand_at, read_at, Result, Answer, refused, opened, rounded, demanded, valued, TableModel}
use Rattle.table_model.specs.Rows.{Rows, pending_count}
use Rattle.table_model.specs.Runs.{Log, event, Run, Start, New, told_idle, In, Finished, ToldFinal, told_rounds, rounds_since_open, answered_rounds, NoneOpened, Demands}
use Rattle.table_model.specs.Steps.{Step}

abbrev pub Refused : {V : Type 0} → Answer V → Type 0
Refused a = (f : TableFault) × (a ≡ refused f)

-- The same value, or the same refusal with all that it names.
pub data SameOutcome {V : Type 0} : Answer V → Answer V → Type 0 where
  both_value : {r s : Result V} → r.value ≡ s.value → SameOutcome (demanded r) (demanded s)
  both_refused : {f : TableFault} → SameOutcome (refused f) (refused f)

-- The same record, and the same rows.
pub record SameTable {V : Type 0} (t u : TableModel V) : Type 0 where
  pub state : t.state ≡ u.state
  pub rows : (j : ℕ) → t.rows j ≡ u.rows j

module _ {V : Type 0} (bot : V) (le : V → V → Type 0) (same : V → V → Bool) (height : ℕ) (e : Equations V) where
  -- The value is that of the whole instance i in every least solution.
  abbrev pub IsLeast : ℕ → V → Type 0
  IsLeast i x = WholeInstance e i × ((v : ℕ → V) → Least le e v → x ≡ v i)

  -- There is a least solution, and the values that closes, demands and reads answered are its values, at whole instances.
  -- When the table is idle, as told by the calls, a demand for an instance is refused exactly when it reaches a dangling name.
  pub record AnswersAreLeast : Type 0 where
    pub exists : (v : ℕ → V) × Least le e v
    pub finished : (begin : TableModel V) → Start bot le e begin → (log : Log V) (t : TableModel V) → Run bot same e begin log t →
        (i : ℕ) (r : Result V) → Finished log i r → IsLeast i r.value
    pub read : (begin : TableModel V) → Start bot le e begin → (log : Log V) (t : TableModel V) → Run bot same e begin log t →
        (i : ℕ) (x : V) → In (event (read_at i) (valued x)) log → IsLeast i x
    pub demand_refused : (begin : TableModel V) → Start bot le e begin → (log : Log V) (t : TableModel V) → Run bot same e begin log t →
        told_idle log ≡ true → (i : ℕ) → i < e.size → (a : Answer V) (u : TableModel V) → Step bot same e t.state t.rows (demand_at i) a u →
        Refused a ↔ ReachesDangling e i

  -- The same rows are final in both tables.
  abbrev pub SameFinal : TableModel V → TableModel V → Type 0
  SameFinal t u = (j : ℕ) → j < e.size → ((t.rows j).mark ≡ Final) ↔ ((u.rows j).mark ≡ Final)

  -- The runs answer every demand alike, and end with the same final rows, which have the same values.
  abbrev pub SameDemanded : Log V → Log V → TableModel V → TableModel V → Type 0
  SameDemanded log₁ log₂ t₁ t₂ =
      ((i : ℕ) (a b : Answer V) → In (event (demand_at i) a) log₁ → In (event (demand_at i) b) log₂ → SameOutcome a b)
      × SameFinal t₁ t₂
      × ((j : ℕ) → j < e.size → (t₁.rows j).mark ≡ Final → (t₁.rows j).value ≡ (t₂.rows j).value)

  -- What holds where two tables get the same demands in any two orders.
  abbrev pub CommuteFrom : TableModel V → TableModel V → Type 0
  CommuteFrom begin₁ begin₂ =
      (log₁ log₂ : Log V) (t₁ t₂ : TableModel V) → Run bot same e begin₁ log₁ t₁ → Run bot same e begin₂ log₂ t₂ →
      (is₁ is₂ : List ℕ) → Demands log₁ is₁ → Demands log₂ is₂ → IsPermutation is₁ is₂ → SameDemanded log₁ log₂ t₁ t₂

  -- Demands commute from any two new tables.
  abbrev pub DemandsCommute : Type 0
  DemandsCommute = (begin₁ begin₂ : TableModel V) → New bot e begin₁ → New bot e begin₂ → CommuteFrom begin₁ begin₂

  -- The same of two tables that begin with the same final rows.
  abbrev pub DemandsCommuteFromStarts : Type 0
  DemandsCommuteFromStarts =
      (begin₁ begin₂ : TableModel V) → Start bot le e begin₁ → Start bot le e begin₂ → SameFinal begin₁ begin₂ → CommuteFrom begin₁ begin₂

  -- The rounds that are told add up to at most the number of final instances times the height and one.
  -- In a session the answered rounds that did not settle it are at most its pending instances times the height.
  pub record RoundsAreBounded : Type 0 where
    pub told : (begin : TableModel V) → Start bot le e begin → (log : Log V) (t : TableModel V) → Run bot same e begin log t →
        (s : ℕ → Bool) × ((j : ℕ) → j < e.size → (s j ≡ true) ↔ ToldFinal e begin log j) × (told_rounds log ≤ members s e.size * (height + 1))
    pub session : (begin : TableModel V) → Start bot le e begin → (log : Log V) (t : TableModel V) → Run bot same e begin log t →
        (x : Evaluation) → t.state ≡ Iterating x → rounds_since_open log ≤ pending_count bot e t.rows * height
    -- After an answered open that made N rows pending, and with no answered open since, an answered round that changes a row
    -- is one of the first N × H, with H the height: the (N × H + 1)-th answered round at the latest changes nothing.
    pub after_open : (begin : TableModel V) → Start bot le e begin → (log : Log V) (t : TableModel V) → Run bot same e begin log t →
        (i : ℕ) (u : TableModel V) → Step bot same e t.state t.rows (open_at i) opened u →
        (later : Log V) (w : TableModel V) → Run bot same e u later w → NoneOpened later →
        (j n : ℕ) (x : TableModel V) → Step bot same e w.state w.rows (round_of j) (rounded (suc n)) x →
        answered_rounds later < pending_count bot e u.rows * height

  -- At every table and call there is exactly one answer and one table after.
  pub record CallsAreDetermined : Type 0 where
    pub some : (s : State) (rows : Rows V) (c : Call) → (a : Answer V) × (u : TableModel V) × Step bot same e s rows c a u
    pub one : (s : State) (rows : Rows V) (c : Call) (a b : Answer V) (t u : TableModel V) →
        Step bot same e s rows c a t → Step bot same e s rows c b u → (a ≡ b) × SameTable t u

  pub record TableLaws : Type 0 where
    -- A new table is a start, and no row of it is final.
    pub new_is_start : (t : TableModel V) → New bot e t → Start bot le e t × ((j : ℕ) → j < e.size → (t.rows j).mark ≢ Final)
    pub answers_are_least : AnswersAreLeast
    pub demands_commute : DemandsCommute
    pub starts_commute : DemandsCommuteFromStarts
    pub rounds_are_bounded : RoundsAreBounded
    pub calls_are_determined : CallsAreDetermined
