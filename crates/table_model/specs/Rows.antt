-- Rows, and what a call does to each of them. Assumes nothing.
use Rattle.std.specs.Prelude.{◌≡◌, ℕ, ◌<◌, ◌≤◌, Bool, true, false, ◌≢◌}
use Rattle.equations.specs.Equations.{Equations}
use Rattle.equations.specs.Reach.{Reach}
use Rattle.equations.specs.Rounds.{swept, changes, members}
use Rattle.table_model.specs.declared.row.Mark.{Mark}
use Rattle.table_model.specs.declared.row.Mark.TheVariants.{Untouched, Pending, Final}
use Rattle.table_model.specs.declared.row.Row.{Row}

-- The rows of a table, by their numbers.
abbrev pub Rows : Type 0 → Type 0
Rows V = ℕ → Row V

abbrev pub is_pending : Mark → Bool
is_pending Untouched = false
is_pending Pending = true
is_pending Final = false

-- Which rows are pending.
abbrev pub pending : {V : Type 0} → Rows V → ℕ → Bool
pending rows j = is_pending (rows j).mark

abbrev pub values : {V : Type 0} → Rows V → ℕ → V
values rows j = (rows j).value

abbrev pub row : {V : Type 0} → Mark → V → Row V
row m x = record { mark = m; value = x }

module _ {V : Type 0} (bot : V) (e : Equations V) where
  -- The rows past the last instance are as they were.
  abbrev pub KeepsPast : Rows V → Rows V → Type 0
  KeepsPast before after = (j : ℕ) → e.size ≤ j → after j ≡ before j

  -- Opening at i: every instance in reach of i that is not final becomes pending at the bottom, and any other pending row untouched at the bottom.
  pub record Opened (i : ℕ) (before after : Rows V) : Type 0 where
    pub final : (j : ℕ) → j < e.size → (before j).mark ≡ Final → after j ≡ before j
    pub reached : (j : ℕ) → j < e.size → ((before j).mark ≢ Final) → Reach e i j → after j ≡ row Pending bot
    pub released : (j : ℕ) → j < e.size → (before j).mark ≡ Pending → (Reach e i j → ⊥) → after j ≡ row Untouched bot
    pub untouched : (j : ℕ) → j < e.size → (before j).mark ≡ Untouched → (Reach e i j → ⊥) → after j ≡ before j
    pub past : KeepsPast before after

  -- A round: each pending row takes, in ascending number, its equation's value over the values that then stand; `count` of them change.
  pub record Rounded (same : V → V → Bool) (before after : Rows V) (count : ℕ) : Type 0 where
    pub marks : (j : ℕ) → (after j).mark ≡ (before j).mark
    pub worked : (j : ℕ) → (after j).value ≡ swept e (pending before) e.size (values before) j
    pub counts : count ≡ changes same e (pending before) e.size (values before)

  -- Closing: each pending row becomes final, with its value.
  pub record MadeFinal (before after : Rows V) : Type 0 where
    pub made : (j : ℕ) → j < e.size → (before j).mark ≡ Pending → after j ≡ row Final (before j).value
    pub kept : (j : ℕ) → j < e.size → ((before j).mark ≢ Pending) → after j ≡ before j
    pub past : KeepsPast before after

  -- Giving up: each pending row becomes untouched, at the bottom.
  pub record Released (before after : Rows V) : Type 0 where
    pub released : (j : ℕ) → j < e.size → (before j).mark ≡ Pending → after j ≡ row Untouched bot
    pub kept : (j : ℕ) → j < e.size → ((before j).mark ≢ Pending) → after j ≡ before j
    pub past : KeepsPast before after

  -- How many rows are pending.
  abbrev pub pending_count : Rows V → ℕ
  pending_count rows = members (pending rows) e.size
