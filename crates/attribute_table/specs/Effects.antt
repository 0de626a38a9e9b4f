-- What calls do to rows that are lent as a list. Assumes nothing.
use Rattle.std.specs.Prelude.{◌≡◌, ℕ, ◌<◌, ◌≤◌, Bool, true, false, cond, count_by, List, length, ◌≢◌}
use Rattle.equations.specs.Equations.{Equations}
use Rattle.equations.specs.Rounds.{turn, changed, swept, changes, rounds, round_changes}
use Rattle.table_model.specs.Calls.{counted}
use Rattle.table_model.specs.Rows.{row, is_pending, pending, values}
use Rattle.table_model.specs.declared.row.Mark.{Mark}
use Rattle.table_model.specs.declared.row.Mark.TheVariants.{Untouched, Pending, Final}
use Rattle.table_model.specs.declared.row.Row.{Row}
use Rattle.attribute_table.specs.Lent.{rows_of}

-- A pending row is replaced by one that R relates to it; another stays.
pub record PendingReplaced {V : Type 0} (R : Row V → Row V → Type 0) (before after : Row V) : Type 0 where
  pub pending : before.mark ≡ Pending → R before after
  pub kept : (before.mark ≢ Pending) → after ≡ before

-- How many rows of a list are pending.
abbrev pub pending_rows : {V : Type 0} → List (Row V) → ℕ
pending_rows rows = count_by (λ r. is_pending r.mark) rows

module _ {V : Type 0} (bot : V) where
  -- The row with mark m when a session opens, whether its instance is in reach or not.
  abbrev pub opened_as : Mark → Bool → Row V → Row V
  opened_as Final reached r = r
  opened_as Pending true r = row Pending bot
  opened_as Untouched true r = row Pending bot
  opened_as Pending false r = row Untouched bot
  opened_as Untouched false r = r

  abbrev pub opened_row : Bool → Row V → Row V
  opened_row reached r = opened_as r.mark reached r

  -- The row when a session is closed.
  abbrev pub closed_as : Mark → Row V → Row V
  closed_as Untouched r = r
  closed_as Pending r = row Final r.value
  closed_as Final r = r

  abbrev pub closed_row : Row V → Row V
  closed_row r = closed_as r.mark r

  -- The row when a session is given up.
  abbrev pub released_as : Mark → Row V → Row V
  released_as Untouched r = r
  released_as Pending r = row Untouched bot
  released_as Final r = r

  abbrev pub released_row : Row V → Row V
  released_row r = released_as r.mark r

  -- Each of the first n rows is replaced by one that R relates to its number and to it; the others are as they were.
  pub record EachReplaced (n : ℕ) (R : ℕ → Row V → Row V → Type 0) (before after : List (Row V)) : Type 0 where
    pub first : (j : ℕ) → j < n → R j (rows_of bot before j) (rows_of bot after j)
    pub past : (j : ℕ) → n ≤ j → rows_of bot after j ≡ rows_of bot before j
    pub length : length after ≡ length before

  -- Each of the first n rows is changed by f, which also gets its number; the others are as they were.
  abbrev pub EachRow : ℕ → (ℕ → Row V → Row V) → List (Row V) → List (Row V) → Type 0
  EachRow n f = EachReplaced n (λ j r x. x ≡ f j r)

  module _ (same : V → V → Bool) (e : Equations V) where
    -- Row i took its equation's value, if it is pending; `change` tells whether that is another value.
    pub record EvaluatedAt (i : ℕ) (before after : List (Row V)) (change : Bool) : Type 0 where
      pub marks : (j : ℕ) → (rows_of bot after j).mark ≡ (rows_of bot before j).mark
      pub worked : (j : ℕ) → (rows_of bot after j).value ≡ turn e (pending (rows_of bot before)) i (values (rows_of bot before)) j
      pub counts : cond change 1 0 ≡ changed same e (pending (rows_of bot before)) i (values (rows_of bot before))
      pub length : length after ≡ length before

    -- The pending rows below n took their equations' values, in ascending number; `count` of them changed.
    pub record Evaluated (n : ℕ) (before after : List (Row V)) (count : ℕ) : Type 0 where
      pub marks : (j : ℕ) → (rows_of bot after j).mark ≡ (rows_of bot before j).mark
      pub worked : (j : ℕ) → (rows_of bot after j).value ≡ swept e (pending (rows_of bot before)) n (values (rows_of bot before)) j
      pub counts : count ≡ changes same e (pending (rows_of bot before)) n (values (rows_of bot before))
      pub length : length after ≡ length before

    -- Rounds until one changes nothing: k of them change something, and the next one nothing.
    pub record Iterated (before after : List (Row V)) (count : ℕ) : Type 0 where
      pub k : ℕ
      pub change : (j : ℕ) → j < k → 0 < round_changes same e (pending (rows_of bot before)) j (values (rows_of bot before))
      pub settle : round_changes same e (pending (rows_of bot before)) k (values (rows_of bot before)) ≡ 0
      pub marks : (j : ℕ) → (rows_of bot after j).mark ≡ (rows_of bot before j).mark
      pub worked : (j : ℕ) → (rows_of bot after j).value ≡ rounds e (pending (rows_of bot before)) k (values (rows_of bot before)) j
      pub counts : count ≡ counted k
      pub length : length after ≡ length before

    -- Every pending row is at the bottom.
    abbrev pub PendingAtBottom : List (Row V) → Type 0
    PendingAtBottom rows = (j : ℕ) → j < e.size → pending (rows_of bot rows) j ≡ true → (rows_of bot rows j).value ≡ bot
