-- A call that keeps the table, and one that changes it. Assumes nothing.
use Rattle.std.proofs.Common.{◌≡◌, ℕ, ◌+◌, ◌-◌, ◌≤◌, Bool, List, length, drop, sym, refl, ap, ◌∙◌, arith}
use Rattle.std.proofs.lemmas.List.{ext_get_or, get_or-drop, length-drop}
use Rattle.equations.specs.Equations.{Equations}
use Rattle.table_model.specs.Calls.{Call, Answer, refused}
use Rattle.table_model.specs.Rows.{row}
use Rattle.table_model.specs.Steps.{Step, table}
use Rattle.table_model.specs.declared.fault.TableFault.{TableFault}
use Rattle.table_model.specs.declared.record.State.{State}
use Rattle.table_model.specs.declared.row.Mark.TheVariants.{Untouched}
use Rattle.table_model.specs.declared.row.Row.{Row}
use Rattle.attribute_table.specs.Lent.{rows_of, Called}

module _ {V : Type 0} (bot : V) where
  -- Lists of equal length that agree from number n on.
  pub drop_same : (n : ℕ) (rows after : List (Row V)) → length after ≡ length rows → ((j : ℕ) → n ≤ j → rows_of bot after j ≡ rows_of bot rows j) → drop n after ≡ drop n rows
  drop_same n rows after len past =
      ext_get_or (row Untouched bot) (drop n after) (drop n rows) (length-drop n after ∙ ap (λ k. k - n) len ∙ sym (length-drop n rows))
      (λ i _. get_or-drop n after i (row Untouched bot) ∙ past (n + i) (omega arith) ∙ sym (get_or-drop n rows i (row Untouched bot)))

-- Too little is lent.
pub not_lent : {V : Type 0} {bot : V} {same : V → V → Bool} {e : Equations V} {enough : Type 0} {short : Answer V} {s : State} {rows : List (Row V)} {c : Call} →
    (enough → ⊥) → Called bot same e enough short s rows c short s rows
not_lent not =
    record {
      too_short = λ _. (refl, refl, refl);
      steps = λ lent. absurd (not lent);
      refusal = λ _ _. (refl, refl);
    }

module _ {V : Type 0} {bot : V} {same : V → V → Bool} {e : Equations V} {enough : Type 0} {short : Answer V} {s : State} {rows : List (Row V)} {c : Call} {a : Answer V} (lent : enough) where
  pub kept : Step bot same e s (rows_of bot rows) c a (table s (rows_of bot rows)) → Called bot same e enough short s rows c a s rows
  kept step =
      record {
        too_short = λ not. absurd (not lent);
        steps = λ _. record { step = step; length = refl; past = refl };
        refusal = λ _ _. (refl, refl);
      }

  pub altered : {t : State} {after : List (Row V)} → ((f : TableFault) → a ≡ refused f → ⊥) → length after ≡ length rows →
      ((j : ℕ) → e.size ≤ j → rows_of bot after j ≡ rows_of bot rows j) →
      Step bot same e s (rows_of bot rows) c a (table t (rows_of bot after)) → Called bot same e enough short s rows c a t after
  altered answered len past step =
      record {
        too_short = λ not. absurd (not lent);
        steps = λ _. record { step = step; length = len; past = drop_same bot e.size rows _ len past };
        refusal = λ f is. absurd (answered f is);
      }
