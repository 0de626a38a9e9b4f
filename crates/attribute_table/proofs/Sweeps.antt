-- A loop that gives each pending row its equation's value. Assumes nothing.
use Rattle.std.proofs.Common.{◌≡◌, ℕ, ◌+◌, Bool, cond, List, ap, ◌∙◌, add-one, arith}
use mathlib.Core.Path.{fun_ext}
use Rattle.equations.specs.Equations.{Equations}
use Rattle.equations.specs.Rounds.{turn, swept, changed}
use Rattle.table_model.specs.Rows.{is_pending, pending, values}
use Rattle.table_model.specs.declared.row.Row.{Row}
use Rattle.attribute_table.specs.Effects.{EvaluatedAt, Evaluated}
use Rattle.attribute_table.specs.Lent.{rows_of}

module _ {V : Type 0} (bot : V) where
  abbrev pub SameMarks : List (Row V) → List (Row V) → Type 0
  SameMarks before now = (j : ℕ) → (rows_of bot now j).mark ≡ (rows_of bot before j).mark

  pub pending_same : (before now : List (Row V)) → SameMarks before now → pending (rows_of bot now) ≡ pending (rows_of bot before)
  pending_same before now h = fun_ext (λ j. ap is_pending (h j))

  module _ (same : V → V → Bool) (e : Equations V) where
    -- Row n has its turn.
    pub evaluated_more : {n count m : ℕ} {before now after : List (Row V)} {change : Bool} → Evaluated bot same e n before now count → EvaluatedAt bot same e n now after change → m ≡ count + cond change 1 0 → Evaluated bot same e (n + 1) before after m
    evaluated_more {n} {before = before} {now} {change = change} h one more =
        let s : ℕ → Bool = pending (rows_of bot before) in
        let w : ℕ → V = swept e s n (values (rows_of bot before)) in
        let p : pending (rows_of bot now) ≡ s = pending_same before now h.marks in
        let v : values (rows_of bot now) ≡ w = fun_ext h.worked in
        let here : ◌≡◌ {A = ℕ} (cond change 1 0) (changed same e s n w) = one.counts ∙ (λ d. changed same e (p d) n (v d)) in
        rw (add-one n) record {
          marks = λ j. one.marks j ∙ h.marks j;
          worked = λ j. one.worked j ∙ (λ d. turn e (p d) n (v d) j);
          counts = omega (arith, more, here, h.counts);
          length = one.length ∙ h.length;
        }
