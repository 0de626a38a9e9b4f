-- The laws of the table, from the law that its calls are determined. Assumes nothing.
use Rattle.std.proofs.Common.{◌≡◌, ℕ, Bool, ◌↔◌}
use Rattle.lattices.specs.Laws.{LatticeLaws}
use Rattle.equations.specs.Equations.{Equations, Lawful}
use Rattle.equations.proofs.Monotone.{lawful_by}
use Rattle.table_model.specs.Laws.{CallsAreDetermined, TableLaws}
use Rattle.table_model.proofs.LeastAnswers.{answers_are_least}
use Rattle.table_model.proofs.Commuting.{new_is_start, demands_commute, starts_commute}
use Rattle.table_model.proofs.Bounds.{rounds_are_bounded}

pub table_laws : {V : Type 0} {bot : V} {le : V → V → Type 0} {lub : V → V → V} {same : V → V → Bool} {height : ℕ} {rank : V → ℕ} → LatticeLaws bot le lub same height rank → (e : Equations V) → Lawful bot le e → CallsAreDetermined bot le same height e → TableLaws bot le same height e
table_laws laws e lawful determined =
    record {
      new_is_start = new_is_start _ e;
      answers_are_least = answers_are_least laws e lawful;
      demands_commute = demands_commute laws e lawful;
      starts_commute = starts_commute laws e lawful;
      rounds_are_bounded = rounds_are_bounded laws e lawful;
      calls_are_determined = determined;
    }

-- The same, from rules over a bottom and an order that agree with the lattice's.
pub table_laws_by : {V : Type 0} {bot least : V} {le order : V → V → Type 0} {lub : V → V → V} {same : V → V → Bool} {height : ℕ} {rank : V → ℕ} → LatticeLaws bot le lub same height rank → (e : Equations V) → least ≡ bot → ((x y : V) → order x y ↔ le x y) → Lawful least order e → CallsAreDetermined bot le same height e → TableLaws bot le same height e
table_laws_by laws e bottom order lawful = table_laws laws e (lawful_by bottom order lawful)
