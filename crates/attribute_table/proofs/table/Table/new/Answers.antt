-- The told height is the height if that is below the limit. The laws hold of every lawful system.
use Rattle.std.proofs.Common.{◌≡◌, ℕ, Bool, ◌↔◌, arith}
use Rattle.lattices.specs.Laws.{LatticeLaws}
use Rattle.equations.specs.Equations.{Equations, Lawful}
use Rattle.equations.proofs.Monotone.{lawful_by}
use Rattle.table_model.specs.Laws.{TableLaws}
use Rattle.table_model.proofs.All.{table_laws_by}
use Rattle.table_model.proofs.Determined.{calls_are_determined}
use Rattle.attribute_table.proofs.Each.{each_lent}
use Rattle.attribute_table.proofs.Outcomes.{made_new}
use Rattle.attribute_table.proofs.table.Table.new.Goals as goal

laws_hold : {V : Type 0} {bot least : V} {le order : V → V → Type 0} {lub : V → V → V} {same : V → V → Bool} {height : ℕ} {rank : V → ℕ} →
    LatticeLaws bot le lub same height rank → (e : Equations V) → least ≡ bot → ((x y : V) → order x y ↔ le x y) → Lawful least order e → TableLaws bot le same height e
laws_hold laws e bottom order lawful = table_laws_by laws e bottom order lawful (calls_are_determined laws e (lawful_by bottom order lawful))

pub returns-then-told_height-eq-TOLD_HEIGHT_LIMIT-clause-laws : goal.returns-then-told_height-eq-TOLD_HEIGHT_LIMIT-clause-laws
returns-then-told_height-eq-TOLD_HEIGHT_LIMIT-clause-laws g c = laws_hold g.S.Value.Lattice.laws _ c.size-size.ensures.bottom c.size-size.ensures.order (g.S.System.lawful c.args.system.now)

pub returns-in_err-check_length-clause-laws : goal.returns-in_err-check_length-clause-laws
returns-in_err-check_length-clause-laws g c = laws_hold g.S.Value.Lattice.laws _ c.size-size.ensures.bottom c.size-size.ensures.order (g.S.System.lawful c.args.system.now)

pub returns : goal.returns
returns g c =
    record {
      made = made_new (omega arith) (omega (arith, c.in_ok-check_length.ensures.ok)) (each_lent _ c.size-size.ensures.size _ (omega (arith, c.in_ok-check_length.ensures.ok)) c.clear.ensures);
      laws = laws_hold g.S.Value.Lattice.laws _ c.size-size.ensures.bottom c.size-size.ensures.order (g.S.System.lawful c.args.system.now);
    }
