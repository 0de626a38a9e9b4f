-- The theory of a lawful system over a lattice. Assumes nothing.
use Rattle.std.proofs.Common.{◌≡◌, ℕ, Bool, ◌↔◌}
use Rattle.lattices.specs.Laws.{LatticeLaws}
use Rattle.equations.specs.Equations.{Equations, Lawful}
use Rattle.equations.specs.Theory.{Theory}
use Rattle.equations.proofs.Decided.{reach_decided, whole_decided}
use Rattle.equations.proofs.Monotone.{lawful_by}
use Rattle.equations.proofs.Least.{solution, solution_least, least_unique}
use Rattle.equations.proofs.Rising.{rounds_rise, bottom_rising}
use Rattle.equations.proofs.ToLeast.{rounds_to_least, bottom_low}

pub theory : {V : Type 0} {bot : V} {le : V → V → Type 0} {lub : V → V → V} {same : V → V → Bool} {height : ℕ} {rank : V → ℕ} → LatticeLaws bot le lub same height rank → (e : Equations V) → Lawful bot le e → Theory bot le same height e
theory laws e lawful =
    record {
      reach_decided = reach_decided e lawful;
      whole_decided = whole_decided e lawful;
      least_exists = (solution laws e lawful.step_mono, solution_least laws e lawful);
      least_unique = least_unique laws e;
      rounds_rise = λ s w bottom. rounds_rise laws e lawful s w (bottom_rising laws e lawful s w bottom);
      rounds_to_least = λ v least s w bottom closed. rounds_to_least laws e lawful v least s w (bottom_low laws e lawful v least s w bottom, closed);
    }

-- The same, from rules over a bottom and an order that agree with the lattice's.
pub theory_by : {V : Type 0} {bot least : V} {le order : V → V → Type 0} {lub : V → V → V} {same : V → V → Bool} {height : ℕ} {rank : V → ℕ} → LatticeLaws bot le lub same height rank → (e : Equations V) → least ≡ bot → ((x y : V) → order x y ↔ le x y) → Lawful least order e → Theory bot le same height e
theory_by laws e bottom order lawful = theory laws e (lawful_by bottom order lawful)
