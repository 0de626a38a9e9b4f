-- The lowest dangling operand, by instances and operands in ascending number. Assumes nothing.
use Rattle.std.proofs.Common.{◌≡◌, ℕ, ◌<◌, List, length, Err, ⊎_elim, arith}
use Rattle.references.specs.declared.Dangling.{Dangling}
use Rattle.equations.specs.Equations.{Equations, Lawful}
use Rattle.equations.specs.Reach.{Reach, Whole}
use Rattle.equations.proofs.Paths.{reach_within}
use Rattle.table_model.specs.declared.fault.DanglingOperand.{DanglingOperand}
use Rattle.table_model.specs.Calls.{LowestDangling}
use Rattle.reach_search.specs.Marks.{Marked}
use Rattle.reach_search.specs.Searched.{MarksReach}
use Rattle.reach_search.specs.Dangles.{NoneDangles, LowestOf}

module _ {V : Type 0} (e : Equations V) where
  -- None of the first k operands of i dangles.
  abbrev pub NoneBelow : ℕ → ℕ → Type 0
  NoneBelow i k = (o : ℕ) (x : Dangling) → o < k → e.operand i o ≡ Err x → ⊥

  -- None of the first k instances is one of P with a dangling operand.
  abbrev pub NoneOfFirst : (ℕ → Type 0) → ℕ → Type 0
  NoneOfFirst P k = NoneDangles e (λ j. (j < k) × P j)

  -- The marked instances are those in reach.
  module _ {bot : V} {le : V → V → Type 0} (lawful : Lawful bot le e) (i : ℕ) (l : i < e.size) (marks : List ℕ) (size : length marks ≡ e.size) (reach : MarksReach e i marks) where
    marked : (j : ℕ) → Reach e i j → Marked marks j
    marked j r =
        let m = reach_within e lawful l r in
        (omega (arith, m, size), ⊎_elim (λ h. h.0) (λ h. absurd (h.1 r)) (reach j m))

    reached : (j : ℕ) → Marked marks j → Reach e i j
    reached j m =
        ⊎_elim (λ h. h.1) (λ h. absurd (omega (arith, h.0, m.1))) (reach j (omega (arith, m.0, size)))

    pub whole_from_marks : NoneDangles e (Marked marks) → Whole e i
    whole_from_marks none w = none w.0 w.1 w.2 (marked w.0 w.3) w.4

    pub lowest_from_marks : (d : DanglingOperand) → LowestOf e (Marked marks) d → LowestDangling e i d
    lowest_from_marks d f =
        record {
          reaches = reached d.instance f.member;
          dangles = f.dangles;
          lowest = λ j o x r. f.lowest j o x (marked j r);
        }
