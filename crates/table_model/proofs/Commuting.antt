-- The same demands in two orders have the same outcomes, and leave the same final rows. Assumes nothing.
use Rattle.std.proofs.Common.{◌≡◌, ℕ, ◌<◌, Bool, List, sym, refl, ap, ◌∙◌, subst, ⊎_elim, arith}
use Rattle.std.specs.List.Sorted.{IsPermutation}
use Rattle.std.proofs.lemmas.List.Sorted.{IsPermutation-sym}
use Rattle.std.proofs.ByRecursion.{all_shuffled}
use Rattle.lattices.specs.Laws.{LatticeLaws}
use Rattle.equations.specs.Equations.{Equations, Lawful}
use Rattle.equations.proofs.Least.{solution, solution_least}
use Rattle.table_model.specs.declared.row.Mark.TheVariants.{Final}
use Rattle.table_model.specs.Calls.{demand_at, close_of, Result, Answer, closed, demanded, TableModel}
use Rattle.table_model.specs.Laws.{SameOutcome, both_value, SameFinal, DemandsCommute, DemandsCommuteFromStarts}
use Rattle.table_model.specs.Runs.{Log, event, In, Run, Start, New, by_close, by_demand, ToldFinal, from_begin, from_finished, Demands, no_demand, demand}
use Rattle.table_model.proofs.Marks.{untouched_not_final}
use Rattle.table_model.proofs.Told.{in_none, in_cases}
use Rattle.table_model.proofs.Invariant.{holds}
use Rattle.table_model.proofs.Bounds.{told_final}
use Rattle.table_model.proofs.Demanded.{Demanded, all_demanded, demanded_all, outcomes_same, outcomes}

pub new_is_start : {V : Type 0} {bot : V} (le : V → V → Type 0) (e : Equations V) (t : TableModel V) → New bot e t → Start bot le e t × ((j : ℕ) → j < e.size → (t.rows j).mark ≡ Final → ⊥)
new_is_start le e t new =
    let no : (i : ℕ) → i < e.size → (t.rows i).mark ≡ Final → ⊥ = λ i l. untouched_not_final (t.rows i).mark (ap (λ x. x.mark) (new.untouched i l)) in (
      record {
        idle = new.idle;
        closed = λ i j l p u. absurd (no i l p);
        whole = λ i l p. absurd (no i l p);
        least = λ v least i l p. absurd (no i l p);
        rest = λ i l n. new.untouched i l;
      },
      no,
    )

-- No close is in a log of demands.
no_close : {V : Type 0} {log : Log V} {is : List ℕ} {i : ℕ} {r : Result V} → Demands log is → In (event (close_of i) (closed r)) log → ⊥
no_close no_demand p = in_none p
no_close (demand d) p =
    ⊎_elim (λ same. let q = ap (λ x. x.call) same in let z : ◌≡◌ {A = ℕ} 0 1 = cc in omega arith) (no_close d) (in_cases p)

same_value : {V : Type 0} {r : Result V} {b : Answer V} → SameOutcome (demanded r) b → (s : Result V) × (b ≡ demanded s)
same_value (both_value {s = s} p) = (s, refl)

module _ {V : Type 0} {bot : V} {le : V → V → Type 0} {lub : V → V → V} {same : V → V → Bool} {height : ℕ} {rank : V → ℕ} (laws : LatticeLaws bot le lub same height rank) (e : Equations V) (lawful : Lawful bot le e) where
  abbrev v : ℕ → V
  v = solution laws e lawful.step_mono

  module _ {begin₁ begin₂ : TableModel V} (start₁ : Start bot le e begin₁) (start₂ : Start bot le e begin₂) (finals : SameFinal bot le same height e begin₁ begin₂) {log₁ log₂ : Log V} {t₁ t₂ : TableModel V} (run₁ : Run bot same e begin₁ log₁ t₁) (run₂ : Run bot same e begin₂ log₂ t₂) {is₁ is₂ : List ℕ} (d₁ : Demands log₁ is₁) (d₂ : Demands log₂ is₂) (shuffled : IsPermutation is₁ is₂) where
    same_outcome : (i : ℕ) (a b : Answer V) → In (event (demand_at i) a) log₁ → In (event (demand_at i) b) log₂ → SameOutcome a b
    same_outcome i a b p q =
        outcomes_same ((outcomes laws e lawful v (solution_least laws e lawful) start₁ run₁ d₁).1 i a p)
        ((outcomes laws e lawful v (solution_least laws e lawful) start₂ run₂ d₂).1 i b q)

    also_demanded : {i : ℕ} → Demanded log₁ i → Demanded log₂ i
    also_demanded =
        demanded_all (Demanded log₂) d₁ (all_shuffled (Demanded log₂) is₂ is₁ (IsPermutation-sym is₁ is₂ shuffled) (all_demanded d₂))

    also_told : {j : ℕ} → j < e.size → ToldFinal e begin₁ log₁ j → ToldFinal e begin₂ log₂ j
    also_told {j = j} l (from_begin p) = from_begin ((finals j l).0 p)
    also_told l (from_finished (by_close p) r) = absurd (no_close d₁ p)
    also_told l (from_finished {i = i} {r = a} (by_demand p) r) =
        let b = also_demanded (demanded a, p) in
        let s = same_value (same_outcome i (demanded a) b.0 p b.1) in
        from_finished (by_demand (subst (λ x. In (event (demand_at i) x) log₂) s.1 b.1)) r

    also_final : (j : ℕ) → j < e.size → (t₁.rows j).mark ≡ Final → (t₂.rows j).mark ≡ Final
    also_final j l p =
        let h₁ = holds laws e lawful v (solution_least laws e lawful) begin₁ start₁ run₁ in
        let h₂ = holds laws e lawful v (solution_least laws e lawful) begin₂ start₂ run₂ in
        told_final e lawful h₂.finals h₂.told l (also_told l (h₁.told.told j l p))

  pub starts_commute : DemandsCommuteFromStarts bot le same height e
  starts_commute begin₁ begin₂ start₁ start₂ finals log₁ log₂ t₁ t₂ run₁ run₂ is₁ is₂ d₁ d₂ shuffled =
      let h₁ = holds laws e lawful v (solution_least laws e lawful) begin₁ start₁ run₁ in
      let h₂ = holds laws e lawful v (solution_least laws e lawful) begin₂ start₂ run₂ in
      let over = also_final start₁ start₂ finals run₁ run₂ d₁ d₂ shuffled in (
        same_outcome start₁ start₂ finals run₁ run₂ d₁ d₂ shuffled,
        λ j l. (over j l, also_final start₂ start₁ (λ j l. ((finals j l).1, (finals j l).0)) run₂ run₁ d₂ d₁ (IsPermutation-sym is₁ is₂ shuffled) j l),
        λ j l p. h₁.finals.at j l p ∙ sym (h₂.finals.at j l (over j l p)),
      )

  pub demands_commute : DemandsCommute bot le same height e
  demands_commute begin₁ begin₂ new₁ new₂ =
      let s₁ = new_is_start le e begin₁ new₁ in
      let s₂ = new_is_start le e begin₂ new₂ in
      starts_commute begin₁ begin₂ s₁.0 s₂.0 (λ j l. (λ p. absurd (s₁.1 j l p), λ p. absurd (s₂.1 j l p)))
