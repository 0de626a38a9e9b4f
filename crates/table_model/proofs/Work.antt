-- The work of a demand ends, and in one way. Assumes nothing.
use Rattle.std.proofs.Common.{◌≡◌, ℕ, suc, ◌*◌, ◌<◌, ◌≤◌, Bool, sym, refl, ap, ◌∙◌, subst, ⊎_elim, arith}
use mathlib.Core.Path.{fun_ext}
use Rattle.std.proofs.lemmas.Bool.{cases_lt, cases_eq, cases_order}
use Rattle.lattices.specs.Laws.{LatticeLaws}
use Rattle.equations.specs.Equations.{Equations, Lawful}
use Rattle.equations.specs.Rounds.{rounds, round_changes}
use Rattle.equations.proofs.Rising.{rounds_rise, bottom_rising}
use Rattle.table_model.specs.Calls.{Result, counted}
use Rattle.table_model.specs.Rows.{Rows, pending, values, row, MadeFinal, pending_count}
use Rattle.table_model.specs.Steps.{Worked}
use Rattle.table_model.proofs.Lowest.{lowest_or_none}
use Rattle.table_model.proofs.RowsAfter.{row_same, opened_rows, opened_some, opened_one, opened_bottom, made_final_some, made_final_one}

-- c is 0 at k and not before.
abbrev FirstZero : (ℕ → ℕ) → ℕ → Type 0
FirstZero c k = ((j : ℕ) → j < k → 0 < c j) × (c k ≡ 0)

first_zero_one : (c : ℕ → ℕ) (k m : ℕ) → FirstZero c k → FirstZero c m → k ≡ m
first_zero_one c k m p q =
    ⊎_elim (λ is. is) (⊎_elim (λ l. absurd (omega (arith, q.0 k l, p.1))) (λ l. absurd (omega (arith, p.0 m l, q.1)))) (cases_order k m)

positive : (n : ℕ) → (n ≡ 0 → ⊥) → 0 < n
positive n h = ⊎_elim (λ l. l) (λ (l : n ≤ 0). absurd (h (omega arith))) (cases_lt 0 n)

-- If at most n values in a row from 0 on are not 0, there is a first 0.
first_zero_some : (c : ℕ → ℕ) (n : ℕ) → ((k : ℕ) → ((j : ℕ) → j < k → 0 < c j) → k ≤ n) → (k : ℕ) × FirstZero c k
first_zero_some c n few =
    ⊎_elim
    (λ f. (f.0, (λ j l. positive (c j) (f.1.2 j l), f.1.1)))
    (λ none. absurd (omega (arith, few (suc n) (λ j l. positive (c j) (none j l)))))
    (lowest_or_none (λ k. c k ≡ 0) (suc n) (λ k l. cases_eq (c k) 0))

module _ {V : Type 0} (same : V → V → Bool) (e : Equations V) (begun : Rows V) where
  -- How many rows each round changes.
  abbrev count_of : ℕ → ℕ
  count_of k = round_changes same e (pending begun) k (values begun)

  -- The rows after k rounds.
  abbrev rows_after : ℕ → Rows V
  rows_after k j = row (begun j).mark (rounds e (pending begun) k (values begun) j)

module _ {V : Type 0} {bot : V} {le : V → V → Type 0} {lub : V → V → V} {same : V → V → Bool} {height : ℕ} {rank : V → ℕ} (laws : LatticeLaws bot le lub same height rank) (e : Equations V) (lawful : Lawful bot le e) (i : ℕ) (l : i < e.size) (before : Rows V) where
  pub worked_some : (after : Rows V) × (r : Result V) × Worked bot same e i before after r
  worked_some =
      let begun : Rows V = opened_rows bot e lawful i l before in
      let rise = rounds_rise laws e lawful (pending begun) (values begun) (bottom_rising laws e lawful (pending begun) (values begun) (opened_bottom bot e lawful i l before)) in
      let first = first_zero_some (count_of same e begun) (pending_count bot e begun * height) rise.few in
      let ended : Rows V = rows_after same e begun first.0 in
      let final = made_final_some bot e ended in (
        final.0,
        record { value = (ended i).value; made_final = pending_count bot e begun; rounds = counted first.0 },
        record {
          begun = begun;
          opens = opened_some bot e lawful i l before;
          k = first.0;
          change = first.1.0;
          settle = first.1.1;
          ended = ended;
          marks = λ j. refl;
          worked = λ j. refl;
          closes = final.1;
          value = refl;
          made_final = refl;
          rounds = refl;
        },
      )

  ended_is : (after : Rows V) (r : Result V) (w : Worked bot same e i before after r) → w.ended ≡ rows_after same e w.begun w.k
  ended_is after r w = fun_ext (λ j. row_same _ _ (w.marks j) (w.worked j))

  pub worked_one : (a b : Rows V) (r s : Result V) → Worked bot same e i before a r → Worked bot same e i before b s → (r ≡ s) × ((j : ℕ) → a j ≡ b j)
  worked_one a b r s p q =
      let begun : p.begun ≡ q.begun = fun_ext (opened_one bot e lawful i l before p.begun q.begun p.opens q.opens) in
      let k : p.k ≡ q.k = first_zero_one (count_of same e q.begun) p.k q.k (subst (λ x. FirstZero (count_of same e x) p.k) begun (p.change, p.settle)) (q.change, q.settle) in
      let between : rows_after same e p.begun p.k ≡ rows_after same e q.begun q.k = λ t. rows_after same e (begun t) (k t) in
      let ended : p.ended ≡ q.ended = ended_is a r p ∙ between ∙ sym (ended_is b s q) in
      let value : r.value ≡ s.value = p.value ∙ ap (λ x. (x i).value) ended ∙ sym q.value in
      let made : r.made_final ≡ s.made_final = p.made_final ∙ ap (pending_count bot e) begun ∙ sym q.made_final in
      let told : r.rounds ≡ s.rounds = p.rounds ∙ ap counted k ∙ sym q.rounds in (
        λ t. record { value = value t; made_final = made t; rounds = told t },
        made_final_one bot e q.ended a b (subst (λ x. MadeFinal bot e x a) ended p.closes) q.closes,
      )
