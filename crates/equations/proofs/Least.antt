-- The least solution: iteration from the bottom comes to it and stays. Assumes nothing.
use Rattle.std.proofs.Common.{◌≡◌, ℕ, zero, suc, ◌+◌, ◌<◌, Bool, subst, ⊎_elim, arith}
use Rattle.std.proofs.lemmas.Bool.{cases_lt}
use Rattle.lattices.specs.Laws.{LatticeLaws}
use Rattle.equations.specs.Equations.{Equations, equation, Lawful}
use Rattle.equations.specs.Reach.{Uses, WholeInstance, Least}
use Rattle.equations.specs.Rounds.{total}
use Rattle.equations.proofs.Totals.{total_le, total_same}
use Rattle.equations.proofs.Monotone.{StepKeeps, equation_mono}
use Rattle.equations.proofs.Paths.{whole_operand}
use Rattle.equations.proofs.Ranks.{rank_le, rank_same}

-- The family after t times every equation at once, from the bottom.
abbrev pub iterate : {V : Type 0} → Equations V → V → ℕ → ℕ → V
iterate e bot zero i = bot
iterate e bot (suc t) i = equation e (iterate e bot t) i

module _ {V : Type 0} {bot : V} {le : V → V → Type 0} {lub : V → V → V} {same : V → V → Bool} {height : ℕ} {rank : V → ℕ} (laws : LatticeLaws bot le lub same height rank) (e : Equations V) where
  module _ (keeps : StepKeeps le e) where
    rises : (t i : ℕ) → le (iterate e bot t i) (iterate e bot (suc t) i)
    rises zero i = laws.bot_le _
    rises (suc t) i = equation_mono e laws.le_refl keeps (iterate e bot t) (iterate e bot (suc t)) i (λ j u. rises t j)

    -- The sum of the ranks grows each time until nothing changes, and `left` bounds how often it still can.
    stationary_from : (left t : ℕ) → total (λ i. height) e.size < total (λ i. rank (iterate e bot t i)) e.size + left → (s : ℕ) × ((i : ℕ) → i < e.size → iterate e bot s i ≡ iterate e bot (suc s) i)
    stationary_from zero t h =
        absurd (omega (arith, total_le (λ i. rank (iterate e bot t i)) (λ i. height) e.size (λ i l. laws.rank_within _)))
    stationary_from (suc left) t h =
        let f : ℕ → ℕ = λ i. rank (iterate e bot t i) in
        let g : ℕ → ℕ = λ i. rank (iterate e bot (suc t) i) in
        ⊎_elim
        (λ (m : total f e.size < total g e.size). stationary_from left (suc t) (omega arith))
        (λ m. (t, λ i l. rank_same laws _ _ (rises t i) (total_same f g e.size (λ k _. rank_le laws _ _ (rises t k)) m i l)))
        (cases_lt (total f e.size) (total g e.size))

    -- After how many times nothing changes any more.
    pub stationary : (s : ℕ) × ((i : ℕ) → i < e.size → iterate e bot s i ≡ iterate e bot (suc s) i)
    stationary = stationary_from (suc (total (λ i. height) e.size)) 0 (omega arith)

    unfoldable pub solution : ℕ → V
    solution = iterate e bot stationary.0

    -- It satisfies every equation, also of an instance that is not whole.
    pub solution_solves : (i : ℕ) → i < e.size → solution i ≡ equation e solution i
    unfolding solution
    solution_solves i l = stationary.1 i l

    -- It is below each family that is above its own equations, on any instances that hold their operands.
    iterate_below : (P : ℕ → Type 0) → ((i j : ℕ) → P i → Uses e i j → P j) → (w : ℕ → V) → ((i : ℕ) → P i → le (equation e w i) (w i)) → (t i : ℕ) → P i → le (iterate e bot t i) (w i)
    iterate_below P closed w above zero i p = laws.bot_le _
    iterate_below P closed w above (suc t) i p =
        laws.le_trans _ _ _
        (equation_mono e laws.le_refl keeps (iterate e bot t) w i (λ j u. iterate_below P closed w above t j (closed i j p u)))
        (above i p)

  module _ (lawful : Lawful bot le e) where
    pub solution_least : Least le e (solution lawful.step_mono)
    unfolding solution
    solution_least =
        record {
          solves = λ i whole. solution_solves lawful.step_mono i whole.0;
          least = λ w above i whole. iterate_below lawful.step_mono (WholeInstance e) (λ i j. whole_operand e lawful i j) w above (stationary lawful.step_mono).0 i whole;
        }

  pub least_unique : (v w : ℕ → V) → Least le e v → Least le e w → (i : ℕ) → WholeInstance e i → v i ≡ w i
  least_unique v w p q i whole =
      let fixed : (u : ℕ → V) → Least le e u → (k : ℕ) → WholeInstance e k → le (equation e u k) (u k) = λ u l k h. subst (λ x. le x (u k)) (l.solves k h) (laws.le_refl (u k)) in
      laws.le_antisym _ _ (p.least w (fixed w q) i whole) (q.least v (fixed v p) i whole)
