-- Rounds over a set from the bottom rise, and few of them change a value. Assumes nothing.
use Rattle.std.proofs.Common.{◌≡◌, ℕ, zero, suc, ◌+◌, ◌*◌, ◌<◌, ◌≤◌, Bool, true, false, cond, sym, refl, ap, subst, one-mul, arith}
use Rattle.lattices.specs.Laws.{LatticeLaws}
use Rattle.equations.specs.Equations.{Equations, equation, Lawful}
use Rattle.equations.specs.Rounds.{put, turn, swept, changed, changes, rounds, round_changes, total, members}
use Rattle.equations.specs.Theory.{AtBottom, RoundsRise}
use Rattle.equations.proofs.Totals.{total_more, total_times}
use Rattle.equations.proofs.Monotone.{equation_mono}
use Rattle.equations.proofs.Ranks.{rank_le, rank_gain}
use Rattle.equations.proofs.Turns.{put_both, rounds_outside, swept_unchanged}

-- Each instance of the set is at or below its equation's value.
abbrev pub Rising : {V : Type 0} → (V → V → Type 0) → Equations V → (ℕ → Bool) → (ℕ → V) → Type 0
Rising le e s w = (i : ℕ) → i < e.size → s i ≡ true → le (w i) (equation e w i)

-- The sum of the ranks of the set's values.
abbrev pub ranks : {V : Type 0} → (V → ℕ) → Equations V → (ℕ → Bool) → (ℕ → V) → ℕ
ranks rank e s w = total (λ j. cond (s j) (rank (w j)) 0) e.size

-- From w to u no value falls, and the sum of the ranks grows by c at least.
pub record Risen {V : Type 0} (le : V → V → Type 0) (rank : V → ℕ) (e : Equations V) (s : ℕ → Bool) (w u : ℕ → V) (c : ℕ) : Type 0 where
  pub up : (i : ℕ) → le (w i) (u i)
  pub rising : Rising le e s u
  pub gains : ranks rank e s w + c ≤ ranks rank e s u

cond_le : (b : Bool) (m n : ℕ) → m ≤ n → cond b m 0 ≤ cond b n 0
cond_le true m n l = l
cond_le false m n l = omega arith

module _ {V : Type 0} {bot : V} {le : V → V → Type 0} {lub : V → V → V} {same : V → V → Bool} {height : ℕ} {rank : V → ℕ} (laws : LatticeLaws bot le lub same height rank) (e : Equations V) (lawful : Lawful bot le e) (s : ℕ → Bool) where
  pub risen_none : (w : ℕ → V) → Rising le e s w → Risen le rank e s w w 0
  risen_none w r = record { up = λ i. laws.le_refl _; rising = r; gains = omega arith }

  pub risen_more : {w u t : ℕ → V} {m n : ℕ} → Risen le rank e s w u m → Risen le rank e s u t n → Risen le rank e s w t (m + n)
  risen_more p q =
      record {
        up = λ i. laws.le_trans _ _ _ (p.up i) (q.up i);
        rising = q.rising;
        gains = omega (arith, p.gains, q.gains);
      }

  -- The turn of i.
  module _ (w : ℕ → V) (r : Rising le e s w) (i : ℕ) (l : i < e.size) where
    abbrev new : V
    new = equation e w i

    put_up : s i ≡ true → (j : ℕ) → le (w j) (put w i new j)
    put_up t j = put_both w i new j (le (w j)) (λ q. subst (λ k. le (w k) new) (sym q) (r i l t)) (λ n. laws.le_refl _)

    put_under : (j : ℕ) → j < e.size → s j ≡ true → le (put w i new j) (equation e w j)
    put_under j m t =
        put_both w i new j (λ y. le y (equation e w j)) (λ q. subst (λ k. le new (equation e w k)) (sym q) (laws.le_refl _)) (λ n. r j m t)

    put_risen : s i ≡ true → Risen le rank e s w (put w i new) (cond (same new (w i)) 0 1)
    put_risen t =
        let u : ℕ → V = put w i new in
        let f : ℕ → ℕ = λ j. cond (s j) (rank (w j)) 0 in
        let g : ℕ → ℕ = λ j. cond (s j) (rank (u j)) 0 in
        let c : ℕ = cond (same new (w i)) 0 1 in
        let here : u i ≡ new = put_both w i new i (λ y. y ≡ new) (λ q. refl) (λ n. absurd (n refl)) in
        let old : f i ≡ rank (w i) = ap (λ b. cond b (rank (w i)) 0) t in
        let fresh : g i ≡ rank (u i) = ap (λ b. cond b (rank (u i)) 0) t in
        let one : f i + c ≤ g i = omega (arith, old, fresh, ap rank here, rank_gain laws (w i) new (r i l t)) in
        record {
          up = put_up t;
          rising = λ j m p. laws.le_trans _ _ _ (put_under j m p) (equation_mono e laws.le_refl lawful.step_mono w u j (λ k _. put_up t k));
          gains = total_more f g e.size i c l (λ j. cond_le (s j) _ _ (rank_le laws _ _ (put_up t j))) one;
        }

    pub turn_risen : Risen le rank e s w (turn e s i w) (changed same e s i w)
    turn_risen =
        elim (s i) as (λ b. s i ≡ b → Risen le rank e s w (cond b (put w i new) w) (cond b (cond (same new (w i)) 0 1) 0)) [
          | true ↦ put_risen
          | false ↦ (λ _. risen_none w r)
        ] refl

  pub swept_risen : (w : ℕ → V) → Rising le e s w → (n : ℕ) → n ≤ e.size → Risen le rank e s w (swept e s n w) (changes same e s n w)
  swept_risen w r zero l = risen_none w r
  swept_risen w r (suc n) l =
      let before = swept_risen w r n (omega arith) in
      risen_more before (turn_risen (swept e s n w) before.rising n l)

  pub round_risen : (w : ℕ → V) → Rising le e s w → Risen le rank e s w (swept e s e.size w) (changes same e s e.size w)
  round_risen w r = swept_risen w r e.size (omega arith)

  pub rounds_rising : (w : ℕ → V) → Rising le e s w → (k : ℕ) → Rising le e s (rounds e s k w)
  rounds_rising w r zero = r
  rounds_rising w r (suc k) = (round_risen (rounds e s k w) (rounds_rising w r k)).rising

  -- k rounds that each change a value make k changes at least.
  rounds_risen : (w : ℕ → V) → Rising le e s w → (k : ℕ) → ((j : ℕ) → j < k → 0 < round_changes same e s j w) → (c : ℕ) × (k ≤ c) × Risen le rank e s w (rounds e s k w) c
  rounds_risen w r zero h = (0, omega arith, risen_none w r)
  rounds_risen w r (suc k) h =
      let before = rounds_risen w r k (λ j l. h j (omega arith)) in
      let one = round_risen (rounds e s k w) before.2.rising in
      (before.0 + round_changes same e s k w, omega (arith, h k (omega arith), before.1), risen_more before.2 one)

  pub ranks_within : (w : ℕ → V) → ranks rank e s w ≤ members s e.size * height
  ranks_within w =
      total_times (λ j. cond (s j) (rank (w j)) 0) (λ j. cond (s j) 1 0) height e.size (λ j.
      elim (s j) as (λ b. cond b (rank (w j)) 0 ≤ cond b 1 0 * height) [
        | true ↦ omega (arith, one-mul height, laws.rank_within (w j))
        | false ↦ omega arith
      ])

  pub rounds_rise : (w : ℕ → V) → Rising le e s w → RoundsRise bot le same height e s w
  rounds_rise w r =
      record {
        rises = λ k. (round_risen (rounds e s k w) (rounds_rising w r k)).up;
        outside = rounds_outside e s w;
        few = λ k h. let b = rounds_risen w r k h in omega (arith, b.1, b.2.gains, ranks_within (rounds e s k w));
        still = λ k z i. ap (λ u. u i) (swept_unchanged e s laws.same_decides (rounds e s k w) e.size z).0;
      }

  pub bottom_rising : (w : ℕ → V) → AtBottom bot le same height e s w → Rising le e s w
  bottom_rising w bottom i l t = subst (λ x. le x (equation e w i)) (sym (bottom i l t)) (laws.bot_le _)
