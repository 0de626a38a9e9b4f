-- Rounds over a closed set from the bottom stay at or below the least solution, and come to it. Assumes nothing.
use Rattle.std.proofs.Common.{◌≡◌, ℕ, ◌<◌, Bool, true, false, cond, ◌⊎◌, sym, refl, ap, ◌∙◌, subst, inl, inr, ⊎_elim}
use Rattle.std.proofs.lemmas.Bool.{cases_Bool, cond_both, cond-true, both_ways}
use Rattle.lattices.specs.Laws.{LatticeLaws}
use Rattle.equations.specs.Equations.{Equations, equation, Lawful}
use Rattle.equations.specs.Reach.{Uses, WholeInstance, Least}
use Rattle.equations.specs.Rounds.{put, rounds}
use Rattle.equations.specs.Theory.{AtBottom, Closed, RoundsToLeast}
use Rattle.equations.proofs.Monotone.{equation_same, equation_mono}
use Rattle.equations.proofs.Paths.{whole_operand}
use Rattle.equations.proofs.Ranks.{le_from_eq}
use Rattle.equations.proofs.Turns.{put_both, rounds_keep, swept_unchanged}

-- Each instance of the set is at or below its value of v.
abbrev pub Low : {V : Type 0} → (V → V → Type 0) → Equations V → (ℕ → V) → (ℕ → Bool) → (ℕ → V) → Type 0
Low le e v s w = (i : ℕ) → i < e.size → s i ≡ true → le (w i) (v i)

abbrev pub LowClosed : {V : Type 0} → V → (V → V → Type 0) → (V → V → Bool) → ℕ → Equations V → (ℕ → V) → (ℕ → Bool) → (ℕ → V) → Type 0
LowClosed bot le same height e v s w = Low le e v s w × Closed bot le same height e v s w

module _ {V : Type 0} {bot : V} {le : V → V → Type 0} {lub : V → V → V} {same : V → V → Bool} {height : ℕ} {rank : V → ℕ} (laws : LatticeLaws bot le lub same height rank) (e : Equations V) (lawful : Lawful bot le e) (v : ℕ → V) (least : Least le e v) (s : ℕ → Bool) where
  module _ (w : ℕ → V) (closed : Closed bot le same height e v s w) where
    -- An operand outside the set is at its value of v.
    operand_at : (i j : ℕ) → i < e.size → s i ≡ true → Uses e i j → s j ≡ false → w j ≡ v j
    operand_at i j l t u f = ⊎_elim (λ p. absurd (both_ways (s j) f p)) (λ p. p.1) ((closed i l t).1 j u)

    -- A low family gives a low value to each equation of the set.
    pub equation_low : Low le e v s w → (i : ℕ) → i < e.size → s i ≡ true → le (equation e w i) (v i)
    equation_low low i l t =
        subst (le (equation e w i)) (sym (least.solves i (closed i l t).0))
        (equation_mono e laws.le_refl lawful.step_mono w v i (λ j u.
        ⊎_elim
        (λ p. low j (lawful.operand_within i u.0 j u.2) p)
        (λ f. le_from_eq laws _ _ (operand_at i j l t u f))
        (cases_Bool (s j))))

    -- A low family whose set satisfies its equations is at v on the set.
    module _ (low : Low le e v s w) (solved : (i : ℕ) → i < e.size → s i ≡ true → w i ≡ equation e w i) where
      -- w on the set, and v elsewhere.
      abbrev mixed : ℕ → V
      mixed j = cond (s j) (w j) (v j)

      mixed_low : (j : ℕ) → j < e.size → le (mixed j) (v j)
      mixed_low j l = cond_both (s j) (w j) (v j) (λ x. le x (v j)) (low j l) (λ f. laws.le_refl _)

      mixed_operand : (i j : ℕ) → i < e.size → s i ≡ true → Uses e i j → mixed j ≡ w j
      mixed_operand i j l t u =
          cond_both (s j) (w j) (v j) (λ x. x ≡ w j) (λ p. refl) (λ f. sym (operand_at i j l t u f))

      mixed_above : (i : ℕ) → WholeInstance e i → le (equation e mixed i) (mixed i)
      mixed_above i whole =
          cond_both (s i) (w i) (v i) (le (equation e mixed i))
          (λ t. le_from_eq laws _ _ (equation_same e mixed w i (λ j u. mixed_operand i j whole.0 t u) ∙ sym (solved i whole.0 t)))
          (λ f.
          subst (le (equation e mixed i)) (sym (least.solves i whole))
          (equation_mono e laws.le_refl lawful.step_mono mixed v i (λ j u. mixed_low j (whole_operand e lawful i j whole u).0)))

      pub solved_least : (i : ℕ) → i < e.size → s i ≡ true → w i ≡ v i
      solved_least i l t =
          laws.le_antisym _ _ (low i l t)
          (subst (le (v i)) (cond-true (s i) (w i) (v i) t) (least.least mixed mixed_above i (closed i l t).0))

  -- A turn keeps the family low and the set closed.
  pub turn_low : (w : ℕ → V) (i : ℕ) → i < e.size → s i ≡ true → LowClosed bot le same height e v s w → LowClosed bot le same height e v s (put w i (equation e w i))
  turn_low w i l t h =
      let x : V = equation e w i in (
        λ j m p. put_both w i x j (λ y. le y (v j)) (λ q. subst (λ k. le x (v k)) (sym q) (equation_low w h.1 h.0 i l t)) (λ n. h.0 j m p),
        λ j m p. (
          (h.1 j m p).0,
          λ k u. ⊎_elim inl (λ a. put_both w i x k (λ y. (s k ≡ true) ⊎ (WholeInstance e k × (y ≡ v k))) (λ q. inl (ap s q ∙ t)) (λ n. inr a)) ((h.1 j m p).1 k u),
        ),
      )

  pub rounds_low : (w : ℕ → V) → LowClosed bot le same height e v s w → (k : ℕ) → LowClosed bot le same height e v s (rounds e s k w)
  rounds_low = rounds_keep e s (LowClosed bot le same height e v s) turn_low

  pub rounds_to_least : (w : ℕ → V) → LowClosed bot le same height e v s w → RoundsToLeast bot le same height e v s w
  rounds_to_least w h =
      record {
        low = λ k. (rounds_low w h k).0;
        least = λ k z. let at = rounds_low w h k in solved_least (rounds e s k w) at.1 at.0 (swept_unchanged e s laws.same_decides (rounds e s k w) e.size z).1;
      }

  pub bottom_low : (w : ℕ → V) → AtBottom bot le same height e s w → Low le e v s w
  bottom_low w bottom i l t = subst (λ x. le x (v i)) (sym (bottom i l t)) (laws.bot_le _)
