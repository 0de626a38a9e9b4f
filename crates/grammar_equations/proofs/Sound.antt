-- What a solution says of an instance holds of derivations. Assumes nothing.
use Rattle.std.proofs.Common.{◌≡◌, ℕ, suc, ◌+◌, ◌<◌, true, ◌⊎◌, [], ◌∷◌, ◌++◌, drop, Some, None, Ok, Option, sym, refl, ap, subst, inl, inr, ⊎_elim}
use Rattle.std.specs.List.{slice_get}
use Rattle.std.proofs.lemmas.Bool.{false≢true}
use Rattle.grammar_equations.specs.Derivations.{nonterminal, Derives, done, Begins, Precedes, Ends}
use Rattle.grammar_equations.specs.GrammarEquations.{operands, evaluated}
use Rattle.grammar_equations.specs.Instances.{Instance, symbol, suffix, occurrence, follow, Valid}
use Rattle.grammar_equations.specs.Paths.{In, Complete}
use Rattle.grammar_equations.specs.Rules.{Letter, known, dangling, Form, Rules, WellFormed, left_of, right_of}
use Rattle.grammar_equations.specs.Values.{Value, nullable, has, bottom, end_mark}
use Rattle.grammar_equations.proofs.Derivation.{derives_trans, derives_left, derives_rule, derives_to}
use Rattle.grammar_equations.proofs.Evaluations.{empty_has, symbol_nullable, symbol_has, symbol_start, follow_has, follow_start, suffix_end, suffix_nullable, suffix_has, occurrence_has}
use Rattle.grammar_equations.proofs.Lists.{drop_none, drop_some}
use Rattle.grammar_equations.proofs.OperandSorts.{Reads, production, letter, unknown, rest, behind, above, occurs, reads, reads_in, leads_at}
use Rattle.grammar_equations.proofs.Solutions.{Solution}
use Rattle.grammar_equations.proofs.Targets.{To, After, to_from, to_left, after_in, after_up}

module _ {g : Rules} (well : WellFormed g) (c : ℕ) where
  -- The form begins with the terminal c.
  abbrev Starts : Form → Type 0
  Starts f = (c < g.terminals) × (r : Form) × (f ≡ known c ∷ r)

  -- Or it is empty, behind the start symbol, and c is the end mark.
  abbrev StartsOrEnds : ℕ → Form → Type 0
  StartsOrEnds b f = Starts f ⊎ ((c ≡ end_mark) × (b ≡ 0) × (f ≡ []))

  starts_left : (f r : Form) → Starts f → Starts (f ++ r)
  starts_left f r (h, m, e) = (h, m ++ r, ap (λ z. z ++ r) e)

  abbrev Says : Value → Form → Type 0
  Says u f = (nullable u ≡ true → Derives g f []) × (has u c ≡ true → To g Starts f)

  abbrev Sound : Instance → Value → Type 0
  Sound (symbol s) u = Says u (known s ∷ [])
  Sound (suffix p k) u = Says u (drop k (right_of g p))
  Sound (occurrence p k) u = has u c ≡ true → (x : Letter) → slice_get (right_of g p) k ≡ Some x → After g StartsOrEnds x
  Sound (follow a) u = has u c ≡ true → After g StartsOrEnds (nonterminal g a)

  sound_bottom : (x : Instance) → Sound x bottom
  sound_bottom (symbol s) = (λ e. absurd (false≢true e), λ e. empty_has c e)
  sound_bottom (suffix p k) = (λ e. absurd (false≢true e), λ e. empty_has c e)
  sound_bottom (occurrence p k) = λ e. empty_has c e
  sound_bottom (follow a) = λ e. empty_has c e

  sound_production : {s : ℕ} {y : Instance} → Reads g (symbol s) (Ok y) → (u : Value) → Sound y u → Says u (known s ∷ [])
  sound_production (production p h) u q =
      (λ e. derives_trans (derives_rule p h) (q.0 e), λ e. to_from (derives_rule p h) (q.1 e))

  sound_occurrence : {a : ℕ} {y : Instance} → Reads g (follow a) (Ok y) → (u : Value) → Sound y u → has u c ≡ true → After g StartsOrEnds (nonterminal g a)
  sound_occurrence (occurs p k a e) u q h = q h (nonterminal g a) e

  module _ (w : Instance → Value) where
    abbrev Known : Instance → Type 0
    Known x = (y : Instance) → In (Ok y) (operands g x) → Sound y (w y)

    sound_symbol : (s : ℕ) → Known (symbol s) → Says (evaluated g w (symbol s)) (known s ∷ [])
    sound_symbol s ih = (empty, begins)
      where
        empty : nullable (evaluated g w (symbol s)) ≡ true → Derives g (known s ∷ []) []
        empty e =
            let (y, i, q) = (symbol_nullable g w s).0 e in
            (sound_production (reads g (symbol s) i) (w y) (ih y i)).0 q

        begins : has (evaluated g w (symbol s)) c ≡ true → To g Starts (known s ∷ [])
        begins e =
            elim ((symbol_has g w s c).0 e) [
              | inl h ↦ (let q = symbol_start g s c h in
                  (known s ∷ [], done, (subst (λ n. n < g.terminals) (sym q.1) q.0, [], ap (λ n. known n ∷ []) (sym q.1))))
              | inr h ↦ (sound_production (reads g (symbol s) h.1) (w h.0) (ih h.0 h.1)).1 h.2
            ]

    sound_suffix : (p k : ℕ) → Complete g (suffix p k) → Known (suffix p k) → (o : Option Letter) → slice_get (right_of g p) k ≡ o →
        Says (evaluated g w (suffix p k)) (drop k (right_of g p))
    sound_suffix p k complete ih None e =
        rw (suffix_end g w p k e, drop_none (right_of g p) k e) (λ _. done, λ h. empty_has c h)
    sound_suffix p k complete ih (Some (dangling name)) e = absurd (complete (leads_at g (unknown p k name e)))
    sound_suffix p k complete ih (Some (known s)) e =
        let first = ih (symbol s) (reads_in g (letter p k s e)) in
        let second = ih (suffix p (suc k)) (reads_in g (rest p k (known s) e)) in
        let behind = drop (suc k) (right_of g p) in
        rw (drop_some (right_of g p) k e) (
          λ n. let q = (suffix_nullable g w p k s e).0 n in derives_trans (derives_left behind (first.0 q.0)) (second.0 q.1),
          λ h. ⊎_elim (λ q. to_left starts_left behind (first.1 q)) (λ q. to_from (derives_left behind (first.0 q.0)) (second.1 q.1))
              ((suffix_has g w p k s e c).0 h),
        )

    sound_step : (x : Instance) → Complete g x → Known x → Sound x (evaluated g w x)
    sound_step (symbol s) complete ih = sound_symbol s ih
    sound_step (suffix p k) complete ih = sound_suffix p k complete ih (slice_get (right_of g p) k) refl
    sound_step (occurrence p k) complete ih =
        λ h x e.
        let second = ih (suffix p (suc k)) (reads_in g (behind p k)) in
        ⊎_elim (λ q. after_in well p k x e (λ b r t. inl t) (second.1 q))
        (λ q. after_up well p k x e (second.0 q.0) (λ b r t. t) (ih (follow (left_of g p)) (reads_in g (above p k)) q.1))
        ((occurrence_has g w p k c).0 h)
    sound_step (follow a) complete ih =
        λ h.
        elim ((follow_has g w a c).0 h) [
          | inl q ↦ (let s = follow_start g a c q in
              (0, [], [], well.some_nonterminal, subst (λ n. Derives g (nonterminal g 0 ∷ []) (nonterminal g n ∷ [])) (sym s.0) done, inr (s.1, refl, refl)))
          | inr q ↦ sound_occurrence (reads g (follow a) q.1) (w q.0) (ih q.0 q.1) q.2
        ]

  module _ {v : Instance → Value} (solution : Solution g v) where
    sound : (x : Instance) → Valid g x → Complete g x → Sound x (v x)
    sound = solution.induction Sound sound_bottom (λ w x valid complete ih. sound_step w x complete ih)

    pub nullable_sound : (s : ℕ) → Valid g (symbol s) → Complete g (symbol s) → nullable (v (symbol s)) ≡ true → Derives g (known s ∷ []) []
    nullable_sound s valid complete = (sound (symbol s) valid complete).0

    pub first_sound : (a : ℕ) → Valid g (symbol (g.terminals + a)) → Complete g (symbol (g.terminals + a)) →
        has (v (symbol (g.terminals + a))) c ≡ true → (c < g.terminals) × Begins g a c
    first_sound a valid complete h =
        let (f, d, (l, r, e)) = (sound (symbol (g.terminals + a)) valid complete).1 h in
        (l, (r, derives_to d e))

    pub follow_sound : (a : ℕ) → Valid g (follow a) → Complete g (follow a) → has (v (follow a)) c ≡ true →
        ((c < g.terminals) × Precedes g a c) ⊎ ((c ≡ end_mark) × Ends g a)
    follow_sound a valid complete h =
        let (b, l, r, inside, d, kind) = sound (follow a) valid complete h in
        ⊎_elim
        (λ t. inl (t.0, (b, l, t.1, inside, derives_to d (ap (λ z. l ++ nonterminal g a ∷ z) t.2))))
        (λ t. inr (t.0, (l, subst (λ n. Derives g (nonterminal g n ∷ []) (l ++ nonterminal g a ∷ [])) t.1 (derives_to d (ap (λ z. l ++ nonterminal g a ∷ z) t.2)))))
        kind
