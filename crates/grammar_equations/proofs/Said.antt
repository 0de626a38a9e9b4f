-- What derivations show of complete instances, a solution says. Assumes nothing.
use Rattle.std.proofs.Common.{◌≡◌, ℕ, suc, ◌+◌, ◌<◌, ◌≤◌, true, ◌⊎◌, [], ◌∷◌, ◌++◌, length, drop, Some, Ok, Err, sym, refl, ap, ◌∙◌, subst, inl, inr, ⊎_elim, arith}
use Rattle.lattices.specs.Sets.{has_past}
use Rattle.references.specs.declared.Dangling.{Dangling}
use Rattle.std.specs.List.{slice_get}
use Rattle.std.proofs.lemmas.Bool.{both_ways}
use Rattle.grammar_equations.specs.Derivations.{nonterminal, Rewrites, Derives, done, next}
use Rattle.grammar_equations.specs.GrammarEquations.{operands, start_of}
use Rattle.grammar_equations.specs.Instances.{Instance, symbol, suffix, occurrence, follow, Valid}
use Rattle.grammar_equations.specs.Paths.{In, Leads, here, along, Complete}
use Rattle.grammar_equations.specs.Rules.{Letter, known, dangling, Form, Rules, WellFormed, rule_count, left_of, right_of}
use Rattle.grammar_equations.specs.Values.{Value, nullable, has, end_mark}
use Rattle.grammar_equations.proofs.Dangling.{HasUnknown, unknown_back, unknown_letter, unknown_in, UnknownBehind, behind_derives, behind_start}
use Rattle.grammar_equations.proofs.Derivation.{rewrites_by}
use Rattle.grammar_equations.proofs.Evaluations.{symbol_nullable, symbol_has, terminal_start, follow_has, end_start, suffix_end, suffix_nullable, suffix_has, occurrence_has}
use Rattle.grammar_equations.proofs.Forms.{Meets, met, past, ended, MeetsLetter, meets_before, meets_back, Behind, behind_one, behind_rewritten}
use Rattle.grammar_equations.proofs.Lists.{nth_drop, nth_end, nth_within, nth_behind, drop_behind}
use Rattle.grammar_equations.proofs.OperandSorts.{Reads, production, rest, behind, above, occurs, reads, reads_in, complete_by, letter_within, left_within}
use Rattle.grammar_equations.proofs.Solutions.{Solution}

-- A terminal has no operands, so it is complete.
module _ {g : Rules} where
  terminal_reads : {s : ℕ} {y : Instance} → Reads g (symbol s) (Ok y) → s < g.terminals → ⊥
  terminal_reads (production p h) l = omega arith

  symbol_dangling : {s : ℕ} {d : Dangling} → Reads g (symbol s) (Err d) → ⊥
  symbol_dangling r = elim r [ ]

  terminal_leads : {s : ℕ} {y : Instance} {d : Dangling} → s < g.terminals → Leads g (symbol s) y → In (Err d) (operands g y) → ⊥
  terminal_leads {s} l here i = symbol_dangling (reads g (symbol s) i)
  terminal_leads {s} l (along j r) i = terminal_reads (reads g (symbol s) j) l

  terminal_complete : (s : ℕ) → s < g.terminals → Complete g (symbol s)
  terminal_complete s l (y, d, r, i) = terminal_leads l r i

-- Each symbol of the form is known and complete.
abbrev AllKnown : Rules → Form → Type 0
AllKnown g f = HasUnknown g f → ⊥

known_kept : (g : Rules) (a b : Form) → Rewrites g a b → AllKnown g a → AllKnown g b
known_kept g a b s u q = u (unknown_back g (next s done) q)

known_one : (g : Rules) (s : ℕ) → Complete g (symbol s) → AllKnown g (known s ∷ [])
known_one g s complete u = complete (unknown_letter g u)

module _ {g : Rules} (well : WellFormed g) {v : Instance → Value} (solution : Solution g v) (c : ℕ) where
  abbrev SaidNullable : Letter → Type 0
  SaidNullable (known s) = nullable (v (symbol s)) ≡ true
  SaidNullable (dangling name) = ⊥

  abbrev SaidFirst : Letter → Type 0
  SaidFirst (known s) = has (v (symbol s)) c ≡ true
  SaidFirst (dangling name) = ⊥

  suffix_says : {F : Type 0} (p k : ℕ) {f : Form} → Valid g (suffix p k) → Complete g (suffix p k) → drop k (right_of g p) ≡ f → Meets SaidNullable SaidFirst F f →
      (has (v (suffix p k)) c ≡ true) ⊎ ((nullable (v (suffix p k)) ≡ true) × F)
  suffix_says p k valid complete e (met {x = known s} h) =
      rw (solution.solves (suffix p k) valid complete) (inl ((suffix_has g v p k s (nth_drop (right_of g p) k e).0 c).1 (inl h)))
  suffix_says p k valid complete e (met {x = dangling name} h) = absurd h
  suffix_says p k valid complete e (past {x = known s} n m) =
      let at = nth_drop (right_of g p) k e in
      let later = suffix_says p (suc k) (valid.0, nth_within (right_of g p) k at.0) (complete_by g (rest p k (known s) at.0) complete) at.1 m in
      rw (solution.solves (suffix p k) valid complete)
      (⊎_elim (λ h. inl ((suffix_has g v p k s at.0 c).1 (inr (n, h)))) (λ q. inr ((suffix_nullable g v p k s at.0).1 (n, q.0), q.1)) later)
  suffix_says p k valid complete e (past {x = dangling name} n m) = absurd n
  suffix_says p k valid complete e (ended q) =
      inr (ap nullable (solution.solves (suffix p k) valid complete ∙ suffix_end g v p k (nth_end (right_of g p) k e)), q)

  symbol_says : (p : ℕ) → p < rule_count g → Complete g (symbol (g.terminals + left_of g p)) → (F : Type 0) → Meets SaidNullable SaidFirst F (right_of g p) →
      MeetsLetter SaidNullable SaidFirst F (nonterminal g (left_of g p))
  symbol_says p h complete F m =
      let s = g.terminals + left_of g p in
      let i = reads_in g (production p h) in
      let valid : Valid g (symbol s) = omega (arith, left_within g well p h) in
      let same = solution.solves (symbol s) valid complete in
      ⊎_elim (λ q. inl (ap (λ u. has u c) same ∙ (symbol_has g v s c).1 (inr (suffix p 0, i, q))))
      (λ q. inr (ap nullable same ∙ (symbol_nullable g v s).1 (suffix p 0, i, q.0), q.1))
      (suffix_says p 0 (h, omega arith) (complete_by g (production p h) complete) refl m)

  says_back : {E : Type 0} {a b : Form} → Derives g a b → AllKnown g a → Meets SaidNullable SaidFirst E b → Meets SaidNullable SaidFirst E a
  says_back =
      meets_back g (AllKnown g)
      (λ l r p h u. symbol_says p h (λ d. u (unknown_in g l (nonterminal g (left_of g p)) r d))) (known_kept g)

  terminal_says : c < g.terminals → has (v (symbol c)) c ≡ true
  terminal_says l =
      let valid : Valid g (symbol c) = omega arith in
      ap (λ u. has u c) (solution.solves (symbol c) valid (terminal_complete c l)) ∙ (symbol_has g v c c).1 (inl (terminal_start g c l (omega (arith, well.terminals))))

  module _ (s : ℕ) (complete : Complete g (symbol s)) where
    first_from : Meets SaidNullable SaidFirst ⊥ (known s ∷ []) → has (v (symbol s)) c ≡ true
    first_from (met h) = h
    first_from (past n (ended e)) = absurd e

    pub first_said : (r : Form) → c < g.terminals → Derives g (known s ∷ []) (known c ∷ r) → has (v (symbol s)) c ≡ true
    first_said r l d = first_from (says_back d (known_one g s complete) (met (terminal_says l)))

    nullable_from : 64 ≤ c → Meets SaidNullable SaidFirst (Unit {0}) (known s ∷ []) → nullable (v (symbol s)) ≡ true
    nullable_from l (met h) = absurd (both_ways _ (has_past (v (symbol s)).second c l) h)
    nullable_from l (past n m) = n

    -- A number that no set has, so that only the end is met.
    pub nullable_said : 64 ≤ c → Derives g (known s ∷ []) [] → nullable (v (symbol s)) ≡ true
    nullable_said l d = nullable_from l (says_back d (known_one g s complete) (ended tt))

  -- What is behind nonterminals.
  abbrev SaidFollow : ℕ → Type 0
  SaidFollow a = Valid g (follow a) → Complete g (follow a) → has (v (follow a)) c ≡ true

  occurrence_says : (p : ℕ) (l m : Form) (a : ℕ) → right_of g p ≡ l ++ nonterminal g a ∷ m → Meets SaidNullable SaidFirst (SaidFollow (left_of g p)) m → SaidFollow a
  occurrence_says p l m a e q valid complete =
      let k = length l in
      let at : slice_get (right_of g p) k ≡ Some (nonterminal g a) = rw e (nth_behind l (nonterminal g a) m) in
      let after : drop (suc k) (right_of g p) ≡ m = rw e (drop_behind l (nonterminal g a) m) in
      let h = letter_within g p k at in
      let inside = nth_within (right_of g p) k at in
      let whole = complete_by g (occurs p k a at) complete in
      let up : SaidFollow (left_of g p) → has (v (follow (left_of g p))) c ≡ true = λ y. y (left_within g well p h) (complete_by g (above p k) whole) in
      let said = ⊎_elim (λ t. inl t) (λ t. inr (t.0, up t.1)) (suffix_says p (suc k) (h, inside) (complete_by g (behind p k) whole) after q) in
      let here = ap (λ u. has u c) (solution.solves (occurrence p k) (h, inside) whole) ∙ (occurrence_has g v p k c).1 said in
      ap (λ u. has u c) (solution.solves (follow a) valid complete) ∙ (follow_has g v a c).1 (inr (occurrence p k, reads_in g (occurs p k a at), here))

  module _ (E : Type 0) where
    abbrev SaidBehind : Form → Type 0
    SaidBehind = Behind g SaidNullable SaidFirst E SaidFollow

    rewritten_says : (l r : Form) (p : ℕ) → p < rule_count g → UnknownBehind g (l ++ nonterminal g (left_of g p) ∷ r) →
        SaidBehind (l ++ nonterminal g (left_of g p) ∷ r) → SaidBehind (l ++ right_of g p ++ r)
    rewritten_says l r p h u =
        let x = nonterminal g (left_of g p) in
        behind_rewritten g SaidNullable SaidFirst E SaidFollow l r (left_of g p) (right_of g p)
        (λ l₁ m a old f q valid complete.
        f (meets_before m (right_of g p) r x (symbol_says p h (λ d. complete (u l₁ a (m ++ x ∷ r) old (unknown_in g m x r d)))) q) valid complete)
        (occurrence_says p)

    behind_says : {a b : Form} → Derives g a b → UnknownBehind g a → SaidBehind a → SaidBehind b
    behind_says done u q = q
    behind_says (next s d) u q =
        behind_says d (behind_derives g (next s done) u) (rewrites_by (λ a b. UnknownBehind g a → SaidBehind a → SaidBehind b) rewritten_says s u q)

    behind_said : (b : ℕ) {f : Form} → (E → SaidFollow b) → Derives g (nonterminal g b ∷ []) f → SaidBehind f
    behind_said b y d = behind_says d (behind_start g b) (behind_one g SaidNullable SaidFirst E SaidFollow b y)

  end_says : c ≡ end_mark → SaidFollow 0
  end_says e valid complete =
      ap (λ u. has u c) (solution.solves (follow 0) valid complete) ∙ (follow_has g v 0 c).1 (inl (subst (λ n. has (start_of g (follow 0)) n ≡ true) (sym e) (end_start g)))

  module _ (a : ℕ) where
    pub follow_said : (b : ℕ) (l r : Form) → c < g.terminals → Derives g (nonterminal g b ∷ []) (l ++ nonterminal g a ∷ known c ∷ r) → SaidFollow a
    follow_said b l r h d = behind_said ⊥ b (λ e. absurd e) d l a (known c ∷ r) refl (met (terminal_says h))

    pub end_said : (l : Form) → c ≡ end_mark → Derives g (nonterminal g 0 ∷ []) (l ++ nonterminal g a ∷ []) → SaidFollow a
    end_said l e d = behind_said (Unit {0}) 0 (λ _. end_says e) d l a [] refl (ended tt)
