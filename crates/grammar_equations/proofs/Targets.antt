-- Forms of a kind that a form derives, and letters that stand before such a form in a derived one. Assumes nothing.
use Rattle.std.proofs.Common.{◌≡◌, ℕ, suc, ◌<◌, [], ◌∷◌, ◌++◌, take, drop, Some, sym, ◌∙◌}
use Rattle.std.specs.List.{slice_get}
use Rattle.std.proofs.lemmas.List.{append_assoc}
use Rattle.grammar_equations.specs.Derivations.{nonterminal, Derives}
use Rattle.grammar_equations.specs.Rules.{Letter, Form, Rules, WellFormed, left_of, right_of}
use Rattle.grammar_equations.proofs.Derivation.{derives_trans, derives_in, derives_left, derives_right, derives_rule, derives_to, derives_from}
use Rattle.grammar_equations.proofs.Lists.{take_some}
use Rattle.grammar_equations.proofs.OperandSorts.{letter_within, left_within}

-- The form derives one of the kind T.
abbrev pub To : Rules → (Form → Type 0) → Form → Type 0
To g T f = (b : Form) × Derives g f b × T b

-- Nonterminal b derives a form in which something of the kind U b is behind the letter x.
abbrev pub After : Rules → (ℕ → Form → Type 0) → Letter → Type 0
After g U x = (b : ℕ) × (l : Form) × (r : Form) × (b < g.nonterminals) × Derives g (nonterminal g b ∷ []) (l ++ x ∷ r) × U b r

pub to_from : {g : Rules} {T : Form → Type 0} {a b : Form} → Derives g a b → To g T b → To g T a
to_from d t = (t.0, derives_trans d t.1, t.2)

pub to_left : {g : Rules} {T : Form → Type 0} {f : Form} → ((a r : Form) → T a → T (a ++ r)) → (r : Form) → To g T f → To g T (f ++ r)
to_left extends r t = (t.0 ++ r, derives_left r t.1, extends t.0 r t.2)

module _ {g : Rules} (well : WellFormed g) (p k : ℕ) (x : Letter) (e : slice_get (right_of g p) k ≡ Some x) where
  -- The left side derives the right side with the derived form f behind x.
  rule_at : {f : Form} → Derives g (drop (suc k) (right_of g p)) f → Derives g (nonterminal g (left_of g p) ∷ []) (take k (right_of g p) ++ x ∷ f)
  rule_at {f} d =
      let before = take k (right_of g p) ++ x ∷ [] in
      let whole : right_of g p ≡ before ++ drop (suc k) (right_of g p) =
      take_some (right_of g p) k e ∙ sym (append_assoc (take k (right_of g p)) (x ∷ []) (drop (suc k) (right_of g p))) in
      derives_to (derives_trans (derives_to (derives_rule p (letter_within g p k e)) whole) (derives_right before d))
      (append_assoc (take k (right_of g p)) (x ∷ []) f)

  pub after_in : {T : Form → Type 0} {U : ℕ → Form → Type 0} → ((b : ℕ) (r : Form) → T r → U b r) → To g T (drop (suc k) (right_of g p)) → After g U x
  after_in into t =
      (left_of g p, take k (right_of g p), t.0, left_within g well p (letter_within g p k e), rule_at t.1, into (left_of g p) t.0 t.2)

  pub after_up : {U : ℕ → Form → Type 0} {f : Form} → Derives g (drop (suc k) (right_of g p)) f →
      ((b : ℕ) (r : Form) → U b r → U b (f ++ r)) → After g U (nonterminal g (left_of g p)) → After g U x
  after_up {f = f} d extends (b, l, r, h, up, u) =
      let start = append_assoc l (nonterminal g (left_of g p) ∷ []) r in
      let end : l ++ (take k (right_of g p) ++ x ∷ f) ++ r ≡ (l ++ take k (right_of g p)) ++ x ∷ (f ++ r) = simp append_assoc in
      (b, l ++ take k (right_of g p), f ++ r, h, derives_trans up (derives_from (derives_to (derives_in l r (rule_at d)) end) start), extends b r u)
