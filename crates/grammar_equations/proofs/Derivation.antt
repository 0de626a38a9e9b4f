-- Derivations one behind the other and inside a form. Assumes nothing.
use Rattle.std.proofs.Common.{◌≡◌, ℕ, ◌<◌, [], ◌∷◌, ◌++◌, Option, sym, subst}
use Rattle.std.proofs.lemmas.List.{append-nil, append_assoc}
use Rattle.grammar_equations.specs.Derivations.{nonterminal, Rewrites, rewrite, Derives, done, next}
use Rattle.grammar_equations.specs.Rules.{Form, Rule, Rules, rule_count, left_from, right_from, left_of, right_of}
use Rattle.grammar_equations.proofs.Lists.{nth_within, nth_some}

pub derives_trans : {g : Rules} {a b c : Form} → Derives g a b → Derives g b c → Derives g a c
derives_trans done q = q
derives_trans (next s p) q = next s (derives_trans p q)

module _ {g : Rules} where
  -- A rewriting rewrites the left side of some production into its right side.
  pub rewrites_by : (P : Form → Form → Type 0) → ((l r : Form) (p : ℕ) → p < rule_count g → P (l ++ nonterminal g (left_of g p) ∷ r) (l ++ right_of g p ++ r)) →
      {a b : Form} → Rewrites g a b → P a b
  rewrites_by P f (rewrite l r p x e) =
      subst (λ (o : Option Rule). P (l ++ nonterminal g (left_from o) ∷ r) (l ++ right_from o ++ r)) e (f l r p (nth_within g.rules p e))

  pub rewrites_at : (l r : Form) (p : ℕ) → p < rule_count g → Rewrites g (l ++ nonterminal g (left_of g p) ∷ r) (l ++ right_of g p ++ r)
  rewrites_at l r p h =
      let x = nth_some g.rules p h in
      subst (λ (o : Option Rule). Rewrites g (l ++ nonterminal g (left_from o) ∷ r) (l ++ right_from o ++ r)) (sym x.1) (rewrite l r p x.0 x.1)

  rewrites_in : (u w : Form) {a b : Form} → Rewrites g a b → Rewrites g (u ++ a ++ w) (u ++ b ++ w)
  rewrites_in u w =
      rewrites_by (λ a b. Rewrites g (u ++ a ++ w) (u ++ b ++ w)) (λ l r p h.
      let before : (u ++ l) ++ nonterminal g (left_of g p) ∷ (r ++ w) ≡ u ++ (l ++ nonterminal g (left_of g p) ∷ r) ++ w = simp append_assoc in
      let after : (u ++ l) ++ right_of g p ++ (r ++ w) ≡ u ++ (l ++ right_of g p ++ r) ++ w = simp append_assoc in
      subst (λ (a : Form). Rewrites g a (u ++ (l ++ right_of g p ++ r) ++ w)) before
      (subst (λ (b : Form). Rewrites g ((u ++ l) ++ nonterminal g (left_of g p) ∷ (r ++ w)) b) after (rewrites_at (u ++ l) (r ++ w) p h)))

  -- What a form derives, it derives with the same before and behind it.
  pub derives_in : (u w : Form) {a b : Form} → Derives g a b → Derives g (u ++ a ++ w) (u ++ b ++ w)
  derives_in u w done = done
  derives_in u w (next s d) = next (rewrites_in u w s) (derives_in u w d)

  pub derives_left : (w : Form) {a b : Form} → Derives g a b → Derives g (a ++ w) (b ++ w)
  derives_left w d = derives_in [] w d

  pub derives_right : (u : Form) {a b : Form} → Derives g a b → Derives g (u ++ a) (u ++ b)
  derives_right u {a} {b} d =
      subst (λ (c : Form). Derives g c (u ++ b)) (append-nil (u ++ a))
      (subst (λ (c : Form). Derives g (u ++ a ++ []) c) (append-nil (u ++ b)) (derives_in u [] d))

  -- The left side of a production derives its right side.
  pub derives_rule : (p : ℕ) → p < rule_count g → Derives g (nonterminal g (left_of g p) ∷ []) (right_of g p)
  derives_rule p h =
      next (subst (λ (b : Form). Rewrites g (nonterminal g (left_of g p) ∷ []) b) (append-nil (right_of g p)) (rewrites_at [] [] p h)) done

  pub derives_to : {a b c : Form} → Derives g a b → b ≡ c → Derives g a c
  derives_to {a} d e = subst (λ (x : Form). Derives g a x) e d

  pub derives_from : {a b c : Form} → Derives g a b → a ≡ c → Derives g c b
  derives_from {b = b} d e = subst (λ (x : Form). Derives g x b) e d
