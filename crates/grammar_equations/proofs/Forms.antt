-- What is met in a form, from its left, and what derivations keep of that. Assumes nothing.
use Rattle.std.proofs.Common.{◌≡◌, ℕ, ◌+◌, ◌<◌, ◌⊎◌, [], ◌∷◌, ◌++◌, sym, refl, ap, ◌∙◌, subst, inl, inr, arith}
use Rattle.std.proofs.lemmas.List.{append_assoc}
use Rattle.grammar_equations.specs.Derivations.{nonterminal, Rewrites, Derives, done, next}
use Rattle.grammar_equations.specs.Rules.{Letter, Form, Rules, rule_count, left_of, right_of}
use Rattle.grammar_equations.proofs.Derivation.{rewrites_by}
use Rattle.grammar_equations.proofs.Lists.{split}

-- Past letters with N, a letter with H is met, or else the end, and there E holds.
pub data Meets (N H : Letter → Type 0) (E : Type 0) : Form → Type 0 where
  met : {x : Letter} {xs : Form} → H x → Meets N H E (x ∷ xs)
  past : {x : Letter} {xs : Form} → N x → Meets N H E xs → Meets N H E (x ∷ xs)
  ended : E → Meets N H E []

-- What is met in one letter, and then E.
abbrev pub MeetsLetter : (Letter → Type 0) → (Letter → Type 0) → Type 0 → Letter → Type 0
MeetsLetter N H E x = H x ⊎ (N x × E)

module _ {N H : Letter → Type 0} where
  pub meets_ended : {E : Type 0} → Meets N H E [] → E
  meets_ended (ended e) = e

  pub meets_first : {E : Type 0} {x : Letter} {xs : Form} → Meets N H E (x ∷ xs) → MeetsLetter N H (Meets N H E xs) x
  meets_first (met h) = inl h
  meets_first (past n m) = inr (n, m)

  pub first_meets : {E : Type 0} {x : Letter} {xs : Form} → MeetsLetter N H (Meets N H E xs) x → Meets N H E (x ∷ xs)
  first_meets (inl h) = met h
  first_meets (inr q) = past q.0 q.1

  pub meets_map : {E F : Type 0} {xs : Form} → (E → F) → Meets N H E xs → Meets N H F xs
  meets_map f (met h) = met h
  meets_map f (past n m) = past n (meets_map f m)
  meets_map f (ended e) = ended (f e)

  pub meets_append : {E : Type 0} (xs : Form) {ys : Form} → Meets N H E (xs ++ ys) → Meets N H (Meets N H E ys) xs
  meets_append [] m = ended m
  meets_append (x ∷ xs) m = elim (meets_first m) [ inl h ↦ met h | inr q ↦ past q.0 (meets_append xs q.1) ]

  pub meets_joined : {E : Type 0} {ys xs : Form} → Meets N H (Meets N H E ys) xs → Meets N H E (xs ++ ys)
  meets_joined (met h) = met h
  meets_joined (past n m) = past n (meets_joined m)
  meets_joined (ended m) = m

  -- Where x stands for xs, what is met with xs is met with x.
  pub meets_before : {E : Type 0} (l xs r : Form) (x : Letter) → ((F : Type 0) → Meets N H F xs → MeetsLetter N H F x) → Meets N H E (l ++ xs ++ r) → Meets N H E (l ++ x ∷ r)
  meets_before {E} l xs r x closed m =
      meets_joined (meets_map (λ q. first_meets (closed (Meets N H E r) (meets_append xs q))) (meets_append l (rw append_assoc at m)))

  -- Where a nonterminal of a form with Q stands for its right sides, and Q is kept, derivations go back.
  pub meets_back : (g : Rules) (Q : Form → Type 0) →
      ((l r : Form) (p : ℕ) → p < rule_count g → Q (l ++ nonterminal g (left_of g p) ∷ r) →
      (F : Type 0) → Meets N H F (right_of g p) → MeetsLetter N H F (nonterminal g (left_of g p))) →
      ((a b : Form) → Rewrites g a b → Q a → Q b) →
      {E : Type 0} {a b : Form} → Derives g a b → Q a → Meets N H E b → Meets N H E a
  meets_back g Q closed kept done q m = m
  meets_back g Q closed kept {E} {a} (next {b = b} s d) q m =
      rewrites_by (λ a b. Q a → Meets N H E b → Meets N H E a)
      (λ l r p h at. meets_before l (right_of g p) r (nonterminal g (left_of g p)) (closed l r p h at))
      s q (meets_back g Q closed kept d (kept a b s q) m)

-- For each nonterminal a of the form, what is met behind it gives Y a.
abbrev pub Behind : Rules → (Letter → Type 0) → (Letter → Type 0) → Type 0 → (ℕ → Type 0) → Form → Type 0
Behind g N H E Y f = (l : Form) (a : ℕ) (r : Form) → f ≡ l ++ nonterminal g a ∷ r → Meets N H E r → Y a

module _ (g : Rules) (N H : Letter → Type 0) (E : Type 0) (Y : ℕ → Type 0) where
  pub behind_one : (b : ℕ) → (E → Y b) → Behind g N H E Y (nonterminal g b ∷ [])
  behind_one b y [] a r e m =
      let letters : g.terminals + b ≡ g.terminals + a = cc in
      let ends : r ≡ [] = cc in
      let same : b ≡ a = omega arith in
      subst Y same (y (meets_ended (subst (Meets N H E) ends m)))
  behind_one b y (x ∷ []) a r e m = let z : ◌≡◌ {A = ℕ} 0 1 = cc in absurd (omega arith)
  behind_one b y (x ∷ x₁ ∷ l) a r e m = let z : ◌≡◌ {A = ℕ} 0 1 = cc in absurd (omega arith)

  pub behind_rewritten : (u w : Form) (b : ℕ) (right : Form) →
      ((l m : Form) (a : ℕ) → u ++ nonterminal g b ∷ w ≡ l ++ nonterminal g a ∷ (m ++ nonterminal g b ∷ w) →
      (Meets N H E (m ++ nonterminal g b ∷ w) → Y a) → Meets N H E (m ++ right ++ w) → Y a) →
      ((l m : Form) (a : ℕ) → right ≡ l ++ nonterminal g a ∷ m → Meets N H (Y b) m → Y a) →
      Behind g N H E Y (u ++ nonterminal g b ∷ w) → Behind g N H E Y (u ++ right ++ w)
  behind_rewritten u w b right before within s l a r e m =
      elim (split (u ++ right) w l (nonterminal g a) r e) [
        | inl q ↦ (elim (split u right l (nonterminal g a) q.0 q.1) [
          | inl t ↦ (let old = ap (λ z. z ++ nonterminal g b ∷ w) t.1 ∙ append_assoc l (nonterminal g a ∷ t.0) (nonterminal g b ∷ w) in
              before l t.0 a old (s l a (t.0 ++ nonterminal g b ∷ w) old) (subst (Meets N H E) (q.2 ∙ ap (λ z. z ++ w) t.2) m))
          | inr t ↦ within t.0 q.0 a t.2 (meets_map (s u b w refl) (meets_append q.0 (subst (Meets N H E) q.2 m)))
        ])
        | inr q ↦ s (u ++ nonterminal g b ∷ q.0) a r (ap (λ z. u ++ nonterminal g b ∷ z) q.2 ∙ sym (append_assoc u (nonterminal g b ∷ q.0) (nonterminal g a ∷ r))) m
      ]
