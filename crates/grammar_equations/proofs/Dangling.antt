-- An instance leads to a dangling name exactly where derivations do. Assumes nothing.
use Rattle.std.proofs.Common.{◌≡◌, ℕ, suc, ◌+◌, ◌<◌, ◌⊎◌, ◌↔◌, List, [], ◌∷◌, ◌++◌, length, drop, Some, Ok, Err, sym, refl, ap, ◌∙◌, inl, inr, ⊎_elim}
use Rattle.references.specs.declared.Dangling.{Dangling}
use Rattle.std.specs.List.{slice_get}
use Rattle.std.proofs.lemmas.List.{append_assoc}
use Rattle.grammar_equations.specs.Derivations.{nonterminal, Derives, done, next, DerivesDangling, PrecedesDangling}
use Rattle.grammar_equations.specs.GrammarEquations.{operands}
use Rattle.grammar_equations.specs.Instances.{Instance, symbol, suffix, occurrence, follow}
use Rattle.grammar_equations.specs.Paths.{In, Leads, here, along, LeadsToDangling}
use Rattle.grammar_equations.specs.Rules.{Letter, known, dangling, Form, Rules, WellFormed, rule_count, left_of, right_of}
use Rattle.grammar_equations.proofs.Derivation.{rewrites_by, derives_rule, derives_right, derives_to}
use Rattle.grammar_equations.proofs.Forms.{Meets, met, past, ended, MeetsLetter, meets_before, meets_back, Behind, behind_one, behind_rewritten}
use Rattle.grammar_equations.proofs.Lists.{nth_drop, nth_behind, drop_some, drop_behind}
use Rattle.grammar_equations.proofs.OperandSorts.{Reads, production, letter, unknown, rest, behind, above, occurs, reads, leads_by, leads_at}
use Rattle.grammar_equations.proofs.Targets.{To, After, to_from, to_left, after_in, after_up}

abbrev pub Any : Letter → Type 0
Any x = Unit {0}

-- The letter is dangling, or its symbol leads to a dangling name.
abbrev pub Unknown : Rules → Letter → Type 0
Unknown g (known s) = LeadsToDangling g (symbol s)
Unknown g (dangling name) = Unit {0}

abbrev pub HasUnknown : Rules → Form → Type 0
HasUnknown g = Meets Any (Unknown g) ⊥

-- From derivations to paths.
module _ (g : Rules) where
  pub suffix_leads : {F : Type 0} (p k : ℕ) {f : Form} → drop k (right_of g p) ≡ f → Meets Any (Unknown g) F f → LeadsToDangling g (suffix p k) ⊎ F
  suffix_leads p k e (met {x = known s} h) = inl (leads_by g (letter p k s (nth_drop (right_of g p) k e).0) h)
  suffix_leads p k e (met {x = dangling name} h) = inl (leads_at g (unknown p k name (nth_drop (right_of g p) k e).0))
  suffix_leads p k e (past {x = x} n m) =
      let at = nth_drop (right_of g p) k e in
      ⊎_elim (λ d. inl (leads_by g (rest p k x at.0) d)) (λ q. inr q) (suffix_leads p (suc k) at.1 m)
  suffix_leads p k e (ended q) = inr q

  symbol_leads : (p : ℕ) → p < rule_count g → (F : Type 0) → Meets Any (Unknown g) F (right_of g p) → MeetsLetter Any (Unknown g) F (nonterminal g (left_of g p))
  symbol_leads p h F m = ⊎_elim (λ d. inl (leads_by g (production p h) d)) (λ q. inr (tt, q)) (suffix_leads p 0 refl m)

  pub unknown_back : {a b : Form} → Derives g a b → HasUnknown g b → HasUnknown g a
  unknown_back d m = meets_back g (λ f. Unit {0}) (λ l r p h q. symbol_leads p h) (λ a b s q. q) d tt m

  pub unknown_letter : {s : ℕ} → HasUnknown g (known s ∷ []) → LeadsToDangling g (symbol s)
  unknown_letter (met h) = h
  unknown_letter (past n (ended e)) = absurd e

  pub unknown_in : (l : Form) (x : Letter) (r : Form) → Unknown g x → HasUnknown g (l ++ x ∷ r)
  unknown_in [] x r u = met u
  unknown_in (y ∷ l) x r u = past tt (unknown_in l x r u)

  -- What is behind a nonterminal of a derived form, its follow leads to.
  abbrev pub FollowLeads : ℕ → Type 0
  FollowLeads a = LeadsToDangling g (follow a)

  abbrev pub UnknownBehind : Form → Type 0
  UnknownBehind = Behind g Any (Unknown g) ⊥ FollowLeads

  occurrence_leads : (p : ℕ) (l m : Form) (a : ℕ) → right_of g p ≡ l ++ nonterminal g a ∷ m → Meets Any (Unknown g) (FollowLeads (left_of g p)) m → FollowLeads a
  occurrence_leads p l m a e q =
      let k = length l in
      let at : slice_get (right_of g p) k ≡ Some (nonterminal g a) = rw e (nth_behind l (nonterminal g a) m) in
      let after : drop (suc k) (right_of g p) ≡ m = rw e (drop_behind l (nonterminal g a) m) in
      leads_by g (occurs p k a at) (⊎_elim (leads_by g (behind p k)) (leads_by g (above p k)) (suffix_leads p (suc k) after q))

  pub behind_derives : {a b : Form} → Derives g a b → UnknownBehind a → UnknownBehind b
  behind_derives done u = u
  behind_derives (next s d) u =
      behind_derives d
      (rewrites_by (λ a b. UnknownBehind a → UnknownBehind b)
      (λ l r p h. behind_rewritten g Any (Unknown g) ⊥ FollowLeads l r (left_of g p) (right_of g p)
      (λ l₁ m a old f q. f (meets_before m (right_of g p) r (nonterminal g (left_of g p)) (symbol_leads p h) q))
      (occurrence_leads p))
      s u)

  pub behind_start : (b : ℕ) → UnknownBehind (nonterminal g b ∷ [])
  behind_start b = behind_one g Any (Unknown g) ⊥ FollowLeads b (λ e. absurd e)

  symbol_to : (a : ℕ) → DerivesDangling g a → LeadsToDangling g (symbol (g.terminals + a))
  symbol_to a (l, r, name, d) = unknown_letter (unknown_back d (unknown_in l (dangling name) r tt))

  follow_to : (a : ℕ) → PrecedesDangling g a → LeadsToDangling g (follow a)
  follow_to a (b, l, m, r, name, h, d) =
      behind_derives d (behind_start b) l a (m ++ dangling name ∷ r) (append_assoc l (nonterminal g a ∷ m) (dangling name ∷ r)) (unknown_in m (dangling name) r tt)

-- From paths to derivations.
abbrev WithDangling : Form → Type 0
WithDangling f = (l : Form) × (name : List ℕ) × (r : Form) × (f ≡ l ++ dangling name ∷ r)

dangling_left : (f r : Form) → WithDangling f → WithDangling (f ++ r)
dangling_left f r (l, name, m, e) = (l, name, m ++ r, ap (λ z. z ++ r) e ∙ append_assoc l (dangling name ∷ m) r)

dangling_right : (u f : Form) → WithDangling f → WithDangling (u ++ f)
dangling_right u f (l, name, m, e) = (u ++ l, name, m, ap (λ z. u ++ z) e ∙ sym (append_assoc u l (dangling name ∷ m)))

module _ {g : Rules} (well : WellFormed g) where
  -- What each instance derives if it leads to a dangling name.
  abbrev Shown : Instance → Type 0
  Shown (symbol s) = To g WithDangling (known s ∷ [])
  Shown (suffix p k) = To g WithDangling (drop k (right_of g p))
  Shown (occurrence p k) = (x : Letter) → slice_get (right_of g p) k ≡ Some x → After g (λ b. WithDangling) x
  Shown (follow a) = After g (λ b. WithDangling) (nonterminal g a)

  shown_here : {x : Instance} {d : Dangling} → Reads g x (Err d) → Shown x
  shown_here (unknown p k name e) =
      (drop k (right_of g p), done, ([], name, drop (suc k) (right_of g p), drop_some (right_of g p) k e))

  shown_along : {x y : Instance} → Reads g x (Ok y) → Shown y → Shown x
  shown_along (production p h) t = to_from (derives_rule p h) t
  shown_along (letter p k s e) t = rw (drop_some (right_of g p) k e) (to_left dangling_left (drop (suc k) (right_of g p)) t)
  shown_along (rest p k x e) t = rw (drop_some (right_of g p) k e) (x ∷ t.0, derives_right (x ∷ []) t.1, dangling_right (x ∷ []) t.0 t.2)
  shown_along (behind p k) t = λ x e. after_in well p k x e (λ b r q. q) t
  shown_along (above p k) t = λ x e. after_up well p k x e done (λ b r. dangling_right (drop (suc k) (right_of g p)) r) t
  shown_along (occurs p k a e) t = t (nonterminal g a) e

  shown : {x y : Instance} {d : Dangling} → Leads g x y → In (Err d) (operands g y) → Shown x
  shown {x} here i = shown_here (reads g x i)
  shown {x} (along j l) i = shown_along (reads g x j) (shown l i)

  pub dangling_symbol : (a : ℕ) → a < g.nonterminals → LeadsToDangling g (symbol (g.terminals + a)) ↔ DerivesDangling g a
  dangling_symbol a h = (from, symbol_to g a)
    where
      from : LeadsToDangling g (symbol (g.terminals + a)) → DerivesDangling g a
      from (y, n, l, i) = let t = shown l i in (t.2.0, t.2.2, t.2.1, derives_to t.1 t.2.3)

  pub dangling_follow : (a : ℕ) → a < g.nonterminals → LeadsToDangling g (follow a) ↔ PrecedesDangling g a
  dangling_follow a h = (from, follow_to g a)
    where
      from : LeadsToDangling g (follow a) → PrecedesDangling g a
      from (y, n, w, i) =
          let (b, l, r, h, d, (m, name, q, e)) = shown w i in
          (b, l, m, q, name, h, derives_to d (ap (λ z. l ++ nonterminal g a ∷ z) e ∙ sym (append_assoc l (nonterminal g a ∷ m) (dangling name ∷ q))))
