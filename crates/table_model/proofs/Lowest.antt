-- The lowest number with a property, and the lowest dangling operand in reach of an instance. Assumes nothing.
use Rattle.std.proofs.Common.{◌≡◌, ℕ, zero, suc, ◌<◌, ◌≤◌, ◌⊎◌, Ok, Err, sym, refl, subst, inl, inr, ⊎_elim, arith}
use Rattle.std.proofs.lemmas.Bool.{cases_lt, cases_order}
use Rattle.references.specs.declared.Dangling.{Dangling}
use Rattle.equations.specs.Equations.{Equations, Operand, Lawful}
use Rattle.equations.specs.Reach.{Reach, DanglesAt, Whole}
use Rattle.equations.proofs.Paths.{reach_within}
use Rattle.equations.proofs.Decided.{reach_decided}
use Rattle.table_model.specs.declared.fault.DanglingOperand.{DanglingOperand}
use Rattle.table_model.specs.Calls.{LowestDangling}

-- From an equation of two different constructors `cc` proves that 0 is 1.
pub never : ◌≡◌ {A = ℕ} 0 1 → ⊥
never p = omega arith

-- k is below n and has the property, and no lower number has it.
abbrev pub LowestBelow : (ℕ → Type 0) → ℕ → ℕ → Type 0
LowestBelow P n k = (k < n) × P k × ((j : ℕ) → j < k → P j → ⊥)

-- Of a property that is decided below n: the lowest number that has it, or none has it.
pub lowest_or_none : (P : ℕ → Type 0) (n : ℕ) → ((k : ℕ) → k < n → P k ⊎ (P k → ⊥)) → ((k : ℕ) × LowestBelow P n k) ⊎ ((k : ℕ) → k < n → P k → ⊥)
lowest_or_none P zero decided = inr (λ k l p. omega arith)
lowest_or_none P (suc n) decided =
    ⊎_elim
    (λ f. inl (f.0, (omega (arith, f.1.0), f.1.1, f.1.2)))
    (λ none.
    ⊎_elim
    (λ p. inl (n, (omega arith, p, none)))
    (λ q. inr (λ k l p. ⊎_elim (λ m. none k m p) (λ (m : n ≤ k). let is : k ≡ n = omega arith in q (subst P is p)) (cases_lt k n)))
    (decided n (omega arith)))
    (lowest_or_none P n (λ k l. decided k (omega arith)))

both_decided : {P Q : Type 0} → P ⊎ (P → ⊥) → Q ⊎ (Q → ⊥) → (P × Q) ⊎ (P × Q → ⊥)
both_decided (inl p) (inl q) = inl (p, q)
both_decided (inl p) (inr q) = inr (λ h. q h.1)
both_decided (inr p) q = inr (λ h. p h.0)

dangling_decided : (op : Operand) → ((x : Dangling) × (op ≡ Err x)) ⊎ ((x : Dangling) × (op ≡ Err x) → ⊥)
dangling_decided (Ok j) = inr (λ h. never (cc h.1))
dangling_decided (Err x) = inl (x, refl)

-- Two pairs of numbers, each at or before the other, are the same.
pairs_same : (a b c d : ℕ) → (a < b) ⊎ ((a ≡ b) × (c ≤ d)) → (b < a) ⊎ ((b ≡ a) × (d ≤ c)) → (a ≡ b) × (c ≡ d)
pairs_same a b c d (inl p) (inl q) = absurd (omega arith)
pairs_same a b c d (inl p) (inr q) = absurd (omega arith)
pairs_same a b c d (inr p) (inl q) = absurd (omega arith)
pairs_same a b c d (inr p) (inr q) = (p.0, omega arith)

module _ {V : Type 0} (e : Equations V) where
  -- Operand o of j dangles.
  abbrev Dangles : ℕ → ℕ → Type 0
  Dangles j o = (x : Dangling) × (e.operand j o ≡ Err x)

  -- j has a dangling operand, and this is its lowest.
  abbrev HasDangling : ℕ → Type 0
  HasDangling j = (o : ℕ) × LowestBelow (Dangles j) (e.count j) o

  lowest_operand : (j : ℕ) → HasDangling j ⊎ ((o : ℕ) → o < e.count j → Dangles j o → ⊥)
  lowest_operand j = lowest_or_none (Dangles j) (e.count j) (λ o l. dangling_decided (e.operand j o))

  has_dangling : (j o : ℕ) (x : Dangling) → DanglesAt e j o x → HasDangling j
  has_dangling j o x h = ⊎_elim (λ f. f) (λ none. absurd (none o h.0 (x, h.1))) (lowest_operand j)

  has_dangling_decided : (j : ℕ) → HasDangling j ⊎ (HasDangling j → ⊥)
  has_dangling_decided j = ⊎_elim inl (λ none. inr (λ f. none f.0 f.1.0 f.1.1)) (lowest_operand j)

  -- j is in reach of i and has a dangling operand.
  abbrev Found : ℕ → ℕ → Type 0
  Found i j = Reach e i j × HasDangling j

  abbrev operand_of : (i j : ℕ) → Found i j → DanglingOperand
  operand_of i j f = record { instance = j; operand = f.1.0; dangling = f.1.1.1.0 }

  -- The lowest such j gives the lowest dangling operand.
  found_lowest : (i n j : ℕ) → (f : LowestBelow (Found i) n j) → LowestDangling e i (operand_of i j f.1)
  found_lowest i n j f =
      let first = f.1.1.1 in
      record {
        reaches = f.1.0;
        dangles = (first.0, first.1.1);
        lowest = λ k o x r d.
            ⊎_elim
            (λ is.
            inr (is, ⊎_elim (λ l. absurd (first.2 o l (subst (λ m. Dangles m o) (sym is) (x, d.1)))) (λ l. l) (cases_lt o f.1.1.0)))
            (⊎_elim inl (λ l. absurd (f.2 k l (r, has_dangling k o x d))))
            (cases_order j k);
      }

  pub lowest_dangling_one : (i : ℕ) (c d : DanglingOperand) → LowestDangling e i c → LowestDangling e i d → c ≡ d
  lowest_dangling_one i c d p q =
      let first = p.lowest d.instance d.operand d.dangling q.reaches q.dangles in
      let second = q.lowest c.instance c.operand c.dangling p.reaches p.dangles in
      let s = pairs_same c.instance d.instance c.operand d.operand first second in
      let u = p.dangles.1 in
      let v = q.dangles.1 in
      let x : c.dangling ≡ d.dangling = cc in
      λ t. record { instance = s.0 t; operand = s.1 t; dangling = x t }

  module _ {bot : V} {le : V → V → Type 0} (lawful : Lawful bot le e) where
    -- An instance is whole, or there is the lowest dangling operand that it reaches.
    pub lowest_dangling : (i : ℕ) → i < e.size → Whole e i ⊎ ((d : DanglingOperand) × LowestDangling e i d)
    lowest_dangling i l =
        ⊎_elim
        (λ f. inr (operand_of i f.0 f.1.1, found_lowest i e.size f.0 f.1))
        (λ none. inl (λ w. none w.0 (reach_within e lawful l w.3) (w.3, has_dangling w.0 w.1 w.2 w.4)))
        (lowest_or_none (Found i) e.size (λ j m. both_decided (reach_decided e lawful i j l) (has_dangling_decided j)))
