-- An equation's value depends on its operands' values alone, and rises with them. Assumes nothing.
use Rattle.std.proofs.Common.{◌≡◌, ℕ, zero, suc, ◌<◌, ◌↔◌, Ok, Err, refl, ◌∙◌, arith}
use Rattle.equations.specs.Equations.{Equations, Operand, stepped, after, equation, Lawful}
use Rattle.equations.specs.Reach.{Uses}

-- Each step keeps the relation R.
abbrev pub StepKeeps : {V : Type 0} → (V → V → Type 0) → Equations V → Type 0
StepKeeps {V} R e = (i k : ℕ) (x y v w : V) → R x y → R v w → R (e.step i k x v) (e.step i k y w)

module _ {V : Type 0} (R : V → V → Type 0) (each : (x : V) → R x x) (e : Equations V) (keeps : StepKeeps R e) (w u : ℕ → V) where
  stepped_rel : (i k : ℕ) (x y : V) (op : Operand) → R x y → ((j : ℕ) → op ≡ Ok j → R (w j) (u j)) → R (stepped e w i k x op) (stepped e u i k y op)
  stepped_rel i k x y (Ok j) p q = keeps i k x y (w j) (u j) p (q j refl)
  stepped_rel i k x y (Err d) p q = p

  after_rel : (i n : ℕ) → ((o j : ℕ) → o < n → e.operand i o ≡ Ok j → R (w j) (u j)) → R (after e w i n) (after e u i n)
  after_rel i zero h = each (e.start i)
  after_rel i (suc k) h =
      stepped_rel i k (after e w i k) (after e u i k) (e.operand i k) (after_rel i k (λ o j l q. h o j (omega arith) q)) (λ j q. h k j (omega arith) q)

  -- A relation that each step keeps, and that holds of the operands' values, holds of the equations' values.
  pub equation_rel : (i : ℕ) → ((j : ℕ) → Uses e i j → R (w j) (u j)) → R (equation e w i) (equation e u i)
  equation_rel i h = after_rel i (e.count i) (λ o j l q. h j (o, l, q))

module _ {V : Type 0} (e : Equations V) where
  pub equation_same : (w u : ℕ → V) (i : ℕ) → ((j : ℕ) → Uses e i j → w j ≡ u j) → equation e w i ≡ equation e u i
  equation_same = equation_rel (λ x y. x ≡ y) (λ x. refl) e (λ i k x y v w p q. λ d. e.step i k (p d) (q d))

  pub equation_mono : {le : V → V → Type 0} → ((x : V) → le x x) → StepKeeps le e → (w u : ℕ → V) (i : ℕ) → ((j : ℕ) → Uses e i j → le (w j) (u j)) → le (equation e w i) (equation e u i)
  equation_mono {le} le_refl keeps = equation_rel le le_refl e keeps

-- The rules over one order and bottom are the rules over another that agrees with it.
pub lawful_by : {V : Type 0} {x y : V} {a b : V → V → Type 0} {e : Equations V} → x ≡ y → ((v w : V) → a v w ↔ b v w) → Lawful x a e → Lawful y b e
lawful_by p h l =
    record {
      size_within = l.size_within;
      count_within = l.count_within;
      operand_within = l.operand_within;
      step_mono = λ i k x y v w q r. (h _ _).0 (l.step_mono i k x y v w ((h x y).1 q) ((h v w).1 r));
      count_past = l.count_past;
      start_past = λ i q. l.start_past i q ∙ p;
      operand_past = l.operand_past;
      step_past = l.step_past;
    }
