-- A turn takes the value so far through the step of its operand.
use Rattle.std.proofs.Common.{◌≡◌, ℕ, ◌+◌, ◌<◌, ◌≤◌, get_or, Ok, Err, sym, ap, ◌∙◌, add-one, arith}
use Rattle.std.proofs.lemmas.List.{get_or_read}
use Rattle.equations.specs.Equations.{Equations, Operand, Lawful, stepped, after}
use Rattle.equations.proofs.listed.listed_value.Goals as goal
use Rattle.equations.proofs.listed.listed_value.Goals.{in-Ok, in_default}

-- An operand of a lawful system is below n, if the system's size is at most n.
operand_below : {V : Type 0} {bot : V} {le : V → V → Type 0} {e : Equations V} → Lawful bot le e → {n : ℕ} → e.size ≤ n → (i k j : ℕ) → e.operand i k ≡ Ok j → j < n
operand_below lawful room i k j q = omega (arith, lawful.operand_within i k j q)

pub bounds-values-j : goal.bounds-values-j
bounds-values-j g c =
    operand_below (g.S.System.lawful c.args.system.now) c.requires c.args.instance c.loop-k.k c.in-Ok.j (sym c.operand.ensures ∙ c.in-Ok.is)

pub offset_bounds-values-j : goal.offset_bounds-values-j
offset_bounds-values-j g c = omega (arith, bounds-values-j g c)

one_more : {V : Type 0} (e : Equations V) (w : ℕ → V) (i k : ℕ) (op : Operand) (y : V) → e.operand i k ≡ op → y ≡ stepped e w i k (after e w i k) op → y ≡ after e w i (k + 1)
one_more e w i k op y q p = rw add-one (p ∙ ap (stepped e w i k (after e w i k)) (sym q))

pub loop-k-preserved : goal.loop-k-preserved
loop-k-preserved g c =
    let e = g.S.System.equations c.args.system.now in
    let bot = g.S.Value.Lattice.bot in
    let values = c.args.values.now in
    let i = c.args.instance in
    let k = c.loop-k.k in
    elim c.match-operand.branch [
      | in-Ok w ↦
          let j = w.in-Ok.j in
          let q = sym c.operand.ensures ∙ w.in-Ok.is in
          let below = operand_below (g.S.System.lawful c.args.system.now) c.requires i k j q in
          let read = get_or_read values j w.index-values-j.result below w.index-values-j.is bot in
          one_more e (λ z. get_or values z bot) i k (Ok j) _ q (w.so_far-is ∙ w.step-so_far.ensures ∙ λ d. e.step i k (c.loop-k.invariant d) (read d))
      | in_default w ↦ one_more e (λ z. get_or values z bot) i k (Err w.in_default.field-0) _ (sym c.operand.ensures ∙ w.in_default.is) (w.so_far-is ∙ c.loop-k.invariant)
    ]
