-- A turn takes the value so far through the step of its operand.
use Rattle.std.proofs.Common.{◌≡◌, ℕ, ◌+◌, ◌<◌, ◌≤◌, Ok, Err, sym, ap, ◌∙◌, add-one, arith}
use Rattle.std.proofs.lemmas.List.{get_or_read}
use Rattle.equations.specs.Equations.{Equations, Operand, Lawful, stepped, after}
use Rattle.table_model.specs.Rows.{row, values}
use Rattle.table_model.specs.declared.row.Mark.TheVariants.{Untouched}
use Rattle.attribute_table.specs.Lent.{rows_of}
use Rattle.attribute_table.proofs.rows.value_over_rows.Goals as goal
use Rattle.attribute_table.proofs.rows.value_over_rows.Goals.{in-Ok, in_default}

-- An operand of a lawful system is below n, if the system's size is at most n.
operand_below : {V : Type 0} {bot : V} {le : V → V → Type 0} {e : Equations V} → Lawful bot le e → {n : ℕ} → e.size ≤ n → (i k j : ℕ) → e.operand i k ≡ Ok j → j < n
operand_below lawful room i k j q = omega (arith, lawful.operand_within i k j q)

pub bounds-rows-j : goal.bounds-rows-j
bounds-rows-j g c =
    operand_below (g.S.System.lawful c.args.system.now) c.requires c.args.instance c.loop-k.k c.in-Ok.j (sym c.operand.ensures ∙ c.in-Ok.is)

pub offset_bounds-rows-j : goal.offset_bounds-rows-j
offset_bounds-rows-j g c = omega (arith, bounds-rows-j g c)

-- The value after operand k, which is an instance or dangles.
module _ {V : Type 0} (e : Equations V) (w : ℕ → V) (i k : ℕ) (x y : V) (so_far : x ≡ after e w i k) where
  through : (op : Operand) → e.operand i k ≡ op → y ≡ stepped e w i k x op → y ≡ after e w i (k + 1)
  through op q p = rw (add-one k) (p ∙ λ d. stepped e w i k (so_far d) (sym q d))

  taken : (j : ℕ) (v : V) → e.operand i k ≡ Ok j → v ≡ w j → y ≡ e.step i k x v → y ≡ after e w i (k + 1)
  taken j v q r p = through (Ok j) q (p ∙ ap (e.step i k x) r)

pub loop-k-preserved : goal.loop-k-preserved
loop-k-preserved g c =
    let e = g.S.System.equations c.args.system.now in
    let bot = g.S.Value.Lattice.bot in
    let rows = c.args.rows.now in
    let i = c.args.instance in
    let k = c.loop-k.k in
    let w = values (rows_of bot rows) in
    elim c.match-operand.branch [
      | in-Ok h ↦
          let j = h.in-Ok.j in
          let q = sym c.operand.ensures ∙ h.in-Ok.is in
          let below = operand_below (g.S.System.lawful c.args.system.now) c.requires i k j q in
          let read = get_or_read rows j h.index-rows-j.result below h.index-rows-j.is (row Untouched bot) in
          taken e w i k _ _ c.loop-k.invariant j _ q (ap (λ r. r.value) read) (h.so_far-is ∙ h.step-so_far.ensures)
      | in_default h ↦ through e w i k _ _ c.loop-k.invariant (Err h.in_default.field-0) (sym c.operand.ensures ∙ h.in_default.is) h.so_far-is
    ]
