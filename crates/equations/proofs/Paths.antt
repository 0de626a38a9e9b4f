-- Reach is transitive, and what a whole instance reaches is a whole instance. Assumes nothing.
use Rattle.std.proofs.Common.{ℕ, ◌<◌}
use Rattle.equations.specs.Equations.{Equations, Lawful}
use Rattle.equations.specs.Reach.{Uses, Reach, here, along, Whole, WholeInstance}

pub reach_trans : {V : Type 0} {e : Equations V} {i j k : ℕ} → Reach e i j → Reach e j k → Reach e i k
reach_trans here q = q
reach_trans (along o l h p) q = along o l h (reach_trans p q)

pub reach_uses : {V : Type 0} {e : Equations V} {i j : ℕ} → Uses e i j → Reach e i j
reach_uses u = along u.0 u.1 u.2 here

pub whole_reach : {V : Type 0} (e : Equations V) (i j : ℕ) → Whole e i → Reach e i j → Whole e j
whole_reach e i j whole r d = whole (d.0, d.1, d.2, reach_trans r d.3, d.4)

module _ {V : Type 0} {bot : V} {le : V → V → Type 0} (e : Equations V) (lawful : Lawful bot le e) where
  pub reach_within : {i j : ℕ} → i < e.size → Reach e i j → j < e.size
  reach_within l here = l
  reach_within l (along {i = a} {j = b} o m h p) = reach_within (lawful.operand_within a o b h) p

  pub whole_instance_reach : (i j : ℕ) → WholeInstance e i → Reach e i j → WholeInstance e j
  whole_instance_reach i j w r = (reach_within w.0 r, whole_reach e i j w.1 r)

  pub whole_operand : (i j : ℕ) → WholeInstance e i → Uses e i j → WholeInstance e j
  whole_operand i j w u = whole_instance_reach i j w (reach_uses u)
