-- The values that calls tell. Assumes nothing.
use Rattle.std.proofs.Common.{◌≡◌, ℕ, refl}
use Rattle.table_model.specs.declared.fault.TableFault.{TableFault}
use Rattle.table_model.specs.Calls.{Call, close_of, demand_at, read_at, Result, Answer, refused, opened, rounded, closed, gave_up, demanded, valued}

-- The answered call tells the value x of i.
pub data Tells {V : Type 0} : Call → Answer V → ℕ → V → Type 0 where
  close_tells : {i : ℕ} {r : Result V} → Tells (close_of i) (closed r) i r.value
  demand_tells : {i : ℕ} {r : Result V} → Tells (demand_at i) (demanded r) i r.value
  read_tells : {i : ℕ} {x : V} → Tells (read_at i) (valued x) i x

-- A refusal, an open session, a round and a give-up tell no value.
pub refused_silent : {V : Type 0} {c : Call} {f : TableFault} {i : ℕ} {x : V} → Tells c (refused f) i x → ⊥
refused_silent t = elim t [ ]

pub opened_silent : {V : Type 0} {c : Call} {i : ℕ} {x : V} → Tells c opened i x → ⊥
opened_silent t = elim t [ ]

pub rounded_silent : {V : Type 0} {c : Call} {n i : ℕ} {x : V} → Tells c (rounded n) i x → ⊥
rounded_silent t = elim t [ ]

pub gave_silent : {V : Type 0} {c : Call} {n i : ℕ} {x : V} → Tells c (gave_up n) i x → ⊥
gave_silent t = elim t [ ]

-- The others tell one.
pub close_value : {V : Type 0} {i j : ℕ} {r : Result V} {x : V} → Tells (close_of i) (closed r) j x → (i ≡ j) × (x ≡ r.value)
close_value close_tells = (refl, refl)

pub demand_value : {V : Type 0} {i j : ℕ} {r : Result V} {x : V} → Tells (demand_at i) (demanded r) j x → (i ≡ j) × (x ≡ r.value)
demand_value demand_tells = (refl, refl)

pub read_value : {V : Type 0} {i j : ℕ} {x y : V} → Tells (read_at i) (valued x) j y → (i ≡ j) × (y ≡ x)
read_value read_tells = (refl, refl)
