-- What a log of demands alone answers: a demand's outcome depends on its instance alone. Assumes nothing.
use Rattle.std.proofs.Common.{◌≡◌, ℕ, ◌<◌, ◌≤◌, Bool, ◌⊎◌, List, ◌∷◌, sym, refl, ap, ◌∙◌, subst, ⊎_elim, arith}
use Rattle.std.specs.List.{AllByRecursion}
use Rattle.std.proofs.ByRecursion.{All-weaker}
use Rattle.lattices.specs.Laws.{LatticeLaws}
use Rattle.equations.specs.Equations.{Equations, Lawful}
use Rattle.equations.specs.Reach.{WholeInstance, Least}
use Rattle.table_model.specs.declared.fault.DanglingOperand.{DanglingOperand}
use Rattle.table_model.specs.declared.fault.TableFault.TheVariants as fault
use Rattle.table_model.specs.declared.record.State.{State}
use Rattle.table_model.specs.declared.record.State.TheVariants.{Idle}
use Rattle.table_model.specs.Calls.{demand_at, Result, Answer, refused, demanded, TableModel, LowestDangling}
use Rattle.table_model.specs.Laws.{SameOutcome, both_value, both_refused}
use Rattle.table_model.specs.Rows.{Rows}
use Rattle.table_model.specs.Runs.{Log, event, In, newest, older, Run, none, more, Start, Demands, no_demand, demand}
use Rattle.table_model.specs.Steps.{Step, demand_busy, demand_none, demand_final, demand_dangling, demand_done}
use Rattle.table_model.proofs.Tells.{demand_tells}
use Rattle.table_model.proofs.Told.{in_none, in_cases}
use Rattle.table_model.proofs.Invariant.{holds}

-- A demand for i is in the log.
abbrev pub Demanded : {V : Type 0} → Log V → ℕ → Type 0
Demanded {V} log i = (a : Answer V) × In (event (demand_at i) a) log

pub all_demanded : {V : Type 0} {log : Log V} {is : List ℕ} → Demands log is → AllByRecursion (Demanded log) is
all_demanded no_demand = tt
all_demanded (demand {i = i} {a = a} {log = log} {is = is} d) =
    ((a, newest), All-weaker (Demanded log) (Demanded (event (demand_at i) a ∷ log)) (λ j p. (p.0, older p.1)) is (all_demanded d))

-- What holds of all demanded instances holds of one.
pub demanded_all : {V : Type 0} (P : ℕ → Type 0) {log : Log V} {is : List ℕ} {i : ℕ} → Demands log is → AllByRecursion P is → Demanded log i → P i
demanded_all P no_demand ps p = absurd (in_none p.1)
demanded_all P {i = i} (demand {i = j} d) ps p =
    ⊎_elim
    (λ same. let q = ap (λ x. x.call) same in let k : j ≡ i = cc in subst P k ps.0)
    (λ old. demanded_all P d ps.1 (p.0, old))
    (in_cases p.1)

-- The outcomes of a demand for i at an idle table.
pub data Outcome {V : Type 0} (e : Equations V) (v : ℕ → V) (i : ℕ) : Answer V → Type 0 where
  no_instance : e.size ≤ i → Outcome e v i (refused fault.NoInstance)
  dangling : {d : DanglingOperand} → i < e.size → LowestDangling e i d → Outcome e v i (refused (fault.Dangling d))
  answered : {r : Result V} → WholeInstance e i → r.value ≡ v i → Outcome e v i (demanded r)

lowest_same : (a b o p : ℕ) → (a < b) ⊎ ((a ≡ b) × (o ≤ p)) → (b < a) ⊎ ((b ≡ a) × (p ≤ o)) → (a ≡ b) × (o ≡ p)
lowest_same a b o p =
    ⊎_elim (λ l. ⊎_elim (λ m. absurd (omega arith)) (λ m. absurd (omega arith)))
    (λ l. ⊎_elim (λ m. absurd (omega arith)) (λ m. (l.0, omega arith)))

-- There is one lowest dangling operand.
pub lowest_one : {V : Type 0} {e : Equations V} {i : ℕ} {c d : DanglingOperand} → LowestDangling e i c → LowestDangling e i d → c ≡ d
lowest_one {e = e} {c = c} {d = d} p q =
    let at = lowest_same c.instance d.instance c.operand d.operand
    (p.lowest d.instance d.operand d.dangling q.reaches q.dangles) (q.lowest c.instance c.operand c.dangling p.reaches p.dangles) in
    let first = at.0 in
    let second = at.1 in
    let left = p.dangles.1 in
    let right = q.dangles.1 in
    let third : c.dangling ≡ d.dangling = cc in
    λ t. record { instance = first t; operand = second t; dangling = third t }

-- Two outcomes for one instance are the same.
pub outcomes_same : {V : Type 0} {e : Equations V} {v : ℕ → V} {i : ℕ} {a b : Answer V} → Outcome e v i a → Outcome e v i b → SameOutcome a b
outcomes_same (no_instance l) (no_instance m) = both_refused
outcomes_same (no_instance l) (dangling m q) = absurd (omega arith)
outcomes_same (no_instance l) (answered m q) = absurd (omega (arith, m.0))
outcomes_same (dangling l p) (no_instance m) = absurd (omega arith)
outcomes_same {V = V} (dangling {d = c} l p) (dangling {d = d} m q) =
    subst (λ x. SameOutcome {V = V} (refused (fault.Dangling c)) (refused (fault.Dangling x))) (lowest_one p q) both_refused
outcomes_same (dangling l p) (answered m q) = absurd (m.1 (_, _, _, p.reaches, p.dangles))
outcomes_same (answered l p) (no_instance m) = absurd (omega (arith, l.0))
outcomes_same (answered l p) (dangling m q) = absurd (l.1 (_, _, _, q.reaches, q.dangles))
outcomes_same (answered l p) (answered m q) = both_value (p ∙ sym q)

module _ {V : Type 0} (bot : V) (same : V → V → Bool) (e : Equations V) (v : ℕ → V) where
  step_outcome : {s : State} {rows : Rows V} {i : ℕ} {a : Answer V} {u : TableModel V} → s ≡ Idle → ((r : Result V) → a ≡ demanded r → WholeInstance e i × (r.value ≡ v i)) → Step bot same e s rows (demand_at i) a u → (u.state ≡ Idle) × Outcome e v i a
  step_outcome idle right (demand_busy n) = absurd (n idle)
  step_outcome idle right (demand_none p l) = (idle, no_instance l)
  step_outcome idle right (demand_final p l q) = let r = right _ refl in (idle, answered r.0 r.1)
  step_outcome idle right (demand_dangling p l n low) = (idle, dangling l low)
  step_outcome idle right (demand_done p l n whole w) = let r = right _ refl in (refl, answered r.0 r.1)

module _ {V : Type 0} {bot : V} {le : V → V → Type 0} {lub : V → V → V} {same : V → V → Bool} {height : ℕ} {rank : V → ℕ} (laws : LatticeLaws bot le lub same height rank) (e : Equations V) (lawful : Lawful bot le e) (v : ℕ → V) (least : Least le e v) {begin : TableModel V} (start : Start bot le e begin) where
  -- Demands leave the table idle, and each has its outcome.
  pub outcomes : {log : Log V} {t : TableModel V} {is : List ℕ} → Run bot same e begin log t → Demands log is → (t.state ≡ Idle) × ((i : ℕ) (a : Answer V) → In (event (demand_at i) a) log → Outcome e v i a)
  outcomes none no_demand = (start.idle, λ i a p. absurd (in_none p))
  outcomes (more r step) (demand {i = j} {a = b} {log = log} d) =
      let before = outcomes r d in
      let h = holds laws e lawful v least begin start (more r step) in
      let right : (s : Result V) → b ≡ demanded s → WholeInstance e j × (s.value ≡ v j) =
      λ s q. let at = h.told.answered (demand_at j) (demanded s) j s.value (subst (λ a. In (event (demand_at j) a) (event (demand_at j) b ∷ log)) q newest) demand_tells in (h.finals.whole j at.0 at.1, at.2) in
      let now = step_outcome bot same e v before.0 right step in (
        now.0,
        λ i a p. ⊎_elim (λ (q : event (demand_at i) a ≡ event (demand_at j) b).
            let x = ap (λ y. y.call) q in
            let k : j ≡ i = cc in
            subst (λ n. Outcome e v n a) k (subst (Outcome e v j) (ap (λ y. y.answer) (sym q)) now.1)) (λ old. before.1 i a old) (in_cases p),
      )
