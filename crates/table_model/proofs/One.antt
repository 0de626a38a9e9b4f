-- Any two steps of one call have the same answer and the same table after. Assumes nothing.
use Rattle.std.proofs.Common.{◌≡◌, ℕ, ◌<◌, ◌≤◌, Bool, ◌⊎◌, sym, refl, ap, ◌∙◌, subst, inl, inr, arith}
use Rattle.lattices.specs.Laws.{LatticeLaws}
use Rattle.equations.specs.Equations.{Equations, Lawful}
use Rattle.equations.specs.Reach.{Whole, ReachesDangling}
use Rattle.equations.specs.Rounds.{changes}
use Rattle.table_model.specs.declared.fault.DanglingOperand.{DanglingOperand}
use Rattle.table_model.specs.declared.fault.TableFault.TheVariants as fault
use Rattle.table_model.specs.declared.record.State.{State}
use Rattle.table_model.specs.declared.record.State.TheVariants.{Idle, Iterating}
use Rattle.table_model.specs.declared.row.Mark.TheVariants.{Final}
use Rattle.table_model.specs.Calls.{Call, open_at, round_of, close_of, give_up_open, give_up_settled, demand_at, read_at, Result, Answer, refused, opened, rounded, closed, gave_up, demanded, valued, TableModel, evaluation, LowestDangling}
use Rattle.table_model.specs.Rows.{Rows, pending, values, Opened, Rounded, MadeFinal, Released, pending_count}
use Rattle.table_model.specs.Steps.{round_state, Worked, FitsOpen, FitsSettled, Step, open_busy, open_none, open_final, open_dangling, open_done, round_done, round_unfit, close_none, close_unfit, close_done, give_open, give_open_unfit, give_settled, give_settled_unfit, demand_busy, demand_none, demand_final, demand_dangling, demand_done, read_none, read_not, read_done}
use Rattle.table_model.specs.Laws.{SameTable}
use Rattle.table_model.proofs.Lowest.{lowest_dangling_one}
use Rattle.table_model.proofs.RowsAfter.{row_same, opened_one, made_final_one, released_one}
use Rattle.table_model.proofs.Work.{worked_one}

module _ {V : Type 0} {bot : V} {le : V → V → Type 0} {lub : V → V → V} {same : V → V → Bool} {height : ℕ} {rank : V → ℕ} (laws : LatticeLaws bot le lub same height rank) (e : Equations V) (lawful : Lawful bot le e) (s : State) (rows : Rows V) where
  -- A relation of answers and tables.
  abbrev Relation : Type 1
  Relation = Answer V → TableModel V → Type 0

  -- It holds of one answer and table at most.
  abbrev One : Relation → Type 0
  One X = (a b : Answer V) (t u : TableModel V) → X a t → X b u → (a ≡ b) × SameTable t u

  -- Under P it is X, and under Q it is Y.
  abbrev Either : Type 0 → Type 0 → Relation → Relation → Relation
  Either P Q X Y a t = (P × X a t) ⊎ (Q × Y a t)

  either_one : (P Q : Type 0) (X Y : Relation) → (P → Q → ⊥) → (P → One X) → One Y → One (Either P Q X Y)
  either_one P Q X Y not x y a b t u (inl p) (inl q) = x p.0 a b t u p.1 q.1
  either_one P Q X Y not x y a b t u (inl p) (inr q) = absurd (not p.0 q.0)
  either_one P Q X Y not x y a b t u (inr p) (inl q) = absurd (not q.0 p.0)
  either_one P Q X Y not x y a b t u (inr p) (inr q) = y a b t u p.1 q.1

  -- It is D k, for a k with F.
  abbrev For : {K : Type 0} → (K → Type 0) → (K → Relation) → Relation
  For {K} F D a t = (k : K) × F k × D k a t

  for_one : {K : Type 0} (F : K → Type 0) (D : K → Relation) → ((k m : K) → F k → F m → k ≡ m) → ((k : K) → One (D k)) → One (For F D)
  for_one F D only each a b t u p q =
      each q.0 a b t u (subst (λ k. D k a t) (only p.0 q.0 p.1 q.1) p.2) q.2

  -- A given answer and state, and rows with R.
  abbrev Given : Answer V → State → (Rows V → Type 0) → Relation
  Given answer state R a t = (a ≡ answer) × (t.state ≡ state) × R t.rows

  given_one : (answer : Answer V) (state : State) (R : Rows V → Type 0) → ((x y : Rows V) → R x → R y → (j : ℕ) → x j ≡ y j) → One (Given answer state R)
  given_one answer state R only a b t u p q =
      (p.0 ∙ sym q.0, record { state = p.1 ∙ sym q.1; rows = only t.rows u.rows p.2 q.2 })

  -- A given answer, and the table as it was.
  abbrev Kept : Answer V → Relation
  Kept answer = Given answer s (λ x. x ≡ rows)

  kept_one : (answer : Answer V) → One (Kept answer)
  kept_one answer = given_one answer s (λ x. x ≡ rows) (λ x y p q j. ap (λ r. r j) (p ∙ sym q))

  module _ (i : ℕ) where
    -- A refusal by the lowest dangling operand.
    abbrev DanglingRefused : Relation
    DanglingRefused = For (LowestDangling e i) (λ d. Kept (refused (fault.Dangling d)))

    -- An open or a demand: X if the instance is final, and Y if it is whole and not final.
    abbrev Asked : Relation → Relation → Relation
    Asked X Y =
        Either (s ≡ Idle) (s ≡ Idle → ⊥)
        (Either (i < e.size) (e.size ≤ i)
        (Either ((rows i).mark ≡ Final) ((rows i).mark ≡ Final → ⊥) X (Either (Whole e i) (ReachesDangling e i) Y DanglingRefused))
        (Kept (refused fault.NoInstance)))
        (Kept (refused fault.NotIdle))

    asked_one : (X Y : Relation) → One X → (i < e.size → One Y) → One (Asked X Y)
    asked_one X Y x y =
        either_one _ _ _ _ (λ p n. n p)
        (λ idle.
        either_one _ _ _ _ (λ p n. omega arith)
        (λ l.
        either_one _ _ _ _ (λ p n. n p)
        (λ f. x)
        (either_one _ _ _ _ (λ p d. p d) (λ w. y l) (for_one _ _ (lowest_dangling_one e i) (λ d. kept_one _))))
        (kept_one _))
        (kept_one _)

    dangling : {d : DanglingOperand} → LowestDangling e i d → ReachesDangling e i
    dangling {d} h = (d.instance, d.operand, d.dangling, h.reaches, h.dangles)

    -- An open that is done.
    abbrev OpenDone : Relation
    OpenDone = Given opened (Iterating (evaluation i 0)) (Opened bot e i rows)

    open_as : (a : Answer V) (t : TableModel V) → Step bot same e s rows (open_at i) a t → Asked (Kept (refused fault.AlreadyFinal)) OpenDone a t
    open_as a t (open_busy n) = inr (n, (refl, refl, refl))
    open_as a t (open_none p l) = inl (p, inr (l, (refl, refl, refl)))
    open_as a t (open_final p l f) = inl (p, inl (l, inl (f, (refl, refl, refl))))
    open_as a t (open_dangling {d = d} p l n h) = inl (p, inl (l, inr (n, inr (dangling h, (d, h, (refl, refl, refl))))))
    open_as a t (open_done p l n w h) = inl (p, inl (l, inr (n, inl (w, (refl, refl, h)))))

    -- A demand that is done.
    abbrev DemandDone : Relation
    DemandDone a t = (r : Result V) × (a ≡ demanded r) × (t.state ≡ Idle) × Worked bot same e i rows t.rows r

    demand_done_one : i < e.size → One DemandDone
    demand_done_one l a b t u p q =
        let w = worked_one laws e lawful i l rows t.rows u.rows p.0 q.0 p.3 q.3 in
        (p.1 ∙ ap demanded w.0 ∙ sym q.1, record { state = p.2 ∙ sym q.2; rows = w.1 })

    abbrev final_result : Result V
    final_result = record { value = (rows i).value; made_final = 0; rounds = 0 }

    demand_as : (a : Answer V) (t : TableModel V) → Step bot same e s rows (demand_at i) a t → Asked (Kept (demanded final_result)) DemandDone a t
    demand_as a t (demand_busy n) = inr (n, (refl, refl, refl))
    demand_as a t (demand_none p l) = inl (p, inr (l, (refl, refl, refl)))
    demand_as a t (demand_final p l f) = inl (p, inl (l, inl (f, (refl, refl, refl))))
    demand_as a t (demand_dangling {d = d} p l n h) = inl (p, inl (l, inr (n, inr (dangling h, (d, h, (refl, refl, refl))))))
    demand_as a t (demand_done {result = r} p l n w h) = inl (p, inl (l, inr (n, inl (w, (r, refl, refl, h)))))

    -- D k if a session with k rounds fits, and Y if none does.
    abbrev Fitting : (ℕ → Type 0) → (ℕ → Relation) → Relation → Relation
    Fitting F D Y = Either ((k : ℕ) × F k) ((k : ℕ) → F k → ⊥) (For F D) Y

    fitting_one : (F : ℕ → Type 0) (D : ℕ → Relation) (Y : Relation) → ((k m : ℕ) → F k → F m → k ≡ m) → ((k : ℕ) → One (D k)) → One Y → One (Fitting F D Y)
    fitting_one F D Y only each y = either_one _ _ _ _ (λ p n. n p.0 p.1) (λ p. for_one F D only each) y

    abbrev Open : ℕ → Type 0
    Open = FitsOpen s i

    abbrev Settle : ℕ → Type 0
    Settle = FitsSettled s i

    open_rounds : (k m : ℕ) → Open k → Open m → k ≡ m
    open_rounds k m p q = let x : evaluation i k ≡ evaluation i m = cc in ap (λ y. y.rounds) x

    settle_rounds : (k m : ℕ) → Settle k → Settle m → k ≡ m
    settle_rounds k m p q = let x : evaluation i k ≡ evaluation i m = cc in ap (λ y. y.rounds) x

    -- How many rows a round changes.
    abbrev round_count : ℕ
    round_count = changes same e (pending rows) e.size (values rows)

    abbrev SomeRounded : Rows V → Type 0
    SomeRounded x = (count : ℕ) × Rounded bot e same rows x count

    rounded_one : (x y : Rows V) → SomeRounded x → SomeRounded y → (j : ℕ) → x j ≡ y j
    rounded_one x y p q j =
        row_same (x j) (y j) (p.1.marks j ∙ sym (q.1.marks j)) (p.1.worked j ∙ sym (q.1.worked j))

    abbrev RoundAs : Relation
    RoundAs = Fitting Open (λ k. Given (rounded round_count) (round_state i k round_count) SomeRounded) (Kept (refused fault.NoFit))

    round_as : (a : Answer V) (t : TableModel V) → Step bot same e s rows (round_of i) a t → RoundAs a t
    round_as a t (round_done {k = k} {count = n} f h) =
        inl ((k, f), (k, f, (ap rounded h.counts, ap (round_state i k) h.counts, (n, h))))
    round_as a t (round_unfit n) = inr (n, (refl, refl, refl))

    round_as_one : One RoundAs
    round_as_one = fitting_one Open _ _ open_rounds (λ k. given_one _ _ SomeRounded rounded_one) (kept_one _)

    -- A close.
    abbrev close_result : ℕ → Result V
    close_result k = record { value = (rows i).value; made_final = pending_count bot e rows; rounds = k }

    abbrev CloseAs : Relation
    CloseAs =
        Either (i < e.size) (e.size ≤ i)
        (Fitting Settle (λ k. Given (closed (close_result k)) Idle (MadeFinal bot e rows)) (Kept (refused fault.NoFit)))
        (Kept (refused fault.NoInstance))

    close_as : (a : Answer V) (t : TableModel V) → Step bot same e s rows (close_of i) a t → CloseAs a t
    close_as a t (close_none l) = inr (l, (refl, refl, refl))
    close_as a t (close_unfit l n) = inl (l, inr (n, (refl, refl, refl)))
    close_as a t (close_done {k = k} l f h) = inl (l, inl ((k, f), (k, f, (refl, refl, h))))

    close_as_one : One CloseAs
    close_as_one =
        either_one _ _ _ _ (λ p n. omega arith)
        (λ l. fitting_one Settle _ _ settle_rounds (λ k. given_one _ _ (MadeFinal bot e rows) (made_final_one bot e rows)) (kept_one _))
        (kept_one _)

    -- A give-up.
    abbrev GiveUpAs : (ℕ → Type 0) → Relation
    GiveUpAs F = Fitting F (λ k. Given (gave_up (pending_count bot e rows)) Idle (Released bot e rows)) (Kept (gave_up 0))

    give_open_as : (a : Answer V) (t : TableModel V) → Step bot same e s rows (give_up_open i) a t → GiveUpAs Open a t
    give_open_as a t (give_open {k = k} f h) = inl ((k, f), (k, f, (refl, refl, h)))
    give_open_as a t (give_open_unfit n) = inr (n, (refl, refl, refl))

    give_settled_as : (a : Answer V) (t : TableModel V) → Step bot same e s rows (give_up_settled i) a t → GiveUpAs Settle a t
    give_settled_as a t (give_settled {k = k} f h) = inl ((k, f), (k, f, (refl, refl, h)))
    give_settled_as a t (give_settled_unfit n) = inr (n, (refl, refl, refl))

    give_up_as_one : (F : ℕ → Type 0) → ((k m : ℕ) → F k → F m → k ≡ m) → One (GiveUpAs F)
    give_up_as_one F only =
        fitting_one F _ _ only (λ k. given_one _ _ (Released bot e rows) (released_one bot e rows)) (kept_one _)

    -- A read.
    abbrev ReadAs : Relation
    ReadAs =
        Either (i < e.size) (e.size ≤ i)
        (Either ((rows i).mark ≡ Final) ((rows i).mark ≡ Final → ⊥) (Kept (valued (rows i).value)) (Kept (refused fault.NotFinal)))
        (Kept (refused fault.NoInstance))

    read_as : (a : Answer V) (t : TableModel V) → Step bot same e s rows (read_at i) a t → ReadAs a t
    read_as a t (read_none l) = inr (l, (refl, refl, refl))
    read_as a t (read_not l n) = inl (l, inr (n, (refl, refl, refl)))
    read_as a t (read_done l f) = inl (l, inl (f, (refl, refl, refl)))

    read_as_one : One ReadAs
    read_as_one =
        either_one _ _ _ _ (λ p n. omega arith) (λ l. either_one _ _ _ _ (λ p n. n p) (λ f. kept_one _) (kept_one _)) (kept_one _)

  -- What implies a relation that holds of one answer and table at most holds of one at most.
  implied_one : (X Y : Relation) → ((a : Answer V) (t : TableModel V) → X a t → Y a t) → One Y → One X
  implied_one X Y to one a b t u p q = one a b t u (to a t p) (to b u q)

  pub step_one : (c : Call) → One (Step bot same e s rows c)
  step_one (open_at i) = implied_one _ _ (open_as i) (asked_one i _ _ (kept_one _) (λ l. given_one _ _ (Opened bot e i rows) (opened_one bot e lawful i l rows)))
  step_one (round_of i) = implied_one _ _ (round_as i) (round_as_one i)
  step_one (close_of i) = implied_one _ _ (close_as i) (close_as_one i)
  step_one (give_up_open i) = implied_one _ _ (give_open_as i) (give_up_as_one i (Open i) (open_rounds i))
  step_one (give_up_settled i) = implied_one _ _ (give_settled_as i) (give_up_as_one i (Settle i) (settle_rounds i))
  step_one (demand_at i) = implied_one _ _ (demand_as i) (asked_one i _ _ (kept_one _) (demand_done_one i))
  step_one (read_at i) = implied_one _ _ (read_as i) (read_as_one i)
