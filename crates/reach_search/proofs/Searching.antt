-- A search marks what is in reach. Assumes nothing.
use Rattle.std.proofs.Common.{◌≡◌, ℕ, ◌+◌, ◌-◌, ◌*◌, ◌<◌, ◌≤◌, ◌⊎◌, List, length, ◌++◌, get_or, Ok, Err, Result, Some, None, sym, refl, ap, ◌∙◌, subst, inl, inr, ⊎_elim, arith}
use Rattle.std.proofs.lemmas.Bool.{cases_lt, cases_eq}
use Rattle.std.proofs.lemmas.List.{get_or_append_left}
use Rattle.std.proofs.Math.Logic.{∥∥₁_elim}
use Rattle.std.specs.Borrow.{MutBor}
use Rattle.std.proofs.Props.{props}
use Rattle.references.specs.declared.Dangling.{Dangling}
use Rattle.equations.specs.Equations.{Equations, Lawful}
use Rattle.equations.specs.Reach.{Reach, here, along, Uses}
use Rattle.equations.proofs.Paths.{reach_trans, reach_uses}
use Rattle.table_model.proofs.Lowest.{never}
use Rattle.equations.specs.declared.System as system
use Rattle.lattices.specs.declared.Lattice as lattice
use Rattle.reach_search.specs.declared.found.Found.{Found}
use Rattle.table_model.specs.declared.fault.DanglingOperand.{DanglingOperand}
use Rattle.table_model.specs.declared.fault.TableFault.{TableFault}
use Rattle.table_model.specs.declared.fault.TableFault.TheVariants as fault
use Rattle.reach_search.specs.Searched.{MarksReach, TellsWhole, whole, dangling, Searched}
use Rattle.reach_search.specs.Dangles.{NoneDangles, LowestOf}
use Rattle.reach_search.specs.Marks.{Marked}
use Rattle.reach_search.specs.Additions.{queued, Begins, SameLists, Adds, Visits}
use Rattle.reach_search.proofs.Adding.{found_most, adds_none, adds_both}
use Rattle.reach_search.proofs.Lowest.{whole_from_marks, lowest_from_marks}

module _ {V : Type 0} (e : Equations V) where
  -- j is one of the first k operands of i.
  abbrev pub UsesBelow : ℕ → ℕ → ℕ → Type 0
  UsesBelow i k j = (o : ℕ) × (o < k) × (e.operand i o ≡ Ok j)

  uses_cases : (i k j : ℕ) → UsesBelow i (k + 1) j → UsesBelow i k j ⊎ (e.operand i k ≡ Ok j)
  uses_cases i k j u =
      ⊎_elim
      (λ (m : u.0 < k). inl (u.0, m, u.2))
      (λ (m : k ≤ u.0). let is : u.0 ≡ k = omega (arith, u.1) in inr (subst (λ o. e.operand i o ≡ Ok j) is u.2))
      (cases_lt u.0 k)

  uses_still : (i k j : ℕ) → UsesBelow i k j → UsesBelow i (k + 1) j
  uses_still i k j u = (u.0, omega (arith, u.1), u.2)

module _ {S V : Type 0} {sys : system.Ghosts S V} {lat : lattice.Ghosts V} (e : Equations V) where
  -- Operand k of i is added to the ones before it.
  pub adds_operand : {i k j : ℕ} {a b c : Found S V sys lat} → Adds (UsesBelow e i k) a b → e.operand i k ≡ Ok j → Adds (λ h. h ≡ j) b c → Adds (UsesBelow e i (k + 1)) a c
  adds_operand {i = i} {k = k} s q t =
      adds_both s t (uses_still e i k) (λ h r. (k, omega arith, q ∙ ap Ok (sym r))) (λ h u. ⊎_elim inl (λ at. inr (cc)) (uses_cases e i k h u))

  -- A dangling one is passed over.
  pub adds_dangling : {i k : ℕ} {d : Dangling} {a b : Found S V sys lat} → Adds (UsesBelow e i k) a b → e.operand i k ≡ Err d → Adds (UsesBelow e i (k + 1)) a b
  adds_dangling {i = i} {k = k} s q =
      adds_both s (adds_none {P = λ j. ⊥} _ (λ j n. absurd n)) (uses_still e i k) (λ j n. absurd n) (λ h u. ⊎_elim inl (λ at. absurd (never (cc))) (uses_cases e i k h u))

  -- The search from i, over the lists that it began with: the instances found are in reach, and the operands of those visited are found.
  pub record Searching (i : ℕ) (begin f : Found S V sys lat) : Type 0 where
    pub lists : SameLists begin f
    pub system : sys.equations f.system.now ≡ e
    pub start : Marked f.marks.now i
    pub sound : (j : ℕ) → Marked f.marks.now j → Reach e i j
    pub closed : (p j : ℕ) → p < f.visited → Uses e (queued f p) j → Marked f.marks.now j

  -- At first i is found alone.
  pub searching_none : {i : ℕ} {s : S} {x y : MutBor (List ℕ)} {before f : Found S V sys lat} → sys.equations s ≡ e → Begins s x y before → Adds (λ j. j ≡ i) before f → Searching i f f
  searching_none {i} {before = before} is begins a =
      record {
        lists = record { system = refl; marks = refl; queue = refl; size = refl };
        system = ap sys.equations (a.lists.system ∙ begins.system) ∙ is;
        start = a.all i (λ _. i);
        sound = λ j m.
            ⊎_elim (λ (k : Marked before.marks.now j). absurd (omega (arith, begins.none j k.0, k.1))) (λ q. subst (Reach e i) (sym q) here) (a.only j m);
        closed = λ p j k. absurd (omega (arith, a.visited, begins.visited));
      }

  -- The next instance in the queue is visited, and its operands are added.
  pub searching_more : {i next : ℕ} {begin a b c : Found S V sys lat} → Searching i begin a → Visits a b (Some next) → Adds (Uses (sys.equations b.system.now) next) b c → Searching i begin c
  searching_more {i} {next} {begin} {a} {b} {c} s v adds =
      let t : Adds (Uses e next) b c = subst (λ x. Adds (Uses x next) b c) (ap sys.equations v.system ∙ s.system) adds in
      let same : b.marks.now ≡ a.marks.now = ap (λ x. x.now) v.marks in
      let stay : (j : ℕ) → Marked a.marks.now j → Marked c.marks.now j = λ j k. t.stay j (subst (λ x. Marked x j) (sym same) k) in
      let earlier : (p : ℕ) → p < a.count → queued c p ≡ queued a p = λ p l. t.earlier p (omega (arith, v.count)) ∙ ap (λ x. get_or x.now p 0) v.queue in
      record {
        lists =
            record {
              system = t.lists.system ∙ v.system ∙ s.lists.system;
              marks = t.lists.marks ∙ ap (λ x. x.ghost_name) v.marks ∙ s.lists.marks;
              queue = t.lists.queue ∙ ap (λ x. x.ghost_name) v.queue ∙ s.lists.queue;
              size = t.lists.size ∙ ap length same ∙ s.lists.size;
            };
        system = ap sys.equations (t.lists.system ∙ v.system) ∙ s.system;
        start = stay i s.start;
        sound = λ j m.
            let r = subst (Reach e i) (sym v.next.1) (s.sound (queued a a.visited) (a.marked a.visited v.next.0)) in
            ⊎_elim (λ k. s.sound j (subst (λ x. Marked x j) same k)) (λ u. reach_trans r (reach_uses u)) (t.only j m);
        closed = λ p j k u.
            let same : p < a.count → Uses e (queued a p) j = λ m. subst (λ z. Uses e z j) (earlier p m) u in
            ⊎_elim
            (λ (m : p < a.visited). stay j (s.closed p j m (same (omega (arith, v.next.0)))))
            (λ (m : a.visited ≤ p).
            let is : p ≡ a.visited = omega (arith, t.visited, v.next.2) in
            t.all j (subst (λ z. Uses e z j) (ap (queued a) is ∙ sym v.next.1) (same (omega (arith, v.next.0)))))
            (cases_lt p a.visited);
      }

  -- At the end, what is in reach of a found instance is found.
  module _ {i : ℕ} {begin f : Found S V sys lat} (s : Searching i begin f) (all : f.count ≤ f.visited) where
    complete : {j k : ℕ} → Marked f.marks.now j → Reach e j k → Marked f.marks.now k
    complete m here = m
    complete {j} {k} m (along {j = h} o l q r) =
        ∥∥₁_elim (f.queued j m) (hlevel props) (λ p. complete (s.closed p.0 h (omega (arith, p.1)) (subst (λ z. Uses e z h) (sym p.2) (o, l, q))) r)

    all_marked : MarksReach e i f.marks.now
    all_marked j l =
        let m : j < length f.marks.now = omega (arith, f.size, ap (λ x. x.size) s.system) in
        ⊎_elim
        (λ (q : get_or f.marks.now j 0 ≡ 1). inl (q, s.sound j (m, q)))
        (λ q. let zero : get_or f.marks.now j 0 ≡ 0 = omega (arith, f.flags j m) in inr (zero, λ r. q (complete s.start r).1))
        (cases_eq (get_or f.marks.now j 0) 1)

  -- A turn visits one more of those that can be found.
  pub turn_smaller : {i next : ℕ} {begin a b c : Found S V sys lat} → Searching i begin a → Visits a b (Some next) → Adds (Uses (sys.equations b.system.now) next) b c → length c.marks.now - c.visited < length a.marks.now - a.visited
  turn_smaller {a = a} s v t =
      omega (arith, v.next.0, v.next.2, found_most a, t.lists.size, ap (λ x. length x.now) v.marks, t.visited)

  -- What the search answers, when there is no next instance.
  module _ {bot : V} {le : V → V → Type 0} (lawful : Lawful bot le e) {i : ℕ} (l : i < e.size) {begin f n : Found S V sys lat} (s : Searching i begin f) (v : Visits f n None) where
    reach : MarksReach e i n.marks.now
    reach = subst (λ x. MarksReach e i x.now) (sym v.marks) (all_marked s v.next.0)

    same : sys.equations n.system.now ≡ e
    same = ap sys.equations v.system ∙ s.system

    size : length n.marks.now ≡ e.size
    size = n.size ∙ ap (λ x. x.size) same

    pub tells_whole : NoneDangles (sys.equations n.system.now) (Marked n.marks.now) → TellsWhole e i (Ok tt)
    tells_whole none =
        whole (whole_from_marks e lawful i l n.marks.now size reach (subst (λ x. NoneDangles x (Marked n.marks.now)) same none))

    pub tells_lowest : {d : DanglingOperand} → LowestOf (sys.equations n.system.now) (Marked n.marks.now) d → TellsWhole e i (Err (fault.Dangling d))
    tells_lowest {d} lowest =
        dangling (lowest_from_marks e lawful i l n.marks.now size reach d (subst (λ x. LowestOf x (Marked n.marks.now) d) same lowest))

    -- The work list is left with the marks, then the queue.
    pub searched : (before after : List ℕ) (r : Result Unit TableFault) → 2 * e.size ≤ length before → after ≡ n.marks.now ++ n.queue.now → TellsWhole e i r → length after ≡ length before → Searched e i before after r
    searched before after r room left tells as-long =
        record {
          short = λ h. absurd (omega arith);
          none = λ _ h. absurd (omega arith);
          marks = λ _ _ j m. let within : j < length n.marks.now = omega (arith, size) in rw (left, get_or_append_left) (reach j m);
          tells = λ _ _. tells;
          length = as-long;
        }
