-- Additions to the instances that a search has found. Assumes nothing.
use Rattle.std.proofs.Common.{◌≡◌, ℕ, ◌+◌, ◌<◌, ◌≤◌, eqb, true, false, ◌≢◌, ◌⊎◌, List, length, get_or, set, refl, sym, ap, ◌∙◌, subst, inl, inr, ⊎_elim, arith}
use Rattle.std.proofs.Math.Logic.{∥∥₁_map}
use Rattle.std.proofs.lemmas.List.{length-set, get_or-set_same, get_or-set_other}
use Rattle.std.proofs.lemmas.Bool.{cases_lt, cases_eq, eq-eqb, ne_eqb}
use Rattle.equations.specs.Rounds.{members}
use Rattle.equations.specs.declared.System as system
use Rattle.lattices.specs.declared.Lattice as lattice
use Rattle.reach_search.specs.declared.found.Found.{Found}
use Rattle.reach_search.specs.Marks.{Marked, is_marked, HasPlace}
use Rattle.reach_search.specs.Additions.{Adds}
use Rattle.reach_search.proofs.Members.{members_none, members_most, members_room, members_more}

-- Where no instance is marked, none is counted.
pub once_none : (marks : List ℕ) → ((j : ℕ) → j < length marks → get_or marks j 0 ≡ 0) → 0 ≡ members (is_marked marks) (length marks)
once_none marks none =
    sym (members_none (is_marked marks) (length marks) (λ j l. ne_eqb _ _ (λ q. omega (arith, none j l))))

-- Where an instance is not marked, fewer are than there are marks.
pub fewer_marked : (marks : List ℕ) (i : ℕ) → i < length marks → is_marked marks i ≡ false → members (is_marked marks) (length marks) < length marks
fewer_marked marks i l out = members_room (is_marked marks) (length marks) i l out

module _ {S V : Type 0} {sys : system.Ghosts S V} {lat : lattice.Ghosts V} where
  -- No more are found than there are.
  pub found_most : (f : Found S V sys lat) → f.count ≤ length f.marks.now
  found_most f = omega (arith, f.once, members_most (is_marked f.marks.now) (length f.marks.now))

  -- Nothing is added.
  pub adds_none : {P : ℕ → Type 0} (f : Found S V sys lat) → ((j : ℕ) → P j → Marked f.marks.now j) → Adds P f f
  adds_none f all =
      record {
        lists = record { system = refl; marks = refl; queue = refl; size = refl };
        all = all;
        only = λ j m. inl m;
        stay = λ j m. m;
        earlier = λ p l. refl;
        more = omega arith;
        visited = refl;
      }

  -- The instances of P, then those of Q.
  pub adds_both : {P Q R : ℕ → Type 0} {a b c : Found S V sys lat} → Adds P a b → Adds Q b c → ((j : ℕ) → P j → R j) → ((j : ℕ) → Q j → R j) → ((j : ℕ) → R j → P j ⊎ Q j) → Adds R a c
  adds_both s t from-p from-q parts =
      record {
        lists =
            record {
              system = t.lists.system ∙ s.lists.system;
              marks = t.lists.marks ∙ s.lists.marks;
              queue = t.lists.queue ∙ s.lists.queue;
              size = t.lists.size ∙ s.lists.size;
            };
        all = λ j r. ⊎_elim (λ p. t.stay j (s.all j p)) (λ q. t.all j q) (parts j r);
        only = λ j m. ⊎_elim (λ k. ⊎_elim inl (λ p. inr (from-p j p)) (s.only j k)) (λ q. inr (from-q j q)) (t.only j m);
        stay = λ j m. t.stay j (s.stay j m);
        earlier = λ p l. t.earlier p (omega (arith, s.more)) ∙ s.earlier p l;
        more = omega (arith, s.more, t.more);
        visited = t.visited ∙ s.visited;
      }

  -- An instance that is not found is put behind the queue, and then marked.
  module _ (f : Found S V sys lat) {i : ℕ} (l : i < length f.marks.now) (out : is_marked f.marks.now i ≡ false) where
    abbrev marks : List ℕ
    marks = set f.marks.now i 1

    abbrev queue : List ℕ
    queue = set f.queue.now f.count i

    room : f.count < length f.queue.now
    room = omega (arith, f.once, f.room, fewer_marked f.marks.now i l out)

    pub marks_size : length marks ≡ length f.marks.now
    marks_size = length-set f.marks.now i 1

    pub queue_size : length queue ≡ length f.queue.now
    queue_size = length-set f.queue.now f.count i

    at_mark : get_or marks i 0 ≡ 1
    at_mark = get_or-set_same f.marks.now i 1 0 l

    at_end : get_or queue f.count 0 ≡ i
    at_end = get_or-set_same f.queue.now f.count i 0 room

    marks_else : (j : ℕ) → j ≢ i → get_or marks j 0 ≡ get_or f.marks.now j 0
    marks_else j a = get_or-set_other f.marks.now i j 1 0 a

    pub earlier : (p : ℕ) → p < f.count → get_or queue p 0 ≡ get_or f.queue.now p 0
    earlier p m = get_or-set_other f.queue.now f.count p i 0 (λ e. omega arith)

    pub stay : (j : ℕ) → Marked f.marks.now j → Marked marks j
    stay j m =
        (omega (arith, marks_size, m.0), marks_else j (λ e. let found : is_marked f.marks.now i ≡ true = subst (λ k. is_marked f.marks.now k ≡ true) e (eq-eqb _ _ m.1) in cc) ∙ m.1)

    pub only : (j : ℕ) → Marked marks j → Marked f.marks.now j ⊎ (j ≡ i)
    only j m =
        ⊎_elim inr (λ e. inl (omega (arith, marks_size, m.0), sym (marks_else j e) ∙ m.1)) (cases_eq j i)

    pub all : (j : ℕ) → j ≡ i → Marked marks j
    all j e = subst (Marked marks) (sym e) (omega (arith, marks_size, l), at_mark)

    -- Once it is in the queue.
    pub marked_behind : (p : ℕ) → p < f.count → Marked f.marks.now (get_or queue p 0)
    marked_behind p m = subst (Marked f.marks.now) (sym (earlier p m)) (f.marked p m)

    pub queued_behind : (j : ℕ) → Marked f.marks.now j → HasPlace queue f.count j
    queued_behind j m = ∥∥₁_map (f.queued j m) (λ p. (p.0, p.1, earlier p.0 p.1 ∙ p.2))

    -- Once it is marked.
    pub flags_after : (j : ℕ) → j < length marks → get_or marks j 0 ≤ 1
    flags_after j m =
        ⊎_elim
        (λ (e : j ≡ i). omega (arith, subst (λ k. get_or marks k 0 ≡ 1) (sym e) at_mark))
        (λ e. omega (arith, marks_else j e, f.flags j (omega (arith, marks_size, m))))
        (cases_eq j i)

    pub marked_after : (p : ℕ) → p < f.count + 1 → Marked marks (get_or queue p 0)
    marked_after p m =
        ⊎_elim
        (λ (k : p < f.count). stay (get_or queue p 0) (marked_behind p k))
        (λ (k : f.count ≤ p). let e : p ≡ f.count = omega arith in all (get_or queue p 0) (ap (λ x. get_or queue x 0) e ∙ at_end))
        (cases_lt p f.count)

    pub queued_after : (j : ℕ) → Marked marks j → HasPlace queue (f.count + 1) j
    queued_after j m =
        ⊎_elim
        (λ k. ∥∥₁_map (queued_behind j k) (λ p. (p.0, omega (arith, p.1), p.2)))
        (λ (e : j ≡ i). ∣ (f.count, omega arith, at_end ∙ sym e) ∣₁)
        (only j m)

    pub once_after : f.count + 1 ≡ members (is_marked marks) (length marks)
    once_after =
        ap (λ k. k + 1) f.once ∙ sym (members_more (is_marked f.marks.now) (is_marked marks) (length f.marks.now) i l out (eq-eqb _ _ at_mark) (λ j m e. ap (λ k. eqb k 1) (marks_else j e))) ∙ ap (members (is_marked marks)) (sym marks_size)
