-- What each step of a search does to the instances found. Assumes nothing.
use Rattle.std.specs.Prelude.{◌≡◌, ℕ, ◌+◌, ◌<◌, ◌≤◌, ◌⊎◌, List, length, Option, slice_index, MatchOption}
use Rattle.std.specs.Borrow.{MutBor}
use Rattle.equations.specs.declared.System as system
use Rattle.lattices.specs.declared.Lattice as lattice
use Rattle.reach_search.specs.declared.found.Found.{Found}
use Rattle.reach_search.specs.Marks.{Marked}

module _ {S V : Type 0} {sys : system.Ghosts S V} {lat : lattice.Ghosts V} where
  -- Place p of the queue.
  abbrev pub queued : Found S V sys lat → ℕ → ℕ
  queued f p = slice_index f.queue.now p

  -- None is found yet. The system is s, and the marks and the queue are a and b.
  pub record Begins (s : S) (a b : MutBor (List ℕ)) (f : Found S V sys lat) : Type 0 where
    pub system : f.system.now ≡ s
    pub marks : f.marks.ghost_name ≡ a.ghost_name
    pub queue : f.queue.ghost_name ≡ b.ghost_name
    pub size : length f.marks.now ≡ length a.now
    pub none : (j : ℕ) → j < length f.marks.now → slice_index f.marks.now j ≡ 0
    pub visited : f.visited ≡ 0

  -- The system is the same, and the marks and the queue are the same lent lists, with as many marks.
  pub record SameLists (before after : Found S V sys lat) : Type 0 where
    pub system : after.system.now ≡ before.system.now
    pub marks : after.marks.ghost_name ≡ before.marks.ghost_name
    pub queue : after.queue.ghost_name ≡ before.queue.ghost_name
    pub size : length after.marks.now ≡ length before.marks.now

  -- The instances of P are added to those found, behind them in the queue.
  pub record Adds (P : ℕ → Type 0) (before after : Found S V sys lat) : Type 0 where
    pub lists : SameLists before after
    pub all : (j : ℕ) → P j → Marked after.marks.now j
    pub only : (j : ℕ) → Marked after.marks.now j → Marked before.marks.now j ⊎ P j
    pub stay : (j : ℕ) → Marked before.marks.now j → Marked after.marks.now j
    pub earlier : (p : ℕ) → p < before.count → queued after p ≡ queued before p
    pub more : before.count ≤ after.count
    pub visited : after.visited ≡ before.visited

  -- The first instance in the queue that is not visited becomes a visited one, unless all are visited.
  pub record Visits (before after : Found S V sys lat) (r : Option ℕ) : Type 0 where
    pub system : after.system.now ≡ before.system.now
    pub marks : after.marks ≡ before.marks
    pub queue : after.queue ≡ before.queue
    pub count : after.count ≡ before.count
    pub next : MatchOption r ((before.count ≤ before.visited) × (after.visited ≡ before.visited)) (λ i. (before.visited < before.count) × (i ≡ queued before before.visited) × (after.visited ≡ before.visited + 1))
