-- Rounds over a set of instances. Assumes nothing.
use Rattle.std.specs.Prelude.{ℕ, zero, suc, ◌+◌, Bool, cond, ◌==◌}
use Rattle.equations.specs.Equations.{Equations, equation}

-- The family w with the value x at i.
abbrev pub put : {V : Type 0} → (ℕ → V) → ℕ → V → ℕ → V
put w i x j = cond (j == i) x (w j)

-- Instance i takes its equation's value over w, if it is in the set s.
abbrev pub turn : {V : Type 0} → Equations V → (ℕ → Bool) → ℕ → (ℕ → V) → ℕ → V
turn e s i w = cond (s i) (put w i (equation e w i)) w

-- The instances below n take theirs in ascending number, each over the values that then stand.
abbrev pub swept : {V : Type 0} → Equations V → (ℕ → Bool) → ℕ → (ℕ → V) → ℕ → V
swept e s zero w = w
swept e s (suc n) w = turn e s n (swept e s n w)

-- 1 if the turn of i changes its value, else 0.
abbrev pub changed : {V : Type 0} → (V → V → Bool) → Equations V → (ℕ → Bool) → ℕ → (ℕ → V) → ℕ
changed same e s i w = cond (s i) (cond (same (equation e w i) (w i)) 0 1) 0

-- How many of the turns of the instances below n change a value.
abbrev pub changes : {V : Type 0} → (V → V → Bool) → Equations V → (ℕ → Bool) → ℕ → (ℕ → V) → ℕ
changes same e s zero w = 0
changes same e s (suc n) w = changes same e s n w + changed same e s n (swept e s n w)

-- The family after k rounds over the set.
abbrev pub rounds : {V : Type 0} → Equations V → (ℕ → Bool) → ℕ → (ℕ → V) → ℕ → V
rounds e s zero w = w
rounds e s (suc k) w = swept e s e.size (rounds e s k w)

-- How many values round k, counted from 0, changes.
abbrev pub round_changes : {V : Type 0} → (V → V → Bool) → Equations V → (ℕ → Bool) → ℕ → (ℕ → V) → ℕ
round_changes same e s k w = changes same e s e.size (rounds e s k w)

-- f 0 + .. + f (n - 1)
abbrev pub total : (ℕ → ℕ) → ℕ → ℕ
total f zero = 0
total f (suc n) = total f n + f n

-- How many instances below n are in the set.
abbrev pub members : (ℕ → Bool) → ℕ → ℕ
members s n = total (λ i. cond (s i) 1 0) n
