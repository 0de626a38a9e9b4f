-- One turn of a loop that reads a series of values. Assumes nothing.
use Rattle.std.proofs.Common.{◌≡◌, ℕ, suc, ◌+◌, ◌-◌, ◌<◌, List, [], ◌∷◌, ◌++◌, sym, ap, ◌∙◌, arith}
use Rattle.entry_format.specs.Reading.{Input, Parsed, got, bad, series}

module _ {F V : Type 0} (read : List V → Input → Parsed F V) (n i : ℕ) (lt : i < n) (done : List V) (l : Input) where
  one_left : n - i ≡ suc (n - (i + 1))
  one_left = omega arith

  -- one value more
  pub series_more : (v : V) (after : Input) → got v after ≡ read done l → series read (n - i) done l ≡ series read (n - (i + 1)) (done ++ v ∷ []) after
  series_more v after r = ap (λ k. series read k done l) one_left ∙ simp (sym r)

  -- a fault
  pub series_bad : (e : F) → bad e ≡ read done l → series read (n - i) done l ≡ bad e
  series_bad e r = ap (λ k. series read k done l) one_left ∙ simp (sym r)
