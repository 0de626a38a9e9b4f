-- What the first answers of a resolver are.
use Rattle.std.proofs.Common.{◌≡◌, ℕ, map, get_or, Some, None, Option, sym, ◌∙◌, ⊎_elim, arith}
use Rattle.std.specs.List.{range_with_len}
use Rattle.std.proofs.lemmas.List.FromFn.{length-map-range_with_len, get_or-map-range_with_len}
use Rattle.std.proofs.lemmas.List.{get_or_past}
use Rattle.std.proofs.lemmas.Bool.{cases_lt}
use Rattle.references.specs.Resolution.{ResolverLaws}
use Rattle.references.specs.Remembered.{Within}

-- the first n answers, and past them the same answers again, are the answers
pub get_d_answers : (names : ℕ → Option ℕ) (n r : ℕ) → get_or (map names (range_with_len 0 n)) r (names r) ≡ names r
get_d_answers names n r = ⊎_elim (λ h. get_or-map-range_with_len names 0 n r r (names r) h (omega arith)) (λ h. get_or_past (map names (range_with_len 0 n)) r (names r) (omega (arith, length-map-range_with_len names 0 n))) (cases_lt r n)

-- the first n answers name declarations that there are
pub within_answers : (references declarations : ℕ) (names : ℕ → Option ℕ) (n : ℕ) → ResolverLaws references declarations names → Within declarations (map names (range_with_len 0 n))
within_answers references declarations names n laws r d e =
    ⊎_elim (λ h. laws.within r d (sym (get_or-map-range_with_len names 0 n r r None h (omega arith)) ∙ e))
    (λ h. let none : None ≡ Some d = sym (get_or_past (map names (range_with_len 0 n)) r None (omega (arith, length-map-range_with_len names 0 n))) ∙ e in let z : ◌≡◌ {A = ℕ} 0 1 = cc in omega arith)
    (cases_lt r n)
