-- The resolver of the tests.
use Rattle.std.specs.Prelude.{◌≡◌, ℕ, ◌/◌, ◌%◌, ◌<◌, cond, ◌&&◌, Some, None, Option, ◌==◌, nat_lt}
use Rattle.std.proofs.Common.{arith}
use Rattle.std.proofs.lemmas.Bool.{ltb-true, le-ltb, and_left, and_parts, cond-false, cond_both}
use Rattle.references.specs.Resolution.{ResolverLaws}

-- Each even reference below size names the declaration of half its number, and each other one dangles.
abbrev pub halves : ℕ → ℕ → Option ℕ
halves size r = cond (nat_lt r size && r % 2 == 0) (Some (r / 2)) None

-- Its rules hold.
pub halves_laws : (size : ℕ) → ResolverLaws size size (halves size)
halves_laws size = record {
  past_end = λ r h. cond-false (nat_lt r size && r % 2 == 0) (Some (r / 2)) None (and_left (nat_lt r size) (r % 2 == 0) (le-ltb r size h));
  within = λ r d. cond_both (nat_lt r size && r % 2 == 0) (Some (r / 2)) None (λ named. named ≡ Some d → d < size)
      (λ t e. let half : r / 2 ≡ d = cc in omega (arith, ltb-true r size (and_parts (nat_lt r size) (r % 2 == 0) t).0))
      (λ _ e. let none : ◌≡◌ {A = ℕ} 0 1 = cc in omega arith);
}
