-- What the answer to a reference tells.
use Rattle.std.proofs.Common.{◌≡◌, ℕ, Some, None, Option, refl}
use Rattle.std.specs.Result.{result_ok}
use Rattle.references.specs.Resolution.{resolved}

-- the declaration in the answer is the one that the reference names
pub ok_resolved : (r : ℕ) (named : Option ℕ) → result_ok (resolved r named) ≡ named
ok_resolved r (Some d) = refl
ok_resolved r None = refl
