-- Which declarations references name, and how they are answered.
use Rattle.std.specs.Prelude.{◌≡◌, ℕ, ◌<◌, ◌≤◌, Some, None, Ok, Err, Option, Result}
use Rattle.references.specs.declared.Dangling.{Dangling}

-- The rules for the numbers of references and of declarations, and for the declaration that each reference names.
pub record ResolverLaws (references declarations : ℕ) (names : ℕ → Option ℕ) : Type 0 where
  -- A number at or past the number of references names no declaration.
  pub past_end : (r : ℕ) → references ≤ r → names r ≡ None
  -- A declaration that is named is below the number of declarations.
  pub within : (r d : ℕ) → names r ≡ Some d → d < declarations

-- The answer to reference r, given the declaration that it names: that declaration, or the fault with r if it names none.
abbrev pub resolved : ℕ → Option ℕ → Result ℕ Dangling
resolved r (Some d) = Ok d
resolved r None = Err (record { reference = r })
