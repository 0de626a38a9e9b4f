-- Lines that are written one behind the other. Assumes nothing.
use Rattle.std.proofs.Common.{◌≡◌, ℕ, ◌+◌, List, [], ◌∷◌, ◌++◌, map, sym, refl, ap, ◌∙◌, append_assoc, append-nil}
use Rattle.std.specs.List.{enumerate_from, flat_map}
use Rattle.std.proofs.lemmas.List.Folds.{flat_map-map}
use Rattle.report.specs.Reports.{numbered}

-- `piece` is written behind `text`; before it `before` was to be written, and then `rest`
pub written_more : (text piece rest : List ℕ) {text' before whole : List ℕ} → text ++ before ≡ whole → before ≡ piece ++ rest → text' ≡ text ++ piece → text' ++ rest ≡ whole
written_more text piece rest inv step push = ap (λ t. t ++ rest) push ∙ append_assoc text piece rest ∙ sym (ap (λ b. text ++ b) step) ∙ inv

-- nothing is left to be written
pub written_all : (text : List ℕ) {before whole : List ℕ} → text ++ before ≡ whole → before ≡ [] → text ≡ whole
written_all text inv end = sym (ap (λ b. text ++ b) end ∙ append-nil text) ∙ inv

-- a line for each item with its number, where the items show the elements of a list
module _ {X Y : Type 0} (line : ℕ → Y → List ℕ) (show : X → Y) where
  abbrev line_of : ℕ × Y → List ℕ
  line_of p = line p.0 p.1

  abbrev shown : ℕ × X → ℕ × Y
  shown p = (p.0, show p.1)

  numbered_flat : (i : ℕ) (ys : List Y) → flat_map line_of (enumerate_from i ys) ≡ numbered line i ys
  numbered_flat i [] = refl
  numbered_flat i (y ∷ ys) = ap (λ more. line i y ++ more) (numbered_flat (i + 1) ys)

  pub numbered_items : (items : List (ℕ × X)) (ys : List Y) → map shown items ≡ enumerate_from 0 ys → flat_map (λ (p : ℕ × X). line p.0 (show p.1)) items ≡ numbered line 0 ys
  numbered_items items ys e = sym (flat_map-map line_of shown items) ∙ ap (flat_map line_of) e ∙ numbered_flat 0 ys

  -- a line for each element by what it shows
  pub numbered_map : (i : ℕ) (xs : List X) → numbered (λ j x. line j (show x)) i xs ≡ numbered line i (map show xs)
  numbered_map i [] = refl
  numbered_map i (x ∷ xs) = ap (λ more. line i (show x) ++ more) (numbered_map (i + 1) xs)
