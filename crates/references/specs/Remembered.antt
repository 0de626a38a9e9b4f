-- Which answers are remembered.
use Rattle.std.specs.Prelude.{◌≡◌, ℕ, ◌<◌, min, List, map, Some, None, Option, slice_index_or}
use Rattle.std.specs.List.{range_with_len}

-- How many references are remembered at most.
abbrev pub memo_limit : ℕ
memo_limit = 1024

-- The declarations that the first references name, in order: of as many references as there are, at most memo_limit.
abbrev pub first_answers : ℕ → (ℕ → Option ℕ) → List (Option ℕ)
first_answers references names = map names (range_with_len 0 (min references memo_limit))

-- Each declaration among the answers is below the number of declarations.
abbrev pub Within : ℕ → List (Option ℕ) → Type 0
Within declarations answers = (r d : ℕ) → slice_index_or answers r None ≡ Some d → d < declarations
