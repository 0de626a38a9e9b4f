-- The first elements of a list, and a read of one of them. Assumes nothing.
use Rattle.std.proofs.Common.{◌≡◌, ℕ, Bor, List, Option, Some, None, length, take, cond, nat_lt, sym, refl, ap, ◌∙◌, min, arith}
use Rattle.std.specs.List.{slice_get}
use Rattle.std.specs.Option.{option_copied}
use Rattle.std.specs.Slice.{IsItemAt}
use Rattle.std.proofs.lemmas.List.{take_min}
use Rattle.std.proofs.lemmas.Option.{slice_get_past, slice_get_read}
use Rattle.example_system.specs.Lawfulness.{limited_at}

pub take_at_most : {X : Type 0} (xs : List X) (m n : ℕ) → m ≡ min (length xs) n → take m xs ≡ take n xs
take_at_most xs m n e =
    let same : m ≡ min n (length xs) = omega arith in ap (λ k. take k xs) same ∙ take_min n xs

read_item : {X : Type 0} (xs : List X) (i : ℕ) (r : Option (Bor X)) → IsItemAt xs i r → option_copied r ≡ slice_get xs i
read_item xs i None h = sym (slice_get_past xs i h.3)
read_item xs i (Some x) h = sym (slice_get_read xs (length xs) i x.now refl h.3.0 h.1)

pub read_limited : {X : Type 0} (xs ys : List X) (i : ℕ) (r : Option (Bor X)) → ys ≡ take 4096 xs → IsItemAt ys i r → option_copied r ≡ cond (nat_lt i 4096) (slice_get xs i) None
read_limited xs ys i r e h = read_item ys i r h ∙ ap (λ l. slice_get l i) e ∙ limited_at xs 4096 i
