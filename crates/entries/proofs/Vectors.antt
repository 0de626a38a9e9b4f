-- Vectors that are filled within their room. Assumes nothing.
use Rattle.std.proofs.Common.{◌≡◌, ℕ, ◌+◌, ◌≤◌, [], ◌∷◌, ◌++◌, map, length, take, drop, vec_items, vec_len, vec_capacity, Vec, ap, ◌∙◌, arith}
use Rattle.std.specs.declared.alloc.Global.{Global}
use Rattle.std.proofs.lemmas.List.{take-append-le, drop-append-le, map_push}
use Rattle.entry_reader.specs.declared.name.Name.{Name}
use Rattle.entry_reader.specs.Reads.{name_of}
use Rattle.entries.specs.Fields.{names_from, Keeps}

-- one name was added behind n
module _ (n : ℕ) (before now after : Vec Name Global) (x : Name) (kept : Keeps n before now) (items : vec_items after ≡ vec_items now ++ x ∷ []) where
  pub names_more : names_from (vec_len before) after ≡ names_from (vec_len before) now ++ name_of x ∷ []
  names_more =
      let le : vec_len before ≤ length (vec_items now) = omega (arith, now.ok.0, kept.len) in
      ap (λ xs. map name_of (drop (vec_len before) xs)) items
      ∙ ap (map name_of) (drop-append-le (vec_len before) (vec_items now) (x ∷ []) le)
      ∙ map_push name_of (drop (vec_len before) (vec_items now)) x

  pub keeps_more : vec_len after ≡ vec_len now + 1 → vec_capacity after ≡ vec_capacity now → Keeps (n + 1) before after
  keeps_more len room =
      let le : vec_len before ≤ length (vec_items now) = omega (arith, now.ok.0, kept.len) in
      record {
        first = ap (take (vec_len before)) items ∙ take-append-le (vec_len before) (vec_items now) (x ∷ []) le ∙ kept.first;
        len = omega (arith, kept.len);
        room = room ∙ kept.room;
      }
