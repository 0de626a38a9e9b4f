-- One production after another. Assumes nothing.
use Rattle.std.proofs.Common.{◌≡◌, ℕ, zero, ◌+◌, ◌<◌, ◌≤◌, true, List, [], ◌∷◌, ◌++◌, map, length, get_or, take, drop, is_some, Some, None, Option, sym, refl, ap, ◌∙◌, arith, length-drop}
use Rattle.std.specs.Option.{option_map}
use Rattle.std.specs.List.{slice_get}
use Rattle.std.proofs.lemmas.List.{length-map, length-take, get_or-map}
use Rattle.std.proofs.lemmas.Option.{slice_get-get_or}
use Rattle.entry_format.specs.Grammars.{ProductionModel}
use Rattle.entry_format.specs.Reading.{NameModel}
use Rattle.entry_reader.specs.declared.name.Name.{Name}
use Rattle.entry_reader.specs.Reads.{name_of}
use Rattle.entries.specs.declared.production.Production.{Production}
use Rattle.entries.specs.Loaded.{production_of, Tiles}
use Rattle.entries.proofs.Tiling.{tile_within}
use Rattle.report.specs.Reports.{numbered, production_text, productions_text}

-- what stands at a number past the end
abbrev pub no_name : Name
no_name = record { text = record { ref_ptr = (0, 0); now = [] }; place = 0 }

abbrev pub no_production : Production
no_production = record { left = no_name; nonterminal = 0; first = 0; len = 0 }

some_if_mapped : {A B : Type 0} (f : A → B) (o : Option A) (b : B) → option_map f o ≡ Some b → is_some o ≡ true
some_if_mapped f None b e = absurd (let z : ◌≡◌ {A = ℕ} 0 1 = cc in omega arith)
some_if_mapped f (Some a) b e = refl

-- what stands at a number within the list, of what its items stand for
mapped_at : {X Y : Type 0} (f : X → Y) (xs : List X) (i : ℕ) (d : X) → i < length xs → slice_get (map f xs) i ≡ Some (f (get_or xs i d))
mapped_at f xs i d lt =
    let lt' : i < length (map f xs) = simp length-map lt in
    slice_get-get_or (map f xs) i (f d) lt' ∙ ap Some (get_or-map f xs i d (f d) lt)

-- the right side that was found for a number is that of the production with that number
module _
    (references : List Name) (ps : List Production) (models : List ProductionModel) (i : ℕ)
    (model : map (production_of references) ps ≡ models) (lt : i < length ps)
    {A : Type 0} (f : A → List NameModel) (o : Option A) (found : option_map f o ≡ option_map (λ p. p.right) (slice_get models i))
  where
    here : option_map f o ≡ Some (production_of references (get_or ps i no_production)).right
    here = found ∙ ap (λ l. option_map (λ p. p.right) (slice_get l i)) (sym model) ∙ ap (option_map (λ p. p.right)) (mapped_at (production_of references) ps i no_production lt)

    pub found_some : is_some o ≡ true
    found_some = some_if_mapped f o _ here

    pub found_right : (a : A) → o ≡ Some a → f a ≡ (production_of references (get_or ps i no_production)).right
    found_right a u = let h : Some (f a) ≡ Some (production_of references (get_or ps i no_production)).right = sym (ap (option_map f) u) ∙ here in cc

module _ (references : List Name) where
  -- a right side within the references has its length
  right_length : (p : Production) → p.first + p.len ≤ length references → length (production_of references p).right ≡ p.len
  right_length p le = omega (arith, length-map (take p.len (drop p.first references)) name_of, length-take p.len (drop p.first references), length-drop p.first references)

  module _ (names : ℕ → Option ℕ) where
    -- production i, by its own first reference
    abbrev pub line : ℕ → Production → List ℕ
    line i p = production_text names i p.first (name_of p.left) (production_of references p).right

    -- that is the first one behind the productions before it
    pub tiled_text : (i at : ℕ) (ps : List Production) → Tiles at ps (length references) → numbered line i ps ≡ productions_text names i at (map (production_of references) ps)
    tiled_text i at [] h = refl
    tiled_text i at (p ∷ ps) h =
        let within = tile_within at (p ∷ ps) (length references) zero p h (omega arith) in
        let rest = tiled_text (i + 1) (at + p.len) ps h.1 ∙ ap (λ n. productions_text names (i + 1) (at + n) (map (production_of references) ps)) (sym (right_length p within)) in
        λ k. production_text names i (h.0 k) (name_of p.left) (production_of references p).right ++ rest k

  -- the right side that was found has few names
  pub found_few : (ps : List Production) (i : ℕ) (names : List Name) → Tiles 0 ps (length references) → i < length ps → map name_of names ≡ (production_of references (get_or ps i no_production)).right → (get_or ps i no_production).first + length names ≤ length references
  found_few ps i names tiles lt right =
      let within = tile_within 0 ps (length references) i no_production tiles lt in
      omega (arith, within, length-map names name_of, ap length right, right_length (get_or ps i no_production) within)
