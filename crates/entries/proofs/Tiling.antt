-- Right sides that lie one behind the other. Assumes nothing.
use Rattle.std.proofs.Common.{◌≡◌, ℕ, zero, suc, ◌+◌, ◌<◌, ◌≤◌, List, [], ◌∷◌, ◌++◌, map, length, get_or, take, drop, vec_items, vec_len, Vec, sym, refl, ap, ◌∙◌, subst, arith, length-drop, take-append-drop}
use Rattle.std.specs.declared.alloc.Global.{Global}
use Rattle.std.proofs.lemmas.List.{take-append-le, drop-append-le, drop-drop, drop_all, map-append, map_push, length-map}
use Rattle.entry_format.specs.Grammars.{references}
use Rattle.entry_reader.specs.declared.name.Name.{Name}
use Rattle.entry_reader.specs.Reads.{name_of}
use Rattle.entries.specs.declared.production.Production.{Production}
use Rattle.entries.specs.Fields.{names_of}
use Rattle.entries.specs.Loaded.{production_of, productions_of, Tiles, Adds}

tiles_le : (at : ℕ) (ps : List Production) (n : ℕ) → Tiles at ps n → at ≤ n
tiles_le at [] n h = omega arith
tiles_le at (p ∷ ps) n h = let k = tiles_le (at + p.len) ps n h.1 in omega arith

-- a right side lies within the references
pub tile_within : (at : ℕ) (ps : List Production) (n i : ℕ) (d : Production) → Tiles at ps n → i < length ps → (get_or ps i d).first + (get_or ps i d).len ≤ n
tile_within at [] n i d h lt = absurd (omega arith)
tile_within at (p ∷ ps) n zero d h lt = let k = tiles_le (at + p.len) ps n h.1 in omega arith
tile_within at (p ∷ ps) n (suc i) d h lt = tile_within (at + p.len) ps n i d h.1 (omega arith)

tiles_push : (at : ℕ) (ps : List Production) (p : Production) (n m : ℕ) → Tiles at ps n → p.first ≡ n → m ≡ n + p.len → Tiles at (ps ++ p ∷ []) m
tiles_push at [] p n m h e f = (omega arith, omega arith)
tiles_push at (q ∷ ps) p n m h e f = (h.0, tiles_push (at + q.len) ps p n m h.1 e f)

-- the references are the right sides of all productions
references_tiled : (at : ℕ) (ps : List Production) (rs : List Name) → Tiles at ps (length rs) → references (map (production_of rs) ps) ≡ map name_of (drop at rs)
references_tiled at [] rs h = sym (ap (map name_of) (drop_all at rs (omega arith)))
references_tiled at (p ∷ ps) rs h =
    let here = drop at rs in
    ap (λ first. map name_of (take p.len (drop first rs)) ++ references (map (production_of rs) ps)) h.0
    ∙ ap (λ more. map name_of (take p.len here) ++ more) (references_tiled (at + p.len) ps rs h.1 ∙ ap (map name_of) (sym (drop-drop p.len at rs)))
    ∙ sym (map-append name_of (take p.len here) (drop p.len here))
    ∙ ap (map name_of) (take-append-drop p.len here)

-- what is added behind the references does not change a production
production_kept : (rs more : List Name) (p : Production) → p.first + p.len ≤ length rs → production_of (rs ++ more) p ≡ production_of rs p
production_kept rs more p le =
    let a = drop-append-le p.first rs more (omega arith) in
    let b : p.len ≤ length (drop p.first rs) = simp length-drop (omega arith) in
    ap (λ right. record { left = name_of p.left; nonterminal = p.nonterminal; right = map name_of right }) (ap (take p.len) a ∙ take-append-le p.len (drop p.first rs) more b)

productions_kept : (at : ℕ) (ps : List Production) (rs more : List Name) → Tiles at ps (length rs) → map (production_of (rs ++ more)) ps ≡ map (production_of rs) ps
productions_kept at [] rs more h = refl
productions_kept at (p ∷ ps) rs more h =
    let le = tiles_le (at + p.len) ps (length rs) h.1 in
    let a = production_kept rs more p (omega arith) in
    let b = productions_kept (at + p.len) ps rs more h.1 in
    λ k. a k ∷ b k

-- the references of the productions, and how many there are
pub references_all : (ps : Vec Production Global) (rs : Vec Name Global) → Tiles 0 (vec_items ps) (vec_len rs) → references (productions_of ps rs) ≡ names_of rs
references_all ps rs tiled = references_tiled 0 (vec_items ps) (vec_items rs) (subst (Tiles 0 (vec_items ps)) rs.ok.0 tiled)

pub references_count : (ps : Vec Production Global) (rs : Vec Name Global) → Tiles 0 (vec_items ps) (vec_len rs) → length (references (productions_of ps rs)) ≡ vec_len rs
references_count ps rs tiled = ap length (references_all ps rs tiled) ∙ length-map (vec_items rs) name_of ∙ sym rs.ok.0

-- one production more
module _
    (ps ps' : Vec Production Global) (rs rs' : Vec Name Global) (p : Production)
    (tiled : Tiles 0 (vec_items ps) (vec_len rs)) (adds : Adds p rs rs') (pushed : vec_items ps' ≡ vec_items ps ++ p ∷ [])
  where
    pub tiles_more : Tiles 0 (vec_items ps') (vec_len rs')
    tiles_more = subst (λ l. Tiles 0 l (vec_len rs')) (sym pushed) (tiles_push 0 (vec_items ps) p (vec_len rs) (vec_len rs') tiled adds.first adds.keeps.len)

    pub productions_more : productions_of ps' rs' ≡ productions_of ps rs ++ production_of (vec_items rs') p ∷ []
    productions_more =
        let t = subst (Tiles 0 (vec_items ps)) rs.ok.0 tiled in
        let added = drop (vec_len rs) (vec_items rs') in
        let whole : vec_items rs' ≡ vec_items rs ++ added = sym (take-append-drop (vec_len rs) (vec_items rs')) ∙ ap (λ l. l ++ added) adds.keeps.first in
        ap (map (production_of (vec_items rs'))) pushed
        ∙ map_push (production_of (vec_items rs')) (vec_items ps) p
        ∙ ap (λ l. l ++ production_of (vec_items rs') p ∷ []) (ap (λ l. map (production_of l) (vec_items ps)) whole ∙ productions_kept 0 (vec_items ps) (vec_items rs) added t)
