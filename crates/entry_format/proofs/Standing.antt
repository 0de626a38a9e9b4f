-- Each loaded name is the part of the file at its place. Assumes nothing.
use Rattle.std.proofs.Common.{◌≡◌, ℕ, ◌+◌, List, [], ◌∷◌, ◌++◌, length, take, drop, sym, refl, ap, ◌∙◌}
use Rattle.std.specs.List.{flat_map, AllByRecursion}
use Rattle.std.proofs.lemmas.List.{append_assoc, append-nil, take_at, drop_at, drop-drop}
use Rattle.std.proofs.ByRecursion.{All-append}
use Rattle.entry_format.specs.Encoding.{encode_count, encode_name, encode_names, encode_list, encode_production, encode_productions, production_names, NamesAt, ProductionsAt}
use Rattle.entry_format.specs.Grammars.{ProductionModel, symbols}
use Rattle.entry_format.specs.Laws.{StandsIn, NamesStandInFile}
use Rattle.entry_format.specs.Reading.{NameModel}
use Rattle.entry_format.proofs.Exact.{loads_exactly}

module _ (file : List ℕ) where
  -- these bytes stand at p, and then those of `more`
  abbrev At : ℕ → List ℕ → List ℕ → Type 0
  At p bytes more = drop p file ≡ bytes ++ more

  behind : (p : ℕ) (a b : List ℕ) → drop p file ≡ a ++ b → drop (p + length a) file ≡ b
  behind p a b h = sym (drop-drop (length a) p file) ∙ ap (drop (length a)) h ∙ drop_at a b (length a) refl

  -- where the first of two parts ends, the second begins
  next : (p : ℕ) (a b more : List ℕ) → At p (a ++ b) more → At (p + length a) b more
  next p a b more h = behind p a (b ++ more) (h ∙ append_assoc a b more)

  stands : (p : ℕ) (n : NameModel) (b more : List ℕ) → n.at ≡ p → At p (encode_name n ++ b) more → StandsIn file n
  stands p n b more e h =
      ap (λ q. take (length (encode_name n)) (drop q file)) e
      ∙ ap (take (length (encode_name n))) (h ∙ append_assoc (encode_name n) b more)
      ∙ take_at (encode_name n) (b ++ more) (length (encode_name n)) refl

  names_stand_at : (names : List NameModel) (p : ℕ) (more : List ℕ) → NamesAt p names → At p (encode_names names) more → AllByRecursion (StandsIn file) names
  names_stand_at [] p more at h = tt
  names_stand_at (n ∷ names) p more at h = (
    stands p n (encode_names names) more at.0 h,
    names_stand_at names (p + length (encode_name n)) more at.1 (next p (encode_name n) (encode_names names) more h),
  )

  list_stands : (names : List NameModel) (p : ℕ) (more : List ℕ) → NamesAt (p + 2) names → At p (encode_list names) more → AllByRecursion (StandsIn file) names
  list_stands names p more at h =
      names_stand_at names (p + 2) more at (next p (encode_count (length names)) (encode_names names) more h)

  productions_stand : (ps : List ProductionModel) (p : ℕ) (more : List ℕ) → ProductionsAt p ps → At p (flat_map encode_production ps) more →
      AllByRecursion (StandsIn file) (flat_map production_names ps)
  productions_stand [] p more at h = tt
  productions_stand (q ∷ ps) p more at h =
      let rest = flat_map encode_production ps in
      let k : At p (encode_name q.left ++ (encode_list q.right ++ rest)) more =
      h ∙ ap (λ bs. bs ++ more) (append_assoc (encode_name q.left) (encode_list q.right) rest) in (
        stands p q.left (encode_list q.right ++ rest) more at.0 k,
        All-append (StandsIn file) q.right (flat_map production_names ps)
            (list_stands q.right (p + length (encode_name q.left)) (rest ++ more) at.1
            (next p (encode_name q.left) (encode_list q.right ++ rest) more k ∙ append_assoc (encode_list q.right) rest more))
            (productions_stand ps (p + length (encode_production q)) more at.2 (next p (encode_production q) rest more h)),
      )

pub names_stand : NamesStandInFile
names_stand file g bytes h =
    let (is, lawful) = (loads_exactly file g bytes).0 h in
    let ts = g.terminals in
    let ns = g.nonterminals in
    let ps = g.productions in
    let located = lawful.located in
    let start : At file 1 (encode_list ts) (encode_list ns ++ encode_productions ps) = ap (drop 1) is in
    let then : At file (1 + length (encode_list ts)) (encode_list ns) (encode_productions ps) = behind file 1 (encode_list ts) (encode_list ns ++ encode_productions ps) start in
    let last : At file (1 + length (encode_list ts) + length (encode_list ns)) (encode_productions ps) [] =
    behind file (1 + length (encode_list ts)) (encode_list ns) (encode_productions ps) then ∙ sym (append-nil (encode_productions ps)) in
    All-append (StandsIn file) (symbols g) (flat_map production_names ps)
    (All-append (StandsIn file) ts ns
    (list_stands file ts 1 (encode_list ns ++ encode_productions ps) located.terminals start)
    (list_stands file ns (1 + length (encode_list ts)) (encode_productions ps) located.nonterminals then))
    (productions_stand file ps (1 + length (encode_list ts) + length (encode_list ns) + 2) [] located.productions
    (next file (1 + length (encode_list ts) + length (encode_list ns)) (encode_count (length ps)) (flat_map encode_production ps) [] last))
