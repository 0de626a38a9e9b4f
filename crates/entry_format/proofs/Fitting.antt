-- What fits while it is read is what is lawful. Assumes nothing.
use Rattle.std.proofs.Common.{◌≡◌, ℕ, ◌+◌, ◌≤◌, List, [], ◌∷◌, ◌++◌, length, Some, sym, subst, arith}
use Rattle.std.specs.List.{flat_map, AllByRecursion}
use Rattle.std.proofs.lemmas.List.{append_assoc, append-nil, length-append}
use Rattle.std.proofs.ByRecursion.{All-append, All-weaker}
use Rattle.entry_format.specs.Encoding.{encode_name, encode_list, encode_production, WellFormed, production_names, NamesAt, ProductionsAt, Lawful}
use Rattle.entry_format.specs.Grammars.{ProductionModel, GrammarModel, symbols, references}
use Rattle.entry_format.specs.Names.{position, Distinct, IsAt}
use Rattle.entry_format.specs.Reading.{NameModel}
use Rattle.entry_format.proofs.Series.{all_front, all_behind, FitsAll, fits_split, fits_both}
use Rattle.entry_format.proofs.Fields.{NameFits}
use Rattle.entry_format.proofs.Positions.{is_from_position, position_from_is, distinct_push, fresh_inside, distinct_front, distinct_behind}
use Rattle.entry_format.proofs.Sections.{NewName, DeclarationFits, ProductionFits}

-- names that fit are well-formed and at their places
names_parts : (names done : List NameModel) (p : ℕ) → FitsAll encode_name NameFits done p names → NamesAt p names × AllByRecursion WellFormed names
names_parts [] done p h = (tt, tt)
names_parts (n ∷ names) done p h =
    let (at, formed) = names_parts names (done ++ n ∷ []) (p + length (encode_name n)) h.1 in
    ((h.0.0, at), (h.0.1, formed))

names_fit : (names done : List NameModel) (p : ℕ) → NamesAt p names → AllByRecursion WellFormed names → FitsAll encode_name NameFits done p names
names_fit [] done p at formed = tt
names_fit (n ∷ names) done p at formed =
    ((at.0, formed.0), names_fit names (done ++ n ∷ []) (p + length (encode_name n)) at.1 formed.1)

module _ (earlier : List NameModel) where
  -- names fit behind those before exactly if all are distinct
  new_distinct : (names done : List NameModel) (p : ℕ) → FitsAll encode_name (NewName earlier) done p names → Distinct (earlier ++ done) → Distinct (earlier ++ (done ++ names))
  new_distinct [] done p h d = subst (λ xs. Distinct (earlier ++ xs)) (sym (append-nil done)) d
  new_distinct (n ∷ names) done p h d =
      subst (λ xs. Distinct (earlier ++ xs)) (append_assoc done (n ∷ []) names)
      (new_distinct names (done ++ n ∷ []) (p + length (encode_name n)) h.1
      (subst Distinct (append_assoc earlier done (n ∷ [])) (distinct_push (earlier ++ done) n d h.0)))

  distinct_new : (names done : List NameModel) (p : ℕ) → Distinct (earlier ++ (done ++ names)) → FitsAll encode_name (NewName earlier) done p names
  distinct_new [] done p d = tt
  distinct_new (n ∷ names) done p d = (
    fresh_inside (earlier ++ done) n names (subst Distinct (sym (append_assoc earlier done (n ∷ names))) d),
    distinct_new names (done ++ n ∷ []) (p + length (encode_name n))
        (subst (λ xs. Distinct (earlier ++ xs)) (sym (append_assoc done (n ∷ []) names)) d),
  )

  declared_parts : (names : List NameModel) (p : ℕ) → FitsAll encode_name (DeclarationFits earlier) [] p names → Distinct earlier →
      NamesAt p names × AllByRecursion WellFormed names × Distinct (earlier ++ names)
  declared_parts names p h d =
      let (fits, new) = fits_split encode_name NameFits (NewName earlier) names [] p h in
      let (at, formed) = names_parts names [] p fits in
      (at, formed, new_distinct names [] p new (subst Distinct (sym (append-nil earlier)) d))

  declared_fit : (names : List NameModel) (p : ℕ) → NamesAt p names → AllByRecursion WellFormed names → Distinct (earlier ++ names) → FitsAll encode_name (DeclarationFits earlier) [] p names
  declared_fit names p at formed d =
      fits_both encode_name NameFits (NewName earlier) names [] p (names_fit names [] p at formed) (distinct_new names [] p d)

-- the number of references
references_append : (xs ys : List ProductionModel) → length (references (xs ++ ys)) ≡ length (references xs) + length (references ys)
references_append [] ys = omega arith
references_append (x ∷ xs) ys =
    omega (arith, references_append xs ys, length-append x.right (references (xs ++ ys)), length-append x.right (references xs))

references_more : (xs : List ProductionModel) (y : ProductionModel) (ys : List ProductionModel) →
    length (references (xs ++ y ∷ ys)) ≡ length (references xs) + length y.right + length (references ys)
references_more xs y ys = omega (arith, references_append xs (y ∷ ys), length-append y.right (references ys))

module _ (nonterminals : List NameModel) where
  abbrev Numbered : ProductionModel → Type 0
  Numbered q = position nonterminals q.left ≡ Some q.nonterminal

  -- productions that fit have their places, well-formed names and their nonterminals, and not too many references
  productions_parts : (ps done : List ProductionModel) (p : ℕ) → FitsAll encode_production (ProductionFits nonterminals) done p ps → length (references done) ≤ 1024 →
      ProductionsAt p ps × AllByRecursion WellFormed (flat_map production_names ps) × AllByRecursion Numbered ps × (length (references (done ++ ps)) ≤ 1024)
  productions_parts [] done p h few = (tt, tt, tt, subst (λ xs. length (references xs) ≤ 1024) (sym (append-nil done)) few)
  productions_parts (q ∷ ps) done p h few =
      let fits = h.0 in
      let (at, formed) = names_parts q.right [] (p + length (encode_name q.left) + 2) fits.right in
      let few' : length (references (done ++ q ∷ [])) ≤ 1024 = omega (arith, references_more done q [], fits.few) in
      let (at', formed', numbered, sum) = productions_parts ps (done ++ q ∷ []) (p + length (encode_production q)) h.1 few' in (
        (fits.left.0, at, at'),
        (fits.left.1, All-append WellFormed q.right (flat_map production_names ps) formed formed'),
        (fits.nonterminal, numbered),
        subst (λ xs. length (references xs) ≤ 1024) (append_assoc done (q ∷ []) ps) sum,
      )

  productions_fit : (ps done : List ProductionModel) (p : ℕ) → ProductionsAt p ps → AllByRecursion WellFormed (flat_map production_names ps) → AllByRecursion Numbered ps →
      length (references (done ++ ps)) ≤ 1024 → FitsAll encode_production (ProductionFits nonterminals) done p ps
  productions_fit [] done p at formed numbered sum = tt
  productions_fit (q ∷ ps) done p at formed numbered sum = (
    record {
      left = (at.0, formed.0);
      nonterminal = numbered.0;
      few = omega (arith, references_more done q ps);
      right = names_fit q.right [] (p + length (encode_name q.left) + 2) at.1 (all_front WellFormed q.right (flat_map production_names ps) formed.1);
    },
    productions_fit ps (done ++ q ∷ []) (p + length (encode_production q)) at.2
        (all_behind WellFormed q.right (flat_map production_names ps) formed.1) numbered.1
        (subst (λ xs. length (references xs) ≤ 1024) (sym (append_assoc done (q ∷ []) ps)) sum),
  )

-- each part of the grammar fits where the encoding writes it
pub record Fitting (g : GrammarModel) : Type 0 where
  pub few_terminals : length g.terminals ≤ 63
  pub some_nonterminal : 1 ≤ length g.nonterminals
  pub few_nonterminals : length g.nonterminals ≤ 64
  pub few_productions : length g.productions ≤ 256
  pub terminals : FitsAll encode_name (DeclarationFits []) [] 3 g.terminals
  pub nonterminals : FitsAll encode_name (DeclarationFits g.terminals) [] (1 + length (encode_list g.terminals) + 2) g.nonterminals
  pub productions : FitsAll encode_production (ProductionFits g.nonterminals) [] (1 + length (encode_list g.terminals) + length (encode_list g.nonterminals) + 2) g.productions

pub lawful_from_fitting : (g : GrammarModel) → Fitting g → Lawful g
lawful_from_fitting g f =
    let (at, formed, d) = declared_parts [] g.terminals _ f.terminals tt in
    let (at₁, formed₁, d₁) = declared_parts g.terminals g.nonterminals _ f.nonterminals d in
    let (at₂, formed₂, numbered, sum) = productions_parts g.nonterminals g.productions [] _ f.productions (omega arith) in
    record {
      few_terminals = f.few_terminals;
      some_nonterminal = f.some_nonterminal;
      few_nonterminals = f.few_nonterminals;
      few_productions = f.few_productions;
      few_references = sum;
      well_formed = All-append WellFormed (symbols g) (flat_map production_names g.productions) (All-append WellFormed g.terminals g.nonterminals formed formed₁) formed₂;
      distinct = d₁;
      left_sides = All-weaker (λ q. position g.nonterminals q.left ≡ Some q.nonterminal) (λ q. IsAt g.nonterminals q.left q.nonterminal)
          (λ q e. is_from_position g.nonterminals q.left q.nonterminal e) g.productions numbered;
      located = record { terminals = at; nonterminals = at₁; productions = at₂ };
    }

pub fitting_from_lawful : (g : GrammarModel) → Lawful g → Fitting g
fitting_from_lawful g w =
    let rest = flat_map production_names g.productions in
    let formed : AllByRecursion WellFormed (symbols g) = all_front WellFormed (symbols g) rest w.well_formed in
    let apart : Distinct g.nonterminals = distinct_behind g.terminals g.nonterminals w.distinct in
    record {
      few_terminals = w.few_terminals;
      some_nonterminal = w.some_nonterminal;
      few_nonterminals = w.few_nonterminals;
      few_productions = w.few_productions;
      terminals = declared_fit [] g.terminals _ w.located.terminals (all_front WellFormed g.terminals g.nonterminals formed)
          (distinct_front g.terminals g.nonterminals w.distinct);
      nonterminals = declared_fit g.terminals g.nonterminals _ w.located.nonterminals (all_behind WellFormed g.terminals g.nonterminals formed) w.distinct;
      productions = productions_fit g.nonterminals g.productions [] _ w.located.productions
          (all_behind WellFormed (symbols g) rest w.well_formed)
          (All-weaker (λ q. IsAt g.nonterminals q.left q.nonterminal) (λ q. position g.nonterminals q.left ≡ Some q.nonterminal)
          (λ q at. position_from_is g.nonterminals q.left q.nonterminal apart at) g.productions w.left_sides)
          w.few_references;
    }
