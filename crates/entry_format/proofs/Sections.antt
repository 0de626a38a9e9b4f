-- The sections of a grammar's file: the kind, the declared names and the productions. Assumes nothing.
use Rattle.std.proofs.Common.{◌≡◌, ℕ, ◌+◌, ◌-◌, ◌≤◌, Bool, true, false, cond, eqb, List, [], ◌∷◌, ◌++◌, length, is_some, Some, None, Ok, Err, Option, Result, sym, refl, ap, ◌∙◌, subst, arith}
use Rattle.std.specs.Option.{ok_or}
use Rattle.std.proofs.lemmas.Bool.{eqb-true}
use Rattle.entry_format.specs.declared.fault.LoadFault.{LoadFault}
use Rattle.entry_format.specs.declared.fault.NameFault.{NameFault}
use Rattle.entry_format.specs.Encoding.{encode_name, encode_list, encode_production, encode_productions}
use Rattle.entry_format.specs.Grammars.{ProductionModel, references, loader_checks, checked, read_kind, read_limited, read_declaration, read_declarations, read_production, read_productions}
use Rattle.entry_format.specs.Names.{position}
use Rattle.entry_format.specs.Reading.{Input, Parsed, got, and_then, series, lift, read_byte, NameModel, read_name}
use Rattle.entry_format.proofs.Series.{Passes, Begins, passes_then, begins_then, bad_got, cond_got, and_then_got, and_then_is, and_then_assoc, lift_got, got_same, Sound, Complete, FitsAll, all_sound, series_complete}
use Rattle.entry_format.proofs.Fields.{byte_sound, byte_complete, counted_sound, counted_complete, NameFits, name_sound, name_complete}
use Rattle.entry_format.proofs.Positions.{Fresh, fresh_from_none, none_from_fresh}

pub kind_sound : (kind : ℕ) (l : Input) (u : Unit {0}) (l' : Input) → read_kind kind l ≡ got u l' → Begins l (kind ∷ []) l'
kind_sound kind l u l' h =
    let (b, m, e, k) = and_then_got (lift (read_byte l)) _ u l' h in
    let (ok, same) = cond_got (eqb b kind) _ _ u l' k in
    got_same (λ _ l'. Begins l (kind ∷ []) l') same
    (subst (λ b. Begins l (b ∷ []) m) (eqb-true b kind ok) (byte_sound l b m (lift_got (read_byte l) b m e)))

pub one_complete : (l l' : Input) → Begins l (1 ∷ []) l' → read_kind 1 l ≡ got tt l'
one_complete l l' h = and_then_is _ (ap lift (byte_complete l 1 l' h)) refl

-- a check that passes
checked_got : {V : Type 0} (r : Result V NameFault) (l : Input) (v : V) (l' : Input) → checked r l ≡ got v l' → (r ≡ Ok v) × (l ≡ l')
checked_got (Ok u) l v l' h = (cc, cc)
checked_got (Err e) l v l' h = absurd (bad_got _ v l' h)

refused_not : (b : Bool) (e : NameFault) (u : Unit {0}) → cond b (Err e) (Ok tt) ≡ Ok u → b ≡ false
refused_not true e u h = let z : ◌≡◌ {A = ℕ} 0 1 = cc in absurd (omega arith)
refused_not false e u h = refl

ok_or_ok : (o : Option ℕ) (e : NameFault) (k : ℕ) → ok_or o e ≡ Ok k → o ≡ Some k
ok_or_ok (Some j) e k h = let f : j ≡ k = cc in ap Some f
ok_or_ok None e k h = let z : ◌≡◌ {A = ℕ} 0 1 = cc in absurd (omega arith)

-- names that are declared behind `earlier`
module _ (earlier : List NameModel) where
  abbrev pub NewName : List NameModel → ℕ → NameModel → Type 0
  NewName done p n = Fresh (earlier ++ done) n

  abbrev pub DeclarationFits : List NameModel → ℕ → NameModel → Type 0
  DeclarationFits done p n = NameFits done p n × NewName done p n

  declaration_sound : Sound (read_declaration loader_checks earlier) encode_name DeclarationFits
  declaration_sound done l v l' h =
      let (n, m, e, k) = and_then_got (lift (read_name l)) _ v l' h in
      let (p, fits) = name_sound done l n m (lift_got (read_name l) n m e) in
      let r = loader_checks.declares (earlier ++ done) n in
      let (u, m₁, e₁, k₁) = and_then_got (checked r m) _ v l' k in
      let (ok, same) = checked_got r m u m₁ e₁ in
      let new = fresh_from_none (earlier ++ done) n (refused_not (is_some (position (earlier ++ done) n)) _ u ok) in
      got_same (λ v l'. Passes l (encode_name v) l' × DeclarationFits done l.place v) k₁
      (subst (Passes l (encode_name n)) same p, (fits, new))

  declaration_complete : Complete (read_declaration loader_checks earlier) encode_name DeclarationFits
  declaration_complete done l v l' h fits =
      and_then_is _ (ap lift (name_complete done l v l' h fits.0))
      (rw (none_from_fresh (earlier ++ done) v fits.1) refl)

  module _ (low high : ℕ) where
    pub declarations_sound : (l : Input) (vs : List NameModel) (l' : Input) → read_declarations loader_checks low high earlier l ≡ got vs l' →
        Passes l (encode_list vs) l' × (low ≤ length vs) × (length vs ≤ high) × FitsAll encode_name DeclarationFits [] (l.place + 2) vs
    declarations_sound =
        counted_sound encode_name DeclarationFits (λ n m. series (read_declaration loader_checks earlier) n [] m) low high
        (all_sound (read_declaration loader_checks earlier) encode_name DeclarationFits declaration_sound)

    pub declarations_complete : (l : Input) (vs : List NameModel) (l' : Input) → Begins l (encode_list vs) l' →
        low ≤ length vs → length vs ≤ high → FitsAll encode_name DeclarationFits [] (l.place + 2) vs →
        read_declarations loader_checks low high earlier l ≡ got vs l'
    declarations_complete =
        counted_complete encode_name DeclarationFits (λ n m. series (read_declaration loader_checks earlier) n [] m) low high
        (λ vs. series_complete (read_declaration loader_checks earlier) encode_name DeclarationFits declaration_complete vs [])

-- the names of a right side
abbrev right_side : ℕ → Input → Parsed LoadFault (List NameModel)
right_side n m = lift (series (λ _. read_name) n [] m)

-- productions beside the nonterminals
module _ (nonterminals : List NameModel) where
  pub record ProductionFits (done : List ProductionModel) (p : ℕ) (q : ProductionModel) : Type 0 where
    pub left : NameFits [] p q.left
    pub nonterminal : position nonterminals q.left ≡ Some q.nonterminal
    pub few : length q.right ≤ 1024 - length (references done)
    pub right : FitsAll encode_name NameFits [] (p + length (encode_name q.left) + 2) q.right

  production_sound : Sound (read_production loader_checks nonterminals) encode_production ProductionFits
  production_sound done l v l' h =
      let (left, l₁, e, k) = and_then_got (lift (read_name l)) _ v l' h in
      let (p, fits) = name_sound [] l left l₁ (lift_got (read_name l) left l₁ e) in
      let r = loader_checks.left_side nonterminals left in
      let (number, l₂, e₁, k₁) = and_then_got (checked r l₁) _ v l' k in
      let (ok, same) = checked_got r l₁ number l₂ e₁ in
      let limit = 1024 - length (references done) in
      let (right, l₃, e₂, k₂) = and_then_got (and_then (read_limited 0 limit l₂) right_side) _ v l' (and_then_assoc (read_limited 0 limit l₂) right_side _ ∙ k₁) in
      let (q, low, few, all) =
      counted_sound encode_name NameFits right_side 0 limit
      (λ n m vs m₁ e. all_sound (λ _. read_name) encode_name NameFits name_sound n m vs m₁ (lift_got _ vs m₁ e)) l₂ right l₃ e₂ in
      let p' : Passes l (encode_name left) l₂ = subst (Passes l (encode_name left)) same p in
      got_same (λ v l'. Passes l (encode_production v) l' × ProductionFits done l.place v) k₂ (
        passes_then (encode_name left) (encode_list right) p' q,
        record {
          left = fits;
          nonterminal = ok_or_ok (position nonterminals left) _ number ok;
          few = few;
          right = subst (λ x. FitsAll encode_name NameFits [] (x + 2) right) p'.moved all;
        },
      )

  production_complete : Complete (read_production loader_checks nonterminals) encode_production ProductionFits
  production_complete done l v l' h fits =
      let (m, p, q) = begins_then (encode_name v.left) (encode_list v.right) h in
      let limit = 1024 - length (references done) in
      and_then_is _ (ap lift (name_complete [] l v.left m p fits.left))
      (rw fits.nonterminal
      (sym (and_then_assoc (read_limited 0 limit m) right_side _)
      ∙ and_then_is _ (counted_complete encode_name NameFits right_side 0 limit
      (λ vs m m₁ b f. ap lift (series_complete (λ _. read_name) encode_name NameFits name_complete vs [] m m₁ b f))
      m v.right l' q (omega arith) fits.few
      (subst (λ x. FitsAll encode_name NameFits [] (x + 2) v.right) (sym p.moved) fits.right)) refl))

  pub productions_sound : (l : Input) (vs : List ProductionModel) (l' : Input) → read_productions loader_checks nonterminals l ≡ got vs l' →
      Passes l (encode_productions vs) l' × (0 ≤ length vs) × (length vs ≤ 256) × FitsAll encode_production ProductionFits [] (l.place + 2) vs
  productions_sound =
      counted_sound encode_production ProductionFits (λ n m. series (read_production loader_checks nonterminals) n [] m) 0 256
      (all_sound (read_production loader_checks nonterminals) encode_production ProductionFits production_sound)

  pub productions_complete : (l : Input) (vs : List ProductionModel) (l' : Input) → Begins l (encode_productions vs) l' →
      0 ≤ length vs → length vs ≤ 256 → FitsAll encode_production ProductionFits [] (l.place + 2) vs →
      read_productions loader_checks nonterminals l ≡ got vs l'
  productions_complete =
      counted_complete encode_production ProductionFits (λ n m. series (read_production loader_checks nonterminals) n [] m) 0 256
      (λ vs. series_complete (read_production loader_checks nonterminals) encode_production ProductionFits production_complete vs [])
