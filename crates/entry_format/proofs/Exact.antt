-- A file loads as a grammar exactly when it is the grammar's encoding and the grammar is lawful. Assumes nothing.
use Rattle.std.proofs.Common.{◌≡◌, ℕ, ◌+◌, Bool, true, false, cond, eqb, List, [], ◌∷◌, ◌++◌, length, Ok, Err, sym, refl, ap, ◌∙◌, subst, arith}
use Rattle.std.proofs.lemmas.List.{append-nil}
use Rattle.std.proofs.lemmas.Bool.{eqb-true}
use Rattle.entry_format.specs.declared.fault.LoadFault.{LoadFault}
use Rattle.entry_format.specs.declared.fault.LoadFault.TheVariants.{TrailingBytes}
use Rattle.entry_format.specs.Encoding.{encode_name, encode_list, encode_production, encode_productions, encode_grammar, Lawful}
use Rattle.entry_format.specs.Grammars.{GrammarModel, loader_checks, read_kind, read_declarations, read_productions, read_grammar, whole, load_grammar}
use Rattle.entry_format.specs.Laws.{LoadsExactlyEncodings}
use Rattle.entry_format.specs.Reading.{Input, input, Parsed, got, bad}
use Rattle.entry_format.proofs.Series.{Passes, Begins, passes_then, begins_then, begins_passes, and_then_got, and_then_is, got_same, FitsAll}
use Rattle.entry_format.proofs.Sections.{DeclarationFits, ProductionFits, kind_sound, one_complete, declarations_sound, declarations_complete, productions_sound, productions_complete}
use Rattle.entry_format.proofs.Fitting.{lawful_from_fitting, fitting_from_lawful}

-- a grammar that is read was written in front, and one that is read from place 0 is lawful
pub grammar_sound : (l : Input) (g : GrammarModel) (l' : Input) → read_grammar loader_checks l ≡ got g l' →
    Passes l (encode_grammar g) l' × (l.place ≡ 0 → Lawful g)
grammar_sound l g l' h =
    let (u, l₁, e, k) = and_then_got (read_kind 1 l) _ g l' h in
    let p : Passes l (1 ∷ []) l₁ = begins_passes (kind_sound 1 l u l₁ e) in
    let (ts, l₂, e₁, k₁) = and_then_got (read_declarations loader_checks 0 63 [] l₁) _ g l' k in
    let (p₁, low₁, few₁, fits₁) = declarations_sound [] 0 63 l₁ ts l₂ e₁ in
    let (ns, l₃, e₂, k₂) = and_then_got (read_declarations loader_checks 1 64 ts l₂) _ g l' k₁ in
    let (p₂, low₂, few₂, fits₂) = declarations_sound ts 1 64 l₂ ns l₃ e₂ in
    let (ps, l₄, e₃, k₃) = and_then_got (read_productions loader_checks ns l₃) _ g l' k₂ in
    let (p₃, low₃, few₃, fits₃) = productions_sound ns l₃ ps l₄ e₃ in
    got_same (λ g l'. Passes l (encode_grammar g) l' × (l.place ≡ 0 → Lawful g)) k₃ (
      passes_then (1 ∷ []) (encode_list ts ++ (encode_list ns ++ encode_productions ps)) p
          (passes_then (encode_list ts) (encode_list ns ++ encode_productions ps) p₁ (passes_then (encode_list ns) (encode_productions ps) p₂ p₃)),
      λ start.
          let a : l₁.place + 2 ≡ 3 = omega arith in
          let b : l₂.place + 2 ≡ 1 + length (encode_list ts) + 2 = omega arith in
          let c : l₃.place + 2 ≡ 1 + length (encode_list ts) + length (encode_list ns) + 2 = omega arith in
          lawful_from_fitting (record { terminals = ts; nonterminals = ns; productions = ps }) (record {
            few_terminals = few₁;
            some_nonterminal = low₂;
            few_nonterminals = few₂;
            few_productions = few₃;
            terminals = subst (λ x. FitsAll encode_name (DeclarationFits []) [] x ts) a fits₁;
            nonterminals = subst (λ x. FitsAll encode_name (DeclarationFits ts) [] x ns) b fits₂;
            productions = subst (λ x. FitsAll encode_production (ProductionFits ns) [] x ps) c fits₃;
          }),
    )

-- the same, of any list of numbers
pub grammar_lawful : (file : List ℕ) (g : GrammarModel) (l' : Input) → read_grammar loader_checks (input file 0) ≡ got g l' → Lawful g
grammar_lawful file g l' h = (grammar_sound (input file 0) g l' h).1 refl

-- a lawful grammar that is written in front is read
pub grammar_complete : (l : Input) (g : GrammarModel) (l' : Input) → Begins l (encode_grammar g) l' → l.place ≡ 0 → Lawful g →
    read_grammar loader_checks l ≡ got g l'
grammar_complete l g l' h start lawful =
    let f = fitting_from_lawful g lawful in
    let ts = g.terminals in
    let ns = g.nonterminals in
    let ps = g.productions in
    let (l₁, p, q) = begins_then (1 ∷ []) (encode_list ts ++ (encode_list ns ++ encode_productions ps)) h in
    let (l₂, p₁, q₁) = begins_then (encode_list ts) (encode_list ns ++ encode_productions ps) q in
    let (l₃, p₂, p₃) = begins_then (encode_list ns) (encode_productions ps) q₁ in
    let a : 3 ≡ l₁.place + 2 = omega arith in
    let b : 1 + length (encode_list ts) + 2 ≡ l₂.place + 2 = omega arith in
    let c : 1 + length (encode_list ts) + length (encode_list ns) + 2 ≡ l₃.place + 2 = omega arith in
    and_then_is _ (one_complete l l₁ p)
    (and_then_is _ (declarations_complete [] 0 63 l₁ ts l₂ p₁ (omega arith) f.few_terminals (subst (λ x. FitsAll encode_name (DeclarationFits []) [] x ts) a f.terminals))
    (and_then_is _ (declarations_complete ts 1 64 l₂ ns l₃ p₂ f.some_nonterminal f.few_nonterminals (subst (λ x. FitsAll encode_name (DeclarationFits ts) [] x ns) b f.nonterminals))
    (and_then_is _ (productions_complete ns l₃ ps l' p₃ (omega arith) f.few_productions (subst (λ x. FitsAll encode_production (ProductionFits ns) [] x ps) c f.productions)) refl)))

empty : {X : Type 0} (xs : List X) → length xs ≡ 0 → xs ≡ []
empty [] h = refl
empty (x ∷ xs) h = absurd (omega arith)

-- a file is loaded where it is read and nothing is left
pub whole_ok : {V : Type 0} (x : Parsed LoadFault V) (v : V) → whole x ≡ Ok v → (l : Input) × (x ≡ got v l) × (l.rest ≡ [])
whole_ok {V} (got u l) v h = go (eqb (length l.rest) 0) refl h
  where
    go : (b : Bool) → eqb (length l.rest) 0 ≡ b → cond b (Ok u) (Err (TrailingBytes l.place)) ≡ Ok v →
        (m : Input) × (◌≡◌ {A = Parsed LoadFault V} (got u l) (got v m)) × (m.rest ≡ [])
    go true e k = let f : u ≡ v = cc in (l, ap (λ w. got w l) f, empty l.rest (eqb-true (length l.rest) 0 e))
    go false e k = let z : ◌≡◌ {A = ℕ} 0 1 = cc in absurd (omega arith)
whole_ok (bad e) v h = let z : ◌≡◌ {A = ℕ} 0 1 = cc in absurd (omega arith)

-- the encoding of a lawful grammar loads as that grammar
pub encoding_loads : (g : GrammarModel) → Lawful g → load_grammar loader_checks (encode_grammar g) ≡ Ok g
encoding_loads g lawful =
    let end : Input = input [] (length (encode_grammar g)) in
    let p : Begins (input (encode_grammar g) 0) (encode_grammar g) end =
    record { moved = omega arith; front = sym (append-nil (encode_grammar g)) } in
    ap whole (grammar_complete (input (encode_grammar g) 0) g end p refl lawful)

pub loads_exactly : LoadsExactlyEncodings
loads_exactly file g bytes = (
  λ h.
      let (l, e, none) = whole_ok (read_grammar loader_checks (input file 0)) g h in
      let (p, lawful) = grammar_sound (input file 0) g l e in
      (p.front bytes ∙ ap (λ r. encode_grammar g ++ r) none ∙ append-nil (encode_grammar g), lawful refl),
  λ k. ap (load_grammar loader_checks) k.0 ∙ encoding_loads g k.1,
)
