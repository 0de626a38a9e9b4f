-- Another file with the same front is refused with the same fault. Assumes, for the last law, that the encoding of a lawful grammar loads as that grammar.
use Rattle.std.proofs.Common.{◌≡◌, ℕ, ◌+◌, ◌-◌, ◌≤◌, Bool, true, false, cond, eqb, List, [], ◌++◌, length, drop, is_some, Some, None, Ok, Err, Option, Result, refl, ap, ◌∙◌, subst, arith, length-drop}
use Rattle.std.specs.Option.{ok_or}
use Rattle.std.proofs.lemmas.Bool.{cond_both, cond-false, eqb-false, ne_eqb}
use Rattle.entry_format.specs.declared.fault.LoadFault.{LoadFault}
use Rattle.entry_format.specs.declared.fault.LoadFault.TheVariants.{TrailingBytes}
use Rattle.entry_format.specs.declared.fault.NameFault.{NameFault}
use Rattle.entry_format.specs.declared.fault.NameFault.TheVariants.{Duplicate, NotNonterminal}
use Rattle.entry_format.specs.Encoding.{encode_grammar, Lawful}
use Rattle.entry_format.specs.Grammars.{ProductionModel, GrammarModel, references, loader_checks, checked, read_kind, read_limited, read_declaration, read_production, read_grammar, whole, load_grammar}
use Rattle.entry_format.specs.Laws.{shown_by, SameFrontSameRefusal, NoEncodingBeginsSo}
use Rattle.entry_format.specs.Names.{position}
use Rattle.entry_format.specs.Reading.{Input, input, Parsed, got, and_then, series, within, NameModel}
use Rattle.entry_format.proofs.Alike.{TwoFiles, there, Alike, AlikeReading, alike_got, alike_and_then, alike_cond, alike_lift, alike_series}
use Rattle.entry_format.proofs.Alike.Alike.{value, fault}
use Rattle.entry_format.proofs.AlikeFields.{same_size, read_byte_alike, read_count_alike, read_name_alike, read_names_alike}
use Rattle.entry_format.proofs.FieldFaults.{Within, BehindName}

module _ (t : TwoFiles) where
  -- of two readings of a part of the grammar
  abbrev AlikePart : {V : Type 0} → ℕ → Parsed LoadFault V → Parsed LoadFault V → Type 0
  AlikePart p x x' = Alike t (λ e. e) (λ _. Within t.file) p x x'

  -- and of that part wherever it begins
  abbrev Part : {V : Type 0} → (Input → Parsed LoadFault V) → Type 0
  Part read = AlikeReading t (λ e. e) (λ _ _. Within t.file) read

  read_kind_alike : Part (read_kind 1)
  read_kind_alike l h =
      alike_and_then _ (alike_lift (read_byte_alike t l h)) (λ b after g.
      alike_cond (eqb b 1) (alike_got g.inside) (fault (omega arith) (λ _. refl)))

  read_limited_alike : (low high : ℕ) → Part (read_limited low high)
  read_limited_alike low high l h =
      alike_and_then _ (alike_lift (read_count_alike t l h)) (λ n after g.
      alike_cond (within low high n) (alike_got g.0) (fault (omega arith) (λ _. refl)))

  -- a count and that many readings
  counted_alike : {V : Type 0} (low high : ℕ) (read : List V → Input → Parsed LoadFault V) → ((done : List V) → Part (read done)) →
      Part (λ l. and_then (read_limited low high l) (λ n l₁. series read n [] l₁))
  counted_alike low high read step l h =
      alike_and_then _ (read_limited_alike low high l h) (λ n l₁ g. alike_series (λ e. e) read step n [] l₁ g)

  declares_alike : (n : NameModel) (l : Input) → BehindName t.file n l → (found : Bool) →
      let check : Result (Unit {0}) NameFault = cond found (Err (Duplicate n.at)) (Ok tt) in
      AlikePart l.place (checked check l) (checked check (there t l))
  declares_alike n l h true = fault (omega arith) (λ _. refl)
  declares_alike n l h false = alike_got h.0

  left_side_alike : (n : NameModel) (l : Input) → BehindName t.file n l → (found : Option ℕ) →
      let check = ok_or found (NotNonterminal n.at) in
      AlikePart l.place (checked check l) (checked check (there t l))
  left_side_alike n l h (Some k) = alike_got h.0
  left_side_alike n l h None = fault (omega arith) (λ _. refl)

  read_declaration_alike : (earlier done : List NameModel) → Part (read_declaration loader_checks earlier done)
  read_declaration_alike earlier done l h =
      alike_and_then _ (alike_lift (read_name_alike t l h)) (λ n l₁ g.
      alike_and_then _ (declares_alike n l₁ g (is_some (position (earlier ++ done) n))) (λ _ l₂ k. alike_got k))

  read_production_alike : (nonterminals : List NameModel) (done : List ProductionModel) → Part (read_production loader_checks nonterminals done)
  read_production_alike nonterminals done l h =
      alike_and_then _ (alike_lift (read_name_alike t l h)) (λ left l₁ g.
      alike_and_then _ (left_side_alike left l₁ g (position nonterminals left)) (λ _ l₂ k.
      alike_and_then _ (read_limited_alike 0 (1024 - length (references done)) l₂ k) (λ n l₃ i.
      alike_and_then _ (alike_lift (read_names_alike t n l₃ i)) (λ right l₄ j. alike_got j))))

  read_grammar_alike : Part (read_grammar loader_checks)
  read_grammar_alike l h =
      alike_and_then _ (read_kind_alike l h) (λ _ l₁ h₁.
      alike_and_then _ (counted_alike 0 63 _ (read_declaration_alike []) l₁ h₁) (λ terminals l₂ h₂.
      alike_and_then _ (counted_alike 1 64 _ (read_declaration_alike terminals) l₂ h₂) (λ nonterminals l₃ h₃.
      alike_and_then _ (counted_alike 0 256 _ (read_production_alike nonterminals) l₃ h₃) (λ productions l₄ h₄.
      alike_got h₄))))

  -- if the place behind the grammar is shared and has a byte, the other file has one there too
  trailing_alike : (g : GrammarModel) (l : Input) → Within t.file l → (length l.rest ≡ 0 → ⊥) → l.place + 1 ≤ t.shared →
      whole (got g (there t l)) ≡ Err (TrailingBytes l.place)
  trailing_alike g l h more shown =
      let size = ap length h.0 ∙ length-drop l.place t.file in
      let some = ne_eqb (length (drop l.place t.other)) 0 (λ none. more (omega (arith, same_size t, length-drop l.place t.other))) in
      cond-false _ _ _ some

  whole_alike : {p : ℕ} {x x' : Parsed LoadFault GrammarModel} (e : LoadFault) → AlikePart p x x' →
      shown_by t.file e ≤ t.shared → whole x ≡ Err e → whole x' ≡ Err e
  whole_alike {x' = x'} e (value {v = g} {l = l} h le k) shown refused =
      cond_both (eqb (length l.rest) 0) (Ok g) (Err (TrailingBytes l.place)) (λ r. r ≡ Err e → whole x' ≡ Err e)
      (λ none same. let never : ◌≡◌ {A = ℕ} 0 1 = cc in absurd (omega arith))
      (λ some same. let is : TrailingBytes l.place ≡ e = cc in
      subst (λ f. shown_by t.file f ≤ t.shared → whole x' ≡ Err f) is
      (λ shown. ap whole (k (omega arith)) ∙ trailing_alike g l h (eqb-false (length l.rest) 0 some) shown) shown)
      refused
  whole_alike e (fault {e = f} le k) shown refused =
      let is : e ≡ f = cc in
      ap whole (k (subst (λ f. shown_by t.file f ≤ t.shared) is shown)) ∙ refused

pub same_front : SameFrontSameRefusal
same_front file other e refused same =
    let t : TwoFiles = record { file = file; other = other; shared = shown_by file e; same = same } in
    whole_alike t e (read_grammar_alike t (input file 0) (refl, omega arith)) (omega arith) refused

module _ (grammar_complete : (g : GrammarModel) → Lawful g → load_grammar loader_checks (encode_grammar g) ≡ Ok g) where
  pub no_encoding_begins_so : NoEncodingBeginsSo
  no_encoding_begins_so file e refused g lawful same =
      let loads = grammar_complete g lawful in
      let fails = same_front file (encode_grammar g) e refused same in
      let never : ◌≡◌ {A = ℕ} 0 1 = cc in
      omega arith
