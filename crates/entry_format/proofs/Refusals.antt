-- What each refusal says of the file. Assumes that a grammar that was read is lawful and that the bytes read are its encoding.
use Rattle.std.proofs.Common.{◌≡◌, ℕ, ◌-◌, Bool, true, false, cond, eqb, List, [], ◌++◌, length, get_or, take, Some, None, Ok, Err, Option, sym, refl, ap, ◌∙◌, subst, arith, length-drop}
use Rattle.std.specs.Option.{ok_or}
use Rattle.std.proofs.lemmas.List.{take_at}
use Rattle.std.proofs.lemmas.Bool.{cond_both, eqb-false}
use Rattle.entry_format.specs.declared.fault.LoadFault.{LoadFault}
use Rattle.entry_format.specs.declared.fault.LoadFault.TheVariants.{WrongKind, OverLimit, TrailingBytes}
use Rattle.entry_format.specs.declared.fault.NameFault.TheVariants.{Duplicate, NotNonterminal}
use Rattle.entry_format.specs.declared.fault.ReadFault.{ReadFault}
use Rattle.entry_format.specs.Encoding.{encode_grammar, Lawful}
use Rattle.entry_format.specs.Grammars.{ProductionModel, GrammarModel, references, loader_checks, checked, read_kind, read_limited, read_declaration, read_declarations, read_production, read_productions, read_grammar, whole}
use Rattle.entry_format.specs.Laws.{Bytes, Tells, RefusalsTell}
use Rattle.entry_format.specs.Reading.{Input, input, Parsed, got, bad, and_then, series, lift, read_byte, read_count, within, NameModel, read_name}
use Rattle.entry_format.proofs.FieldFaults.{Within, BehindName, ToldRead, read_byte_tells, read_count_tells, read_name_tells, read_names_tells}
use Rattle.entry_format.proofs.Outcomes.{Holds, holds_and_then, holds_lift, holds_series}

module _ (file : List ℕ) where
  -- the next input is within the file, or the fault says what is so of the file
  abbrev Told : {V : Type 0} → Parsed LoadFault V → Type 0
  Told x = Holds (λ _. Within file) (Tells file) x

  -- a field and what is read behind it
  field_tells : {V W : Type 0} (P : V → Input → Type 0) (x : Parsed ReadFault V) (f : V → Input → Parsed LoadFault W) →
      ToldRead file P x → ((v : V) (l : Input) → P v l → Told (f v l)) → Told (and_then (lift x) f)
  field_tells P x f h next = holds_and_then P (λ _. Within file) (Tells file) (lift x) f (holds_lift P (Tells file) x h) next

  -- one reading after another
  then_tells : {V W : Type 0} (x : Parsed LoadFault V) (f : V → Input → Parsed LoadFault W) →
      Told x → ((v : V) (l : Input) → Within file l → Told (f v l)) → Told (and_then x f)
  then_tells x f h next = holds_and_then (λ _. Within file) (λ _. Within file) (Tells file) x f h next

  read_kind_tells : (l : Input) → Within file l → l.place ≡ 0 → Told (read_kind 1 l)
  read_kind_tells l h start =
      field_tells _ (read_byte l) _ (read_byte_tells file l h) (λ b after g.
      cond_both (eqb b 1) (got tt after) (bad (WrongKind l.place)) Told
      (λ same. g.inside)
      (λ other. (start, omega arith, λ e. eqb-false b 1 other (g.is ∙ ap (λ p. get_or file p 0) start ∙ e))))

  read_limited_tells : (low high : ℕ) (l : Input) → Within file l → Told (read_limited low high l)
  read_limited_tells low high l h =
      field_tells _ (read_count l) _ (read_count_tells file l h) (λ n after g.
      cond_both (within low high n) (got n after) (bad (OverLimit l.place)) Told
      (λ fits. g.0)
      (λ over. omega arith))

  -- a count and that many readings
  counted_tells : {V : Type 0} (low high : ℕ) (read : List V → Input → Parsed LoadFault V) →
      ((done : List V) (l : Input) → Within file l → Told (read done l)) →
      (l : Input) → Within file l →
      Told (and_then (read_limited low high l) (λ n l₁. series read n [] l₁))
  counted_tells low high read step l h =
      then_tells (read_limited low high l) _ (read_limited_tells low high l h) (λ n l₁ g.
      holds_series (λ _ _. Within file) _ read (λ _. step) n [] l₁ g)

  -- a name that is found among earlier ones stands whole in the file
  declares_tells : (n : NameModel) (l : Input) → BehindName file n l → (found : Bool) →
      Told (checked {V = Unit {0}} (cond found (Err (Duplicate n.at)) (Ok tt)) l)
  declares_tells n l h true = omega arith
  declares_tells n l h false = h.0

  -- and so does one that is not found among the nonterminals
  left_side_tells : (n : NameModel) (l : Input) → BehindName file n l → (found : Option ℕ) →
      Told (checked (ok_or found (NotNonterminal n.at)) l)
  left_side_tells n l h (Some k) = h.0
  left_side_tells n l h None = omega arith

  read_declaration_tells : (earlier done : List NameModel) (l : Input) → Within file l →
      Told (read_declaration loader_checks earlier done l)
  read_declaration_tells earlier done l h =
      field_tells _ (read_name l) _ (read_name_tells file l h) (λ n l₁ g.
      then_tells (checked (loader_checks.declares (earlier ++ done) n) l₁) _ (declares_tells n l₁ g _) (λ _ l₂ k. k))

  read_production_tells : (nonterminals : List NameModel) (done : List ProductionModel) (l : Input) → Within file l →
      Told (read_production loader_checks nonterminals done l)
  read_production_tells nonterminals done l h =
      field_tells _ (read_name l) _ (read_name_tells file l h) (λ left l₁ g.
      then_tells (checked (loader_checks.left_side nonterminals left) l₁) _ (left_side_tells left l₁ g _) (λ _ l₂ k.
      then_tells (read_limited 0 (1024 - length (references done)) l₂) _ (read_limited_tells 0 _ l₂ k) (λ n l₃ i.
      field_tells _ (series (λ _. read_name) n [] l₃) _ (read_names_tells file n l₃ i) (λ right l₄ j. j))))

  read_grammar_tells : Told (read_grammar loader_checks (input file 0))
  read_grammar_tells =
      then_tells (read_kind 1 (input file 0)) _ (read_kind_tells (input file 0) (refl, omega arith) refl) (λ _ l₁ h₁.
      then_tells (read_declarations loader_checks 0 63 [] l₁) _ (counted_tells 0 63 _ (read_declaration_tells []) l₁ h₁) (λ terminals l₂ h₂.
      then_tells (read_declarations loader_checks 1 64 terminals l₂) _ (counted_tells 1 64 _ (read_declaration_tells terminals) l₂ h₂) (λ nonterminals l₃ h₃.
      then_tells (read_productions loader_checks nonterminals l₃) _ (counted_tells 0 256 _ (read_production_tells nonterminals) l₃ h₃) (λ productions l₄ h₄.
      h₄))))

  -- what was read before the trailing bytes is the encoding of a lawful grammar
  trailing_tells : (g : GrammarModel) (l : Input) → Within file l → (length l.rest ≡ 0 → ⊥) →
      (file ≡ encode_grammar g ++ l.rest) × (l.place ≡ length (encode_grammar g)) × Lawful g → Tells file (TrailingBytes l.place)
  trailing_tells g l h more sound =
      let size = ap length h.0 ∙ length-drop l.place file in
      (omega arith, (g, ap (take l.place) sound.0 ∙ take_at (encode_grammar g) l.rest l.place (sym sound.1), sound.2))

module _ (grammar_sound : (file : List ℕ) (g : GrammarModel) (l' : Input) → Bytes file → read_grammar loader_checks (input file 0) ≡ got g l' →
    (file ≡ encode_grammar g ++ l'.rest) × (l'.place ≡ length (encode_grammar g)) × Lawful g) where
  whole_tells : (file : List ℕ) (e : LoadFault) → Bytes file → (x : Parsed LoadFault GrammarModel) → read_grammar loader_checks (input file 0) ≡ x →
      Told file x → whole x ≡ Err e → Tells file e
  whole_tells file e bytes (got g l) read h refused =
      cond_both (eqb (length l.rest) 0) (Ok g) (Err (TrailingBytes l.place)) (λ r. r ≡ Err e → Tells file e)
      (λ none same. let never : ◌≡◌ {A = ℕ} 0 1 = cc in absurd (omega arith))
      (λ some same. let fault : TrailingBytes l.place ≡ e = cc in
      subst (Tells file) fault (trailing_tells file g l h (eqb-false (length l.rest) 0 some) (grammar_sound file g l bytes read)))
      refused
  whole_tells file e bytes (bad e') read h refused =
      let fault : e' ≡ e = cc in
      subst (Tells file) fault h

  pub refusals_tell : RefusalsTell
  refusals_tell file e bytes refused =
      whole_tells file e bytes (read_grammar loader_checks (input file 0)) refl (read_grammar_tells file) refused
