-- What a reading of one field says of the file, and what its faults say. Assumes nothing.
use Rattle.std.proofs.Common.{◌≡◌, ℕ, suc, ◌+◌, ◌<◌, ◌≤◌, true, false, List, [], ◌∷◌, ◌++◌, length, get_or, drop, refl, ap, ◌∙◌, subst, inl, inr, arith, length-drop}
use Rattle.std.proofs.lemmas.List.{drop_more}
use Rattle.std.proofs.lemmas.Bool.{cond_both}
use Rattle.entry_format.specs.declared.fault.LoadFault.TheVariants.{Read}
use Rattle.entry_format.specs.declared.fault.ReadFault.{ReadFault}
use Rattle.entry_format.specs.declared.fault.ReadFault.TheVariants.{BadName}
use Rattle.entry_format.specs.Laws.{Tells}
use Rattle.entry_format.specs.Reading.{Input, Parsed, got, bad, series, byte_of, read_byte, read_count, printable, name_length, NameModel, read_name_byte, read_name_bytes, read_name}
use Rattle.entry_format.proofs.Outcomes.{Holds, holds_and_then, holds_weaker, holds_series}

-- what is still to be read is the file from the place on
abbrev pub Within : List ℕ → Input → Type 0
Within file l = (l.rest ≡ drop l.place file) × (l.place ≤ length file)

-- the byte b stands at p, and what is still to be read begins behind it
pub record ByteAt (file : List ℕ) (p b : ℕ) (l : Input) : Type 0 where
  pub inside : Within file l
  pub behind : l.place ≡ p + 1
  pub is : b ≡ get_or file p 0

-- a field of n bytes stands at p, and what is still to be read begins behind it
abbrev pub Behind : List ℕ → ℕ → ℕ → Input → Type 0
Behind file p n l = Within file l × (l.place ≡ p + n)

-- the whole name stands at its place, and what is still to be read begins behind it
abbrev pub BehindName : List ℕ → NameModel → Input → Type 0
BehindName file n l = Behind file n.at (1 + get_or file n.at 0) l

module _ (file : List ℕ) where
  -- P holds of what was read, or the fault says what is so of the file
  abbrev pub ToldRead : {V : Type 0} → (V → Input → Type 0) → Parsed ReadFault V → Type 0
  ToldRead P x = Holds P (λ e. Tells file (Read e)) x

  byte_of_tells : (rest : List ℕ) (p : ℕ) → rest ≡ drop p file → p ≤ length file → ToldRead (ByteAt file p) (byte_of rest p)
  byte_of_tells [] p e le = let none = ap length e ∙ length-drop p file in omega arith
  byte_of_tells (b ∷ bs) p e le =
      let some = ap length e ∙ length-drop p file in
      let lt : p < length file = omega arith in
      let split = drop_more file p 0 lt in
      record { inside = (cc, omega arith); behind = refl; is = cc }

  pub read_byte_tells : (l : Input) → Within file l → ToldRead (ByteAt file l.place) (read_byte l)
  read_byte_tells l h = byte_of_tells l.rest l.place h.0 h.1

  pub read_count_tells : (l : Input) → Within file l → ToldRead (λ _. Behind file l.place 2) (read_count l)
  read_count_tells l h =
      holds_and_then _ _ _ (read_byte l) _ (read_byte_tells l h) (λ high l₁ g.
      holds_and_then _ _ _ (read_byte l₁) _ (read_byte_tells l₁ g.inside) (λ low l₂ k.
      (k.inside, omega arith)))

  -- a name's bytes, n of them still to come, whose length byte stands at q
  abbrev InBytes : ℕ → ℕ → List ℕ → Input → Type 0
  InBytes q n done l = Within file l × (q < l.place) × (l.place + n ≡ q + 1 + get_or file q 0)

  read_name_byte_tells : (q : ℕ) → name_length (get_or file q 0) ≡ true → (n : ℕ) (done : List ℕ) (l : Input) → InBytes q (suc n) done l →
      ToldRead (λ b after. InBytes q n (done ++ b ∷ []) after) (read_name_byte l)
  read_name_byte_tells q good n done l h =
      holds_and_then _ _ _ (read_byte l) _ (read_byte_tells l h.0) (λ b after g.
      cond_both (printable b) (got b after) (bad (BadName l.place)) (ToldRead (λ b after. InBytes q n (done ++ b ∷ []) after))
      (λ allowed. (g.inside, omega arith, omega arith))
      (λ wrong. (omega arith, inr (q, (good, h.1, omega arith), subst (λ x. printable x ≡ false) g.is wrong))))

  read_name_bytes_tells : (q n : ℕ) (l : Input) → name_length n ≡ true → ByteAt file q n l → ToldRead (InBytes q 0) (read_name_bytes n [] l)
  read_name_bytes_tells q n l good h =
      let good' = subst (λ x. name_length x ≡ true) h.is good in
      holds_series (InBytes q) _ (λ _. read_name_byte) (read_name_byte_tells q good') n [] l (h.inside, omega arith, omega arith)

  pub read_name_tells : (l : Input) → Within file l → ToldRead (BehindName file) (read_name l)
  read_name_tells l h =
      holds_and_then _ _ _ (read_byte l) _ (read_byte_tells l h) (λ n l₁ g.
      cond_both (name_length n) _ (bad (BadName l.place)) (ToldRead (BehindName file))
      (λ good. holds_and_then _ _ _ (read_name_bytes n [] l₁) _ (read_name_bytes_tells l.place n l₁ good g) (λ text l₂ k. (k.0, omega arith)))
      (λ wrong. (omega arith, inl (subst (λ x. name_length x ≡ false) g.is wrong))))

  pub read_names_tells : (n : ℕ) (l : Input) → Within file l → ToldRead (λ _. Within file) (series (λ _. read_name) n [] l)
  read_names_tells n l h =
      holds_series (λ _ _. Within file) _ (λ _. read_name)
      (λ _ _ l₁ g. holds_weaker _ _ _ (read_name l₁) (λ _ _ k. k.0) (read_name_tells l₁ g)) n [] l h
