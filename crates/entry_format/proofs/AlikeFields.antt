-- Readings of one field of two files that begin alike. Assumes nothing.
use Rattle.std.proofs.Common.{◌≡◌, ℕ, ◌+◌, ◌≤◌, min, List, [], ◌∷◌, length, get_or, drop, sym, refl, ap, ◌∙◌, arith, length-drop, length-take}
use Rattle.std.proofs.lemmas.List.{drop_more, drop_all, get_or-take}
use Rattle.entry_format.specs.declared.fault.LoadFault.TheVariants.{Read}
use Rattle.entry_format.specs.Reading.{input, got, byte_of, series, read_byte, read_count, printable, name_length, read_name_byte, read_name}
use Rattle.entry_format.proofs.Alike.{TwoFiles, Alike, AlikeReading, alike_got, alike_and_then, alike_knowing, alike_cond, alike_series}
use Rattle.entry_format.proofs.Alike.Alike.{value, fault}
use Rattle.entry_format.proofs.FieldFaults.{Within, ByteAt, Behind, BehindName, read_byte_tells, read_name_tells}

module _ (t : TwoFiles) where
  -- the two files have equally many of the shared places
  pub same_size : min t.shared (length t.other) ≡ min t.shared (length t.file)
  same_size = sym (length-take t.shared t.other) ∙ ap length t.same ∙ length-take t.shared t.file

  -- and have the same byte in each
  same_byte : (p : ℕ) → p + 1 ≤ t.shared → get_or t.other p 0 ≡ get_or t.file p 0
  same_byte p le =
      sym (get_or-take t.shared t.other p 0 (omega arith)) ∙ ap (λ front. get_or front p 0) t.same ∙ get_or-take t.shared t.file p 0 (omega arith)

  byte_of_alike : (rest : List ℕ) (p : ℕ) → rest ≡ drop p t.file → p ≤ length t.file →
      Alike t Read (ByteAt t.file p) p (byte_of rest p) (byte_of (drop p t.other) p)
  byte_of_alike [] p e le =
      let none = ap length e ∙ length-drop p t.file in
      fault (omega arith) (λ shown. ap (λ r. byte_of r p) (drop_all p t.other (omega (arith, same_size))))
  byte_of_alike (b ∷ bs) p e le =
      let byte = read_byte_tells t.file (input (b ∷ bs) p) (e, le) in
      value byte (omega arith) (λ shown.
      ap (λ r. byte_of r p) (drop_more t.other p 0 (omega (arith, same_size)))
      ∙ ap (λ c. got c (input (drop (p + 1) t.other) (p + 1))) (same_byte p shown ∙ sym byte.is))

  pub read_byte_alike : AlikeReading t Read (λ l. ByteAt t.file l.place) read_byte
  read_byte_alike l h = byte_of_alike l.rest l.place h.0 h.1

  pub read_count_alike : AlikeReading t Read (λ l _. Behind t.file l.place 2) read_count
  read_count_alike l h =
      alike_and_then _ (read_byte_alike l h) (λ high l₁ g.
      alike_and_then _ (read_byte_alike l₁ g.inside) (λ low l₂ k.
      alike_got (k.inside, omega arith)))

  read_name_byte_alike : AlikeReading t Read (λ _ _. Within t.file) read_name_byte
  read_name_byte_alike l h =
      alike_and_then _ (read_byte_alike l h) (λ b after g.
      alike_cond (printable b) (alike_got g.inside) (fault (omega arith) (λ _. refl)))

  read_name_within : AlikeReading t Read (λ _ _. Within t.file) read_name
  read_name_within l h =
      alike_and_then _ (read_byte_alike l h) (λ n l₁ g.
      alike_cond (name_length n)
      (alike_and_then _ (alike_series Read _ (λ _. read_name_byte_alike) n [] l₁ g.inside) (λ text l₂ k. alike_got k))
      (fault (omega arith) (λ _. refl)))

  pub read_name_alike : AlikeReading t Read (λ _. BehindName t.file) read_name
  read_name_alike l h = alike_knowing _ (read_name_tells t.file l h) (read_name_within l h)

  pub read_names_alike : (n : ℕ) → AlikeReading t Read (λ _ _. Within t.file) (series (λ _. read_name) n [])
  read_names_alike n = alike_series Read _ (λ _. read_name_within) n []
