-- The front of a file that has been read, and the bytes of a name. Assumes nothing.
use Rattle.std.proofs.Common.{◌≡◌, ℕ, zero, suc, ◌+◌, ◌<◌, Bool, true, false, cond, ◌&&◌, nat_le, List, [], ◌∷◌, ◌++◌, length, take, drop, IsUtf8, sym, refl, ap, ◌∙◌, subst, add-one, arith}
use Rattle.std.proofs.lemmas.Bool.Decides.{nat_tests}
use Rattle.std.specs.Char.{is_ascii_graphic}
use Rattle.std.specs.List.{AllByRecursion}
use Rattle.std.proofs.ByRecursion.{IsAscii-from_all, All-push, All-weaker}
use Rattle.std.proofs.lemmas.Str.{IsUtf8-from_ascii}
use Rattle.entry_format.specs.declared.fault.ReadFault.{ReadFault}
use Rattle.entry_format.specs.declared.fault.ReadFault.TheVariants.{BadName}
use Rattle.entry_format.specs.Reading.{Input, Parsed, got, bad, and_then, byte_of, printable, read_name_bytes, read_name_byte, read_byte, input}

-- a byte that was read, and the bytes behind it
abbrev front : {F : Type 0} → Parsed F ℕ → List ℕ
front (got b after) = b ∷ after.rest
front (bad e) = []

-- what a byte was read from
pub byte_rest : (bs : List ℕ) (p : ℕ) (b : ℕ) (after : Input) → got b after ≡ byte_of bs p → bs ≡ b ∷ after.rest
byte_rest [] p b after r = sym (ap front r)
byte_rest (x ∷ xs) p b after r = sym (ap front r)

front_suc : (xs ys : List ℕ) (i b : ℕ) → drop i xs ≡ b ∷ ys → (take (suc i) xs ≡ take i xs ++ b ∷ []) × (drop (suc i) xs ≡ ys) × (i < length xs)
front_suc [] ys zero b r = absurd (let z : ◌≡◌ {A = ℕ} 0 1 = cc in omega arith)
front_suc [] ys (suc i) b r = absurd (let z : ◌≡◌ {A = ℕ} 0 1 = cc in omega arith)
front_suc (x ∷ xs) ys zero b r = let e : x ≡ b = cc in let f : xs ≡ ys = cc in (cc, f, omega arith)
front_suc (x ∷ xs) ys (suc i) b r = let h = front_suc xs ys i b r in (ap (λ l. x ∷ l) h.0, h.1, omega (arith, h.2))

-- the library's test of a byte is the format's
and_cond : (x y : Bool) → x && y ≡ cond x y false
and_cond true y = refl
and_cond false y = refl

graphic : (b : ℕ) → is_ascii_graphic b ≡ printable b
graphic b = and_cond (nat_le 33 b) (nat_le b 126)

-- a byte of a name: none is left, it is allowed, or it is not
module _ (l : Input) where
  pub name_byte_end : (e : ReadFault) → bad e ≡ read_byte l → bad e ≡ read_name_byte l
  name_byte_end e r = simp (sym r)

  pub name_byte_good : (b : ℕ) (after : Input) → got b after ≡ read_byte l → true ≡ is_ascii_graphic b → got b after ≡ read_name_byte l
  name_byte_good b after r ok = let e : printable b ≡ true = sym (ok ∙ graphic b) in simp (sym r, e)

  pub name_byte_wrong : (b : ℕ) (after : Input) → got b after ≡ read_byte l → false ≡ is_ascii_graphic b → bad (BadName l.place) ≡ read_name_byte l
  name_byte_wrong b after r ok = let e : printable b ≡ false = sym (ok ∙ graphic b) in simp (sym r, e)

-- one byte more of the front
pub front_more : (xs ys : List ℕ) (i b : ℕ) → drop i xs ≡ b ∷ ys → (take (i + 1) xs ≡ take i xs ++ b ∷ []) × (drop (i + 1) xs ≡ ys) × (i < length xs)
front_more xs ys i b r = rw add-one (front_suc xs ys i b r)

abbrev Letter : ℕ → Type 0
Letter b = printable b ≡ true

-- the bytes of a name are printable
letters : (n : ℕ) (done rest : List ℕ) (p : ℕ) (text : List ℕ) (after : Input) → read_name_bytes n done (input rest p) ≡ got text after → AllByRecursion Letter done → AllByRecursion Letter text
letters zero done rest p text after r h = let e : done ≡ text = cc in subst (AllByRecursion Letter) e h
letters (suc n) done [] p text after r h = absurd (let z : ◌≡◌ {A = ℕ} 0 1 = cc in omega arith)
letters (suc n) done (b ∷ bs) p text after r h = letter (letters n (done ++ b ∷ []) bs (p + 1) text after) (printable b) refl r
  where
    letter :
        (read_name_bytes n (done ++ b ∷ []) (input bs (p + 1)) ≡ got text after → AllByRecursion Letter (done ++ b ∷ []) → AllByRecursion Letter text) →
        (t : Bool) → printable b ≡ t →
        and_then (cond t (got b (input bs (p + 1))) (bad (BadName p))) (λ v l. read_name_bytes n (done ++ v ∷ []) l) ≡ got text after →
        AllByRecursion Letter text
    letter more true e s = more s (All-push Letter done b h e)
    letter more false e s = absurd (let z : ◌≡◌ {A = ℕ} 0 1 = cc in omega arith)

letter_ascii : (b : ℕ) → Letter b → b < 128
letter_ascii b e = grind (arith, nat_tests)

-- the bytes of a name are a text
pub name_utf8 : (n : ℕ) (l : Input) (text : List ℕ) (after : Input) → got text after ≡ read_name_bytes n [] l → IsUtf8 text
name_utf8 n l text after r =
    IsUtf8-from_ascii text (IsAscii-from_all text (All-weaker Letter (λ b. b < 128) letter_ascii text (letters n [] l.rest l.place text after (sym r) tt)))
