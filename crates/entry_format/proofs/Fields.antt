-- The fields of a file: bytes, counts, names, and a count with what it counts. Assumes nothing.
use Rattle.std.proofs.Common.{◌≡◌, ℕ, ◌+◌, ◌*◌, ◌/◌, ◌%◌, ◌<◌, ◌≤◌, Bool, true, false, cond, leb, List, [], ◌∷◌, ◌++◌, length, sym, refl, ap, ◌∙◌, subst, arith}
use Rattle.std.specs.List.{flat_map, AllByRecursion}
use Rattle.std.proofs.lemmas.Bool.{leb-true, le-leb}
use Rattle.entry_format.specs.declared.fault.LoadFault.{LoadFault}
use Rattle.entry_format.specs.Encoding.{encode_count, encode_name, WellFormed}
use Rattle.entry_format.specs.Grammars.{read_limited}
use Rattle.entry_format.specs.Reading.{Input, input, Parsed, got, and_then, lift, byte_of, read_byte, read_count, within, printable, name_length, NameModel, read_name_byte, read_name_bytes, read_name}
use Rattle.entry_format.proofs.Series.{Passes, Begins, passes_then, begins_then, begins_passes, bad_got, cond_got, and_then_got, and_then_is, lift_got, got_same, Sound, Complete, FitsAll, all_sound, series_complete, all_from_fits, fits_from_all}

-- a byte
byte_of_sound : (bs : List ℕ) (p b : ℕ) (l : Input) → byte_of bs p ≡ got b l → Begins (input bs p) (b ∷ []) l
byte_of_sound [] p b l h = absurd (bad_got _ b l h)
byte_of_sound (c ∷ bs) p b l h =
    got_same (λ b l. Begins (input (c ∷ bs) p) (b ∷ []) l) h (record { moved = refl; front = refl })

pub byte_sound : (l : Input) (b : ℕ) (l' : Input) → read_byte l ≡ got b l' → Begins l (b ∷ []) l'
byte_sound l b l' h = byte_of_sound l.rest l.place b l' h

pub byte_complete : (l : Input) (b : ℕ) (l' : Input) → Begins l (b ∷ []) l' → read_byte l ≡ got b l'
byte_complete l b l' h = ap (λ bs. byte_of bs l.place) h.front ∙ ap (λ p. got b (input l'.rest p)) (sym h.moved)

-- a count of two bytes
count_passes : (l m : Input) (high low : ℕ) → Begins l (high ∷ low ∷ []) m → Passes l (encode_count (high * 256 + low)) m
count_passes l m high low h = record {
  moved = h.moved;
  front = λ bytes.
      let small : low < 256 = (subst (AllByRecursion (λ b. b < 256)) h.front bytes).1.0 in
      let a : high ≡ (high * 256 + low) / 256 = omega arith in
      let b : low ≡ (high * 256 + low) % 256 = omega arith in
      h.front ∙ (λ i. a i ∷ b i ∷ m.rest);
}

pub count_sound : (l : Input) (n : ℕ) (l' : Input) → read_count l ≡ got n l' → Passes l (encode_count n) l'
count_sound l n l' h =
    let (high, m, e, k) = and_then_got (read_byte l) _ n l' h in
    let (low, m₁, e₁, k₁) = and_then_got (read_byte m) _ n l' k in
    let p = byte_sound l high m e in
    let q = byte_sound m low m₁ e₁ in
    got_same (λ n l'. Passes l (encode_count n) l') k₁
    (count_passes l m₁ high low (record { moved = omega arith; front = p.front ∙ ap (λ r. high ∷ r) q.front }))

pub count_complete : (l : Input) (n : ℕ) (l' : Input) → Begins l (encode_count n) l' → read_count l ≡ got n l'
count_complete l n l' h =
    let (m, p, q) = begins_then (n / 256 ∷ []) (n % 256 ∷ []) h in
    let e : n / 256 * 256 + n % 256 ≡ n = omega arith in
    and_then_is _ (byte_complete l (n / 256) m p) (and_then_is _ (byte_complete m (n % 256) l' q) (ap (λ n. got n l') e))

pub within_parts : (low high n : ℕ) → within low high n ≡ true → (low ≤ n) × (n ≤ high)
within_parts low high n h = go (leb low n) refl h
  where
    go : (b : Bool) → leb low n ≡ b → cond b (leb n high) false ≡ true → (low ≤ n) × (n ≤ high)
    go true e k = (leb-true low n e, leb-true n high k)
    go false e k = let z : ◌≡◌ {A = ℕ} 0 1 = cc in absurd (omega arith)

pub within_from : (low high n : ℕ) → low ≤ n → n ≤ high → within low high n ≡ true
within_from low high n p q = simp (le-leb low n p, le-leb n high q)

module _ (low high : ℕ) where
  pub limited_sound : (l : Input) (n : ℕ) (l' : Input) → read_limited low high l ≡ got n l' → Passes l (encode_count n) l' × (low ≤ n) × (n ≤ high)
  limited_sound l n l' h =
      let (c, m, e, k) = and_then_got (lift (read_count l)) _ n l' h in
      let (ok, same) = cond_got (within low high c) _ _ n l' k in
      let (a, b) = within_parts low high c ok in
      got_same (λ n l'. Passes l (encode_count n) l' × (low ≤ n) × (n ≤ high)) same (count_sound l c m (lift_got (read_count l) c m e), a, b)

  pub limited_complete : (l : Input) (n : ℕ) (l' : Input) → Begins l (encode_count n) l' → low ≤ n → n ≤ high → read_limited low high l ≡ got n l'
  limited_complete l n l' h p q = and_then_is _ (ap lift (count_complete l n l' h)) (rw (within_from low high n p q) refl)

-- a count between two limits, and that many values
module _ {V : Type 0} (enc : V → List ℕ) (Fits : List V → ℕ → V → Type 0) (body : ℕ → Input → Parsed LoadFault (List V)) (low high : ℕ) where
  pub counted_sound :
      ((n : ℕ) (l : Input) (vs : List V) (l' : Input) → body n l ≡ got vs l' → (length vs ≡ n) × Passes l (flat_map enc vs) l' × FitsAll enc Fits [] l.place vs) →
      (l : Input) (vs : List V) (l' : Input) → and_then (read_limited low high l) body ≡ got vs l' →
      Passes l (encode_count (length vs) ++ flat_map enc vs) l' × (low ≤ length vs) × (length vs ≤ high) × FitsAll enc Fits [] (l.place + 2) vs
  counted_sound sound l vs l' h =
      let (n, m, e, k) = and_then_got (read_limited low high l) _ vs l' h in
      let (p, a, b) = limited_sound low high l n m e in
      let (long, q, fits) = sound n m vs l' k in (
        passes_then (encode_count (length vs)) (flat_map enc vs) (subst (λ n. Passes l (encode_count n) m) (sym long) p) q,
        omega arith,
        omega arith,
        subst (λ x. FitsAll enc Fits [] x vs) p.moved fits,
      )

  pub counted_complete :
      ((vs : List V) (l l' : Input) → Begins l (flat_map enc vs) l' → FitsAll enc Fits [] l.place vs → body (length vs) l ≡ got vs l') →
      (l : Input) (vs : List V) (l' : Input) → Begins l (encode_count (length vs) ++ flat_map enc vs) l' →
      low ≤ length vs → length vs ≤ high → FitsAll enc Fits [] (l.place + 2) vs → and_then (read_limited low high l) body ≡ got vs l'
  counted_complete complete l vs l' h a b fits =
      let (m, p, q) = begins_then (encode_count (length vs)) (flat_map enc vs) h in
      and_then_is _ (limited_complete low high l (length vs) m p a b)
      (complete vs m l' q (subst (λ x. FitsAll enc Fits [] x vs) (sym p.moved) fits))

-- the bytes of a name
abbrev single : ℕ → List ℕ
single b = b ∷ []

joined_single : (bs : List ℕ) → flat_map single bs ≡ bs
joined_single [] = refl
joined_single (b ∷ bs) = ap (λ r. b ∷ r) (joined_single bs)

abbrev Printable : List ℕ → ℕ → ℕ → Type 0
Printable done p b = printable b ≡ true

name_byte_sound : Sound (λ _. read_name_byte) single Printable
name_byte_sound done l b l' h =
    let (c, m, e, k) = and_then_got (read_byte l) _ b l' h in
    let (ok, same) = cond_got (printable c) _ _ b l' k in
    got_same (λ b l'. Passes l (b ∷ []) l' × (printable b ≡ true)) same (begins_passes (byte_sound l c m e), ok)

name_byte_complete : Complete (λ _. read_name_byte) single Printable
name_byte_complete done l b l' h ok = and_then_is _ (byte_complete l b l' h) (rw ok refl)

-- the name is well-formed and has this place
abbrev pub NameFits : List NameModel → ℕ → NameModel → Type 0
NameFits done p n = (n.at ≡ p) × WellFormed n

pub name_sound : Sound (λ _. read_name) encode_name NameFits
name_sound done l v l' h =
    let (n, m, e, k) = and_then_got (read_byte l) _ v l' h in
    let (ok, k₁) = cond_got (name_length n) _ _ v l' k in
    let (text, m₁, e₁, k₂) = and_then_got (read_name_bytes n [] m) _ v l' k₁ in
    let (long, p, fits) = all_sound (λ _. read_name_byte) single Printable name_byte_sound n m text m₁ e₁ in
    let (a, b) = within_parts 1 32 n ok in
    let q : Passes l (n ∷ text) m₁ =
    passes_then (n ∷ []) text (begins_passes (byte_sound l n m e)) (subst (λ t. Passes m t m₁) (joined_single text) p) in
    got_same (λ v l'. Passes l (encode_name v) l' × NameFits done l.place v) k₂ (
      subst (λ n. Passes l (n ∷ text) m₁) (sym long) q,
      (refl, (omega arith, omega arith, all_from_fits single (λ b. printable b ≡ true) text [] m.place fits)),
    )

pub name_complete : Complete (λ _. read_name) encode_name NameFits
name_complete done l v l' h fits =
    let (m, p, q) = begins_then (length v.text ∷ []) v.text h in
    let (at, formed) = fits in
    let (a, b, ok) = formed in
    let q' : Begins m (flat_map single v.text) l' = subst (λ t. Begins m t l') (sym (joined_single v.text)) q in
    and_then_is _ (byte_complete l (length v.text) m p)
    (rw (within_from 1 32 (length v.text) a b)
    (and_then_is _ (series_complete (λ _. read_name_byte) single Printable name_byte_complete v.text [] m l' q' (fits_from_all single (λ b. printable b ≡ true) v.text [] m.place ok))
    (ap (λ p. got (record { text = v.text; at = p }) l') (sym at))))
