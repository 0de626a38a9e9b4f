-- One reading after another: over which bytes it goes, and that it reads back what is written. Assumes nothing.
use Rattle.std.proofs.Common.{◌≡◌, ℕ, zero, suc, ◌+◌, ◌<◌, Bool, true, false, cond, List, [], ◌∷◌, ◌++◌, length, sym, refl, ap, ◌∙◌, subst, arith}
use Rattle.std.specs.List.{flat_map, AllByRecursion}
use Rattle.std.proofs.lemmas.List.{append_assoc, append-nil, length-append}
use Rattle.entry_format.specs.declared.fault.LoadFault.TheVariants.{Read}
use Rattle.entry_format.specs.declared.fault.ReadFault.{ReadFault}
use Rattle.entry_format.specs.Laws.{Bytes}
use Rattle.entry_format.specs.Reading.{Input, input, Parsed, got, bad, and_then, series, lift}

-- a reading went from l to l' over these bytes: its place moved by their number and, in a file of bytes, they stood in front
pub record Passes (l : Input) (bytes : List ℕ) (l' : Input) : Type 0 where
  pub moved : l'.place ≡ l.place + length bytes
  pub front : Bytes l.rest → l.rest ≡ bytes ++ l'.rest

-- l begins with these bytes, and l' is what stands behind them
pub record Begins (l : Input) (bytes : List ℕ) (l' : Input) : Type 0 where
  pub moved : l'.place ≡ l.place + length bytes
  pub front : l.rest ≡ bytes ++ l'.rest

pub all_front : {X : Type 0} (P : X → Type 0) (xs ys : List X) → AllByRecursion P (xs ++ ys) → AllByRecursion P xs
all_front P [] ys h = tt
all_front P (x ∷ xs) ys h = (h.0, all_front P xs ys h.1)

pub all_behind : {X : Type 0} (P : X → Type 0) (xs ys : List X) → AllByRecursion P (xs ++ ys) → AllByRecursion P ys
all_behind P [] ys h = h
all_behind P (x ∷ xs) ys h = all_behind P xs ys h.1

pub passes_then : {l m l' : Input} (a b : List ℕ) → Passes l a m → Passes m b l' → Passes l (a ++ b) l'
passes_then {l} {m} {l'} a b p q = record {
  moved = omega (arith, length-append a b);
  front = λ h.
      let e : l.rest ≡ a ++ m.rest = p.front h in
      e ∙ ap (λ r. a ++ r) (q.front (all_behind (λ b. b < 256) a m.rest (subst Bytes e h))) ∙ sym (append_assoc a b l'.rest);
}

pub begins_then : {l l' : Input} (a b : List ℕ) → Begins l (a ++ b) l' → (m : Input) × Begins l a m × Begins m b l'
begins_then {l} {l'} a b h = (
  input (b ++ l'.rest) (l.place + length a),
  record { moved = refl; front = h.front ∙ append_assoc a b l'.rest },
  record { moved = omega (arith, length-append a b); front = refl },
)

pub begins_passes : {l l' : Input} {a : List ℕ} → Begins l a l' → Passes l a l'
begins_passes h = record { moved = h.moved; front = λ _. h.front }

pub passes_none : (l : Input) → Passes l [] l
passes_none l = record { moved = omega arith; front = λ _. refl }

-- behind no bytes stands the input itself
pub begins_none : (l l' : Input) → Begins l [] l' → l ≡ l'
begins_none l l' h = let e : l.place ≡ l'.place = omega arith in λ i. input (h.front i) (e i)

-- from a value that was read to the readings before it
module _ {F V : Type 0} where
  pub bad_got : (e : F) (v : V) (l : Input) → bad e ≡ got v l → ⊥
  bad_got e v l h = let z : ◌≡◌ {A = ℕ} 0 1 = cc in omega arith

  pub cond_got : (b : Bool) (x : Parsed F V) (e : F) (v : V) (l : Input) → cond b x (bad e) ≡ got v l → (b ≡ true) × (x ≡ got v l)
  cond_got true x e v l h = (refl, h)
  cond_got false x e v l h = absurd (bad_got e v l h)

pub and_then_got : {F V W : Type 0} (x : Parsed F V) (f : V → Input → Parsed F W) (w : W) (l : Input) → and_then x f ≡ got w l →
    (v : V) × (m : Input) × (x ≡ got v m) × (f v m ≡ got w l)
and_then_got (got v m) f w l h = (v, m, refl, h)
and_then_got (bad e) f w l h = absurd (bad_got e w l h)

pub lift_got : {V : Type 0} (x : Parsed ReadFault V) (v : V) (l : Input) → lift x ≡ got v l → x ≡ got v l
lift_got (got u m) v l h = cc
lift_got (bad e) v l h = absurd (bad_got (Read e) v l h)

pub and_then_is : {F V W : Type 0} {x : Parsed F V} {v : V} {m : Input} {y : Parsed F W} (f : V → Input → Parsed F W) → x ≡ got v m → f v m ≡ y → and_then x f ≡ y
and_then_is f e k = ap (λ x. and_then x f) e ∙ k

pub and_then_assoc : {F V W X : Type 0} (x : Parsed F V) (f : V → Input → Parsed F W) (g : W → Input → Parsed F X) →
    and_then (and_then x f) g ≡ and_then x (λ v l. and_then (f v l) g)
and_then_assoc (got v m) f g = refl
and_then_assoc (bad e) f g = refl

-- what holds of a value and of the input behind it holds of those that they equal
pub got_same : {F V : Type 0} (R : V → Input → Type 0) {v w : V} {l m : Input} → ◌≡◌ {A = Parsed F V} (got v l) (got w m) → R v l → R w m
got_same R {v} {w} {l} {m} e r =
    let a : v ≡ w = cc in
    let b : l ≡ m = cc in
    subst (R w) b (subst (λ x. R x l) a r)

-- of a reader, the bytes that it reads as v, and what is to hold of v behind the values `done` and at the place p: what is read was written and fits, and what is written and fits is read
module _ {F V : Type 0} (read : List V → Input → Parsed F V) (enc : V → List ℕ) (Fits : List V → ℕ → V → Type 0) where
  abbrev pub Sound : Type 0
  Sound = (done : List V) (l : Input) (v : V) (l' : Input) → read done l ≡ got v l' → Passes l (enc v) l' × Fits done l.place v

  abbrev pub Complete : Type 0
  Complete = (done : List V) (l : Input) (v : V) (l' : Input) → Begins l (enc v) l' → Fits done l.place v → read done l ≡ got v l'

module _ {V : Type 0} (enc : V → List ℕ) (Fits : List V → ℕ → V → Type 0) where
  -- each value fits behind those before it, and at its place
  abbrev pub FitsAll : List V → ℕ → List V → Type 0
  FitsAll done p [] = Unit {0}
  FitsAll done p (v ∷ vs) = Fits done p v × FitsAll (done ++ v ∷ []) (p + length (enc v)) vs

module _ {F V : Type 0} (read : List V → Input → Parsed F V) (enc : V → List ℕ) (Fits : List V → ℕ → V → Type 0) where
  pub series_sound : Sound read enc Fits → (n : ℕ) (done : List V) (l : Input) (vs : List V) (l' : Input) → series read n done l ≡ got vs l' →
      (new : List V) × (vs ≡ done ++ new) × ((length new ≡ n) × Passes l (flat_map enc new) l' × FitsAll enc Fits done l.place new)
  series_sound sound zero done l vs l' h =
      let e : done ≡ vs = cc in
      let m : l ≡ l' = cc in
      ([], sym e ∙ sym (append-nil done), (refl, subst (Passes l []) m (passes_none l), tt))
  series_sound sound (suc n) done l vs l' h =
      let (v, m, e, k) = and_then_got (read done l) _ vs l' h in
      let (p, fits) = sound done l v m e in
      let (new, is, found) = series_sound sound n (done ++ v ∷ []) m vs l' k in
      let (long, q, all) = found in (
        v ∷ new,
        is ∙ append_assoc done (v ∷ []) new,
        (
          ap suc long,
          passes_then (enc v) (flat_map enc new) p q,
          (fits, subst (λ x. FitsAll enc Fits (done ++ v ∷ []) x new) p.moved all),
        ),
      )

  -- the same with no values before
  pub all_sound : Sound read enc Fits → (n : ℕ) (l : Input) (vs : List V) (l' : Input) → series read n [] l ≡ got vs l' →
      (length vs ≡ n) × Passes l (flat_map enc vs) l' × FitsAll enc Fits [] l.place vs
  all_sound sound n l vs l' h =
      let (new, is, found) = series_sound sound n [] l vs l' h in
      subst (λ xs. (length xs ≡ n) × Passes l (flat_map enc xs) l' × FitsAll enc Fits [] l.place xs) (sym is) found

  pub series_complete : Complete read enc Fits → (new done : List V) (l l' : Input) → Begins l (flat_map enc new) l' → FitsAll enc Fits done l.place new →
      series read (length new) done l ≡ got (done ++ new) l'
  series_complete complete [] done l l' h fits = let e = begins_none l l' h in let a = append-nil done in cc
  series_complete complete (v ∷ new) done l l' h fits =
      let (m, p, q) = begins_then (enc v) (flat_map enc new) h in
      rw (complete done l v m p fits.0)
      (series_complete complete new (done ++ v ∷ []) m l' q (subst (λ x. FitsAll enc Fits (done ++ v ∷ []) x new) (sym p.moved) fits.1)
      ∙ ap (λ xs. got xs l') (append_assoc done (v ∷ []) new))

-- where what fits depends on the value alone
module _ {V : Type 0} (enc : V → List ℕ) (P : V → Type 0) where
  pub all_from_fits : (vs done : List V) (p : ℕ) → FitsAll enc (λ _ _ v. P v) done p vs → AllByRecursion P vs
  all_from_fits [] done p h = tt
  all_from_fits (v ∷ vs) done p h = (h.0, all_from_fits vs (done ++ v ∷ []) (p + length (enc v)) h.1)

  pub fits_from_all : (vs done : List V) (p : ℕ) → AllByRecursion P vs → FitsAll enc (λ _ _ v. P v) done p vs
  fits_from_all [] done p h = tt
  fits_from_all (v ∷ vs) done p h = (h.0, fits_from_all vs (done ++ v ∷ []) (p + length (enc v)) h.1)

-- where what fits is two things
module _ {V : Type 0} (enc : V → List ℕ) (A B : List V → ℕ → V → Type 0) where
  pub fits_split : (vs done : List V) (p : ℕ) → FitsAll enc (λ d p v. A d p v × B d p v) done p vs → FitsAll enc A done p vs × FitsAll enc B done p vs
  fits_split [] done p h = (tt, tt)
  fits_split (v ∷ vs) done p h =
      let (a, b) = fits_split vs (done ++ v ∷ []) (p + length (enc v)) h.1 in
      ((h.0.0, a), (h.0.1, b))

  pub fits_both : (vs done : List V) (p : ℕ) → FitsAll enc A done p vs → FitsAll enc B done p vs → FitsAll enc (λ d p v. A d p v × B d p v) done p vs
  fits_both [] done p a b = tt
  fits_both (v ∷ vs) done p a b = ((a.0, b.0), fits_both vs (done ++ v ∷ []) (p + length (enc v)) a.1 b.1)
