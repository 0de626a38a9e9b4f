-- Readings of two files that begin alike. Assumes nothing.
use Rattle.std.proofs.Common.{◌≡◌, ℕ, zero, suc, ◌≤◌, Bool, true, false, cond, List, [], ◌∷◌, ◌++◌, take, drop, refl, ap, ◌∙◌, arith}
use Rattle.entry_format.specs.declared.fault.LoadFault.{LoadFault}
use Rattle.entry_format.specs.declared.fault.LoadFault.TheVariants.{Read}
use Rattle.entry_format.specs.declared.fault.ReadFault.{ReadFault}
use Rattle.entry_format.specs.Laws.{shown_by}
use Rattle.entry_format.specs.Reading.{Input, input, Parsed, got, bad, and_then, series, lift}
use Rattle.entry_format.proofs.FieldFaults.{Within}
use Rattle.entry_format.proofs.Outcomes.{Holds}

-- two files that have the same in the first `shared` places
pub record TwoFiles : Type 0 where
  pub file : List ℕ
  pub other : List ℕ
  pub shared : ℕ
  pub same : take shared other ≡ take shared file

module _ (t : TwoFiles) where
  -- the same place of the other file
  abbrev pub there : Input → Input
  there l = input (drop l.place t.other) l.place

  -- x was read from the place p on, and x' from there on in the other file: if the shared places reach to the end of what was read, or show the fault, x' is the same; that end is not before p, and the places that show the fault reach p; and P holds of what was read. toLoad gives the loader's fault for the reader's
  pub data Alike {F V : Type 0} (toLoad : F → LoadFault) (P : V → Input → Type 0) (p : ℕ) : Parsed F V → Parsed F V → Type 0 where
    value : {v : V} {l : Input} {x' : Parsed F V} →
        P v l → p ≤ l.place → (l.place ≤ t.shared → x' ≡ got v (there l)) → Alike toLoad P p (got v l) x'
    fault : {e : F} {x' : Parsed F V} →
        p ≤ shown_by t.file (toLoad e) → (shown_by t.file (toLoad e) ≤ t.shared → x' ≡ bad e) → Alike toLoad P p (bad e) x'

  -- a reading is alike wherever it begins
  abbrev pub AlikeReading : {F V : Type 0} → (F → LoadFault) → (Input → V → Input → Type 0) → (Input → Parsed F V) → Type 0
  AlikeReading toLoad P read = (l : Input) → Within t.file l → Alike toLoad (P l) l.place (read l) (read (there l))

module _ {t : TwoFiles} where
  pub alike_got : {F V : Type 0} {toLoad : F → LoadFault} {P : V → Input → Type 0} {v : V} {l : Input} →
      P v l → Alike t toLoad P l.place (got v l) (got v (there t l))
  alike_got h = value h (omega arith) (λ _. refl)

  alike_before : {F V : Type 0} {toLoad : F → LoadFault} {P : V → Input → Type 0} {p q : ℕ} {x x' x'' : Parsed F V} →
      p ≤ q → (q ≤ t.shared → x'' ≡ x') → Alike t toLoad P q x x' → Alike t toLoad P p x x''
  alike_before le e (value h le' k) = value h (omega arith) (λ shown. e (omega arith) ∙ k shown)
  alike_before le e (fault le' k) = fault (omega arith) (λ shown. e (omega arith) ∙ k shown)

  pub alike_and_then : {F V W : Type 0} {toLoad : F → LoadFault} {P : V → Input → Type 0} {R : W → Input → Type 0} {p : ℕ} {x x' : Parsed F V}
      (f : V → Input → Parsed F W) → Alike t toLoad P p x x' →
      ((v : V) (l : Input) → P v l → Alike t toLoad R l.place (f v l) (f v (there t l))) → Alike t toLoad R p (and_then x f) (and_then x' f)
  alike_and_then f (value {v} {l} h le k) next = alike_before le (λ shown. ap (λ z. and_then z f) (k shown)) (next v l h)
  alike_and_then f (fault le k) next = fault le (λ shown. ap (λ z. and_then z f) (k shown))

  -- with what else is known of the reading
  pub alike_knowing : {F V : Type 0} {toLoad : F → LoadFault} {P R : V → Input → Type 0} {p : ℕ} {x x' : Parsed F V} (Q : F → Type 0) →
      Holds R Q x → Alike t toLoad P p x x' → Alike t toLoad R p x x'
  alike_knowing Q known (value h le k) = value known le k
  alike_knowing Q known (fault le k) = fault le k

  pub alike_cond : {F V : Type 0} {toLoad : F → LoadFault} {P : V → Input → Type 0} {p : ℕ} {x x' y y' : Parsed F V} (b : Bool) →
      Alike t toLoad P p x x' → Alike t toLoad P p y y' → Alike t toLoad P p (cond b x y) (cond b x' y')
  alike_cond true h k = h
  alike_cond false h k = k

  pub alike_lift : {V : Type 0} {P : V → Input → Type 0} {p : ℕ} {x x' : Parsed ReadFault V} →
      Alike t Read P p x x' → Alike t (λ e. e) P p (lift x) (lift x')
  alike_lift (value h le k) = value h le (λ shown. ap lift (k shown))
  alike_lift (fault le k) = fault le (λ shown. ap lift (k shown))

  pub alike_series : {F V : Type 0} (toLoad : F → LoadFault) (read : List V → Input → Parsed F V) →
      ((done : List V) → AlikeReading t toLoad (λ _ _. Within t.file) (read done)) →
      (n : ℕ) (done : List V) → AlikeReading t toLoad (λ _ _. Within t.file) (series read n done)
  alike_series toLoad read step zero done l h = alike_got h
  alike_series toLoad read step (suc n) done l h =
      alike_and_then _ (step done l h) (λ v after g. alike_series toLoad read step n (done ++ v ∷ []) after g)
