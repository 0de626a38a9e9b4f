-- What holds of every outcome of a reading. Assumes nothing.
use Rattle.std.proofs.Common.{ℕ, zero, suc, List, [], ◌∷◌, ◌++◌}
use Rattle.entry_format.specs.declared.fault.LoadFault.{LoadFault}
use Rattle.entry_format.specs.declared.fault.LoadFault.TheVariants.{Read}
use Rattle.entry_format.specs.declared.fault.ReadFault.{ReadFault}
use Rattle.entry_format.specs.Reading.{Input, Parsed, got, bad, and_then, series, lift}

-- P holds of what was read and what is still to be read, or Q of the fault
abbrev pub Holds : {F V : Type 0} → (V → Input → Type 0) → (F → Type 0) → Parsed F V → Type 0
Holds P Q (got v l) = P v l
Holds P Q (bad e) = Q e

pub holds_and_then : {F V W : Type 0} (P : V → Input → Type 0) (R : W → Input → Type 0) (Q : F → Type 0)
    (x : Parsed F V) (f : V → Input → Parsed F W) →
    Holds P Q x → ((v : V) (l : Input) → P v l → Holds R Q (f v l)) → Holds R Q (and_then x f)
holds_and_then P R Q (got v l) f h next = next v l h
holds_and_then P R Q (bad e) f h next = h

pub holds_weaker : {F V : Type 0} (P R : V → Input → Type 0) (Q : F → Type 0) (x : Parsed F V) →
    ((v : V) (l : Input) → P v l → R v l) → Holds P Q x → Holds R Q x
holds_weaker P R Q (got v l) f h = f v l h
holds_weaker P R Q (bad e) f h = h

pub holds_lift : {V : Type 0} (P : V → Input → Type 0) (Q : LoadFault → Type 0) (x : Parsed ReadFault V) →
    Holds P (λ e. Q (Read e)) x → Holds P Q (lift x)
holds_lift P Q (got v l) h = h
holds_lift P Q (bad e) h = h

-- I holds of the number of readings that are still to come, the values so far and what is still to be read
pub holds_series : {F V : Type 0} (I : ℕ → List V → Input → Type 0) (Q : F → Type 0) (read : List V → Input → Parsed F V) →
    ((n : ℕ) (done : List V) (l : Input) → I (suc n) done l → Holds (λ v after. I n (done ++ v ∷ []) after) Q (read done l)) →
    (n : ℕ) (done : List V) (l : Input) → I n done l → Holds (I 0) Q (series read n done l)
holds_series I Q read step zero done l h = h
holds_series I Q read step (suc n) done l h =
    holds_and_then _ _ Q (read done l) _ (step n done l h) (λ v after g. holds_series I Q read step n (done ++ v ∷ []) after g)
