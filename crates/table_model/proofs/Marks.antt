-- Marks told apart. Assumes nothing.
use Rattle.std.proofs.Common.{◌≡◌, ℕ, Bool, true, false, ◌⊎◌, refl, inl, inr, arith}
use Rattle.std.proofs.lemmas.Bool.{false≢true}
use Rattle.table_model.specs.declared.row.Mark.{Mark}
use Rattle.table_model.specs.declared.row.Mark.TheVariants.{Untouched, Pending, Final}
use Rattle.table_model.specs.Rows.{Rows, is_pending}

abbrev pub is_final : Mark → Bool
is_final Untouched = false
is_final Pending = false
is_final Final = true

-- Which rows are final.
abbrev pub final : {V : Type 0} → Rows V → ℕ → Bool
final rows j = is_final (rows j).mark

pub pending_from : (m : Mark) → is_pending m ≡ true → m ≡ Pending
pending_from Untouched t = absurd (false≢true t)
pending_from Pending t = refl
pending_from Final t = absurd (false≢true t)

pub final_from : (m : Mark) → is_final m ≡ true → m ≡ Final
final_from Untouched t = absurd (false≢true t)
final_from Pending t = absurd (false≢true t)
final_from Final t = refl

pub pending_not_final : (m : Mark) → m ≡ Pending → m ≡ Final → ⊥
pending_not_final m p q = let z : ◌≡◌ {A = ℕ} 0 1 = cc in omega arith

pub untouched_not_final : (m : Mark) → m ≡ Untouched → m ≡ Final → ⊥
untouched_not_final m p q = let z : ◌≡◌ {A = ℕ} 0 1 = cc in omega arith

pub untouched_not_pending : (m : Mark) → m ≡ Untouched → m ≡ Pending → ⊥
untouched_not_pending m p q = let z : ◌≡◌ {A = ℕ} 0 1 = cc in omega arith

pub cases_mark : (m : Mark) → (m ≡ Final) ⊎ ((m ≡ Pending) ⊎ (m ≡ Untouched))
cases_mark Untouched = inr (inr refl)
cases_mark Pending = inr (inl refl)
cases_mark Final = inl refl

pub cases_final : (m : Mark) → (m ≡ Final) ⊎ (m ≡ Final → ⊥)
cases_final Untouched = inr (untouched_not_final Untouched refl)
cases_final Pending = inr (pending_not_final Pending refl)
cases_final Final = inl refl

pub cases_pending : (m : Mark) → (m ≡ Pending) ⊎ (m ≡ Pending → ⊥)
cases_pending Untouched = inr (untouched_not_pending Untouched refl)
cases_pending Pending = inl refl
cases_pending Final = inr (λ p. pending_not_final Final p refl)
