-- What a resolver means whose answers are remembered, from what the resolver below it means.
-- With the maxima the rules of a resolver hold whatever the fields hold. In what `Memoized::new` makes, the counts and the names are those of the resolver below.
use Rattle.std.specs.Prelude.{ℕ, max, vec_items, vec_len, Option, slice_index_or}
use Rattle.reserved_vec.specs.Reserved.{IsReserved}
use Rattle.references.specs.declared.memoization.Memo.{Memo}
use Rattle.references.specs.declared.memoization.Memoized.{Memoized}
use Rattle.references.specs.Remembered.{memo_limit}

-- The number of references: that of the resolver below, or the number of remembered answers if that is larger.
abbrev pub memo_references : {R : Type 0} → (R → ℕ) → Memoized R → ℕ
memo_references references s = max (references s.below) (vec_len s.answers)

-- The number of declarations: that of the resolver below, or the remembered one if that is larger.
abbrev pub memo_declarations : {R : Type 0} → (R → ℕ) → Memoized R → ℕ
memo_declarations declarations s = max (declarations s.below) s.declarations

-- The declaration that reference r names: as remembered, or as the resolver below says if r is not remembered.
abbrev pub memo_names : {R : Type 0} → (R → ℕ → Option ℕ) → Memoized R → ℕ → Option ℕ
memo_names names s r = slice_index_or (vec_items s.answers) r (names s.below r)

-- No answer is remembered yet, and there is room for memo_limit answers.
abbrev pub Reserved : Memo → Type 0
Reserved m = IsReserved memo_limit m.answers.items
