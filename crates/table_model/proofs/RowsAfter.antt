-- The rows after an open, a close and a give-up: there are such rows, and they are the same at every number. Assumes nothing.
use Rattle.std.proofs.Common.{◌≡◌, ℕ, ◌<◌, ◌≤◌, Bool, true, false, cond, ltb, ◌⊎◌, sym, refl, ◌∙◌, subst, inl, inr, ⊎_elim}
use Rattle.std.proofs.lemmas.Bool.{cases_lt, false≢true, cond-true, lt-ltb, le-ltb}
use Rattle.equations.specs.Equations.{Equations, Lawful}
use Rattle.equations.proofs.Decided.{reach_decided}
use Rattle.table_model.specs.declared.row.Mark.{Mark}
use Rattle.table_model.specs.declared.row.Mark.TheVariants.{Untouched, Pending, Final}
use Rattle.table_model.specs.declared.row.Row.{Row}
use Rattle.table_model.specs.Rows.{Rows, is_pending, pending, values, row, Opened, MadeFinal, Released}
use Rattle.table_model.proofs.Lowest.{never}

pub row_same : {V : Type 0} (r s : Row V) → r.mark ≡ s.mark → r.value ≡ s.value → r ≡ s
row_same r s p q = λ t. row (p t) (q t)

pub final_cases : (m : Mark) → (m ≡ Final) ⊎ (m ≡ Final → ⊥)
final_cases Untouched = inr (λ p. never (cc))
final_cases Pending = inr (λ p. never (cc))
final_cases Final = inl refl

pending_cases : (m : Mark) → (m ≡ Pending) ⊎ (m ≡ Pending → ⊥)
pending_cases Untouched = inr (λ p. never (cc))
pending_cases Pending = inl refl
pending_cases Final = inr (λ p. never (cc))

untouched_left : (m : Mark) → (m ≡ Final → ⊥) → (m ≡ Pending → ⊥) → m ≡ Untouched
untouched_left Untouched n p = refl
untouched_left Pending n p = absurd (p refl)
untouched_left Final n p = absurd (n refl)

not_pending : (m : Mark) → (m ≡ Pending → ⊥) → is_pending m ≡ false
not_pending Untouched h = refl
not_pending Pending h = absurd (h refl)
not_pending Final h = refl

-- Each pending row below n becomes its row of f, and the others are as they were.
record PendingTo {V : Type 0} (f : Row V → Row V) (n : ℕ) (before after : Rows V) : Type 0 where
  pub made : (j : ℕ) → j < n → (before j).mark ≡ Pending → after j ≡ f (before j)
  pub kept : (j : ℕ) → j < n → ((before j).mark ≡ Pending → ⊥) → after j ≡ before j
  pub past : (j : ℕ) → n ≤ j → after j ≡ before j

module _ {V : Type 0} (f : Row V → Row V) (n : ℕ) (before : Rows V) where
  abbrev pending_to : Rows V
  pending_to j = cond (ltb j n) (cond (pending before j) (f (before j)) (before j)) (before j)

  pending_to_some : PendingTo f n before pending_to
  pending_to_some =
      record {
        made = λ j l p. rw (lt-ltb j n l, p);
        kept = λ j l p. rw (lt-ltb j n l, not_pending (before j).mark p);
        past = λ j l. rw (le-ltb j n l);
      }

  pending_to_one : (a b : Rows V) → PendingTo f n before a → PendingTo f n before b → (j : ℕ) → a j ≡ b j
  pending_to_one a b p q j =
      ⊎_elim
      (λ l. ⊎_elim (λ m. p.made j l m ∙ sym (q.made j l m)) (λ m. p.kept j l m ∙ sym (q.kept j l m)) (pending_cases (before j).mark))
      (λ l. p.past j l ∙ sym (q.past j l))
      (cases_lt j n)

-- What an open makes of a row, by its mark and by whether it is in reach.
abbrev opened_to : {V : Type 0} → V → Mark → Bool → V → Row V
opened_to bot Untouched true x = row Pending bot
opened_to bot Untouched false x = row Untouched x
opened_to bot Pending true x = row Pending bot
opened_to bot Pending false x = row Untouched bot
opened_to bot Final b x = row Final x

opened_to_reached : {V : Type 0} (bot x : V) (m : Mark) → (m ≡ Final → ⊥) → opened_to bot m true x ≡ row Pending bot
opened_to_reached bot x Untouched n = refl
opened_to_reached bot x Pending n = refl
opened_to_reached bot x Final n = absurd (n refl)

opened_to_bottom : {V : Type 0} (bot x : V) (m : Mark) (b : Bool) → is_pending (opened_to bot m b x).mark ≡ true → (opened_to bot m b x).value ≡ bot
opened_to_bottom bot x Untouched true t = refl
opened_to_bottom bot x Untouched false t = absurd (false≢true t)
opened_to_bottom bot x Pending true t = refl
opened_to_bottom bot x Pending false t = refl
opened_to_bottom bot x Final b t = absurd (false≢true t)

-- Whether a decision is a yes.
abbrev is_yes : {P : Type 0} → P ⊎ (P → ⊥) → Bool
is_yes (inl p) = true
is_yes (inr n) = false

yes_true : {P : Type 0} (d : P ⊎ (P → ⊥)) → P → is_yes d ≡ true
yes_true (inl p) q = refl
yes_true (inr n) q = absurd (n q)

yes_false : {P : Type 0} (d : P ⊎ (P → ⊥)) → (P → ⊥) → is_yes d ≡ false
yes_false (inl p) q = absurd (q p)
yes_false (inr n) q = refl

module _ {V : Type 0} (bot : V) (e : Equations V) where
  abbrev made_final : Row V → Row V
  made_final r = row Final r.value

  abbrev released : Row V → Row V
  released r = row Untouched bot

  pub made_final_some : (before : Rows V) → (after : Rows V) × MadeFinal bot e before after
  made_final_some before =
      let h = pending_to_some made_final e.size before in
      (pending_to made_final e.size before, record { made = h.made; kept = h.kept; past = h.past })

  pub made_final_one : (before a b : Rows V) → MadeFinal bot e before a → MadeFinal bot e before b → (j : ℕ) → a j ≡ b j
  made_final_one before a b p q =
      pending_to_one made_final e.size before a b (record { made = p.made; kept = p.kept; past = p.past }) (record { made = q.made; kept = q.kept; past = q.past })

  pub released_some : (before : Rows V) → (after : Rows V) × Released bot e before after
  released_some before =
      let h = pending_to_some released e.size before in
      (pending_to released e.size before, record { released = h.made; kept = h.kept; past = h.past })

  pub released_one : (before a b : Rows V) → Released bot e before a → Released bot e before b → (j : ℕ) → a j ≡ b j
  released_one before a b p q =
      pending_to_one released e.size before a b (record { made = p.released; kept = p.kept; past = p.past }) (record { made = q.released; kept = q.kept; past = q.past })

  module _ {le : V → V → Type 0} (lawful : Lawful bot le e) (i : ℕ) (l : i < e.size) (before : Rows V) where
    -- The rows after an open at i.
    abbrev pub opened_rows : Rows V
    opened_rows j =
        cond (ltb j e.size) (opened_to bot (before j).mark (is_yes (reach_decided e lawful i j l)) (before j).value) (before j)

    pub opened_some : Opened bot e i before opened_rows
    opened_some =
        record {
          final = λ j m p. rw (lt-ltb j e.size m, p);
          reached = λ j m n r. rw (lt-ltb j e.size m, yes_true (reach_decided e lawful i j l) r) (opened_to_reached bot (before j).value (before j).mark n);
          released = λ j m p n. rw (lt-ltb j e.size m, yes_false (reach_decided e lawful i j l) n, p);
          untouched = λ j m p n. rw (lt-ltb j e.size m, yes_false (reach_decided e lawful i j l) n, p);
          past = λ j m. rw (le-ltb j e.size m);
        }

    pub opened_one : (a b : Rows V) → Opened bot e i before a → Opened bot e i before b → (j : ℕ) → a j ≡ b j
    opened_one a b p q j =
        ⊎_elim
        (λ m.
        ⊎_elim
        (λ f. p.final j m f ∙ sym (q.final j m f))
        (λ n.
        ⊎_elim
        (λ r. p.reached j m n r ∙ sym (q.reached j m n r))
        (λ r.
        ⊎_elim
        (λ h. p.released j m h r ∙ sym (q.released j m h r))
        (λ h. let u = untouched_left (before j).mark n h in p.untouched j m u r ∙ sym (q.untouched j m u r))
        (pending_cases (before j).mark))
        (reach_decided e lawful i j l))
        (final_cases (before j).mark))
        (λ m. p.past j m ∙ sym (q.past j m))
        (cases_lt j e.size)

    -- Every pending row is at the bottom after an open.
    pub opened_bottom : (j : ℕ) → j < e.size → pending opened_rows j ≡ true → values opened_rows j ≡ bot
    opened_bottom j m =
        let reached : Bool = is_yes (reach_decided e lawful i j l) in
        subst
        (λ (r : Row V). is_pending r.mark ≡ true → r.value ≡ bot)
        (sym (cond-true (ltb j e.size) _ _ (lt-ltb j e.size m)))
        (opened_to_bottom bot (before j).value (before j).mark reached)
