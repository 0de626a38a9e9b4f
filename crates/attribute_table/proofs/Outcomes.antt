-- What each outcome of a call comes to. Assumes nothing.
use Rattle.std.proofs.Common.{◌≡◌, ℕ, ◌<◌, ◌≤◌, Bool, true, false, cond, eqb, ◌⊎◌, List, length, get_or, Ok, Err, Result, sym, refl, ap, ◌∙◌, subst, subst₂, ⊎_elim, arith}
use mathlib.Core.Path.{subst⁻¹}
use Rattle.std.proofs.lemmas.Bool.{false≢true, eqb-true, eq-eqb, ne_eqb}
use Rattle.equations.specs.Equations.{Equations}
use Rattle.equations.specs.Reach.{Whole}
use Rattle.equations.specs.Rounds.{members}
use Rattle.reach_search.specs.Searched.{MarksReach, TellsWhole, whole, dangling}
use Rattle.table_model.proofs.Lowest.{never}
use Rattle.table_model.specs.Calls as calls
use Rattle.table_model.specs.Calls.{Call, open_at, round_of, close_of, demand_at, read_at, Answer, refused, opened, rounded, closed, gave_up, demanded, valued, evaluation, counted, LowestDangling}
use Rattle.table_model.specs.Rows.{Rows, row, pending, Released, pending_count}
use Rattle.table_model.specs.Steps.{Step, FitsOpen, FitsSettled, Worked, table, round_state, open_final, open_dangling, open_done, round_done, close_done, give_open, give_open_unfit, give_settled, give_settled_unfit, demand_final, demand_dangling, demand_done, read_not, read_done}
use Rattle.table_model.specs.declared.fault.DanglingOperand.{DanglingOperand}
use Rattle.table_model.specs.declared.fault.TableFault.{TableFault}
use Rattle.table_model.specs.declared.fault.TableFault.TheVariants as fault
use Rattle.table_model.specs.declared.record.Evaluation.{Evaluation}
use Rattle.table_model.specs.declared.record.State.{State}
use Rattle.table_model.specs.declared.record.State.TheVariants.{Idle, Iterating, Settled}
use Rattle.table_model.specs.declared.row.Mark.{Mark}
use Rattle.table_model.specs.declared.row.Mark.TheVariants.{Untouched, Pending, Final}
use Rattle.table_model.specs.declared.row.Row.{Row}
use Rattle.attribute_table.specs.Effects.{opened_row, closed_row, released_row, EachRow, Evaluated, Iterated}
use Rattle.attribute_table.specs.Lent.{rows_of, EnoughRows, EnoughPlaces, NotAsked, too_short, not_idle, no_instance, Called, Made}
use Rattle.attribute_table.specs.Phases.{SessionPhase, iterating, settled, fits_in, give_up_in}
use Rattle.attribute_table.proofs.Calls.{drop_same, not_lent, kept, altered}
use Rattle.attribute_table.proofs.RowsAfter.{rows_opened, closed_rows, released_rows, rounded_rows, evaluated_past, iterated_past}
use Rattle.attribute_table.proofs.Sweeps.{pending_same}

abbrev result : {V : Type 0} → V → ℕ → ℕ → calls.Result V
result x n k = record { value = x; made_final = n; rounds = k }

-- A search that is refused tells the lowest dangling operand, and one that is answered that the instance is whole.
module _ {V : Type 0} {e : Equations V} {i : ℕ} where
  pub told_dangling : {r : Result Unit TableFault} → TellsWhole e i r → (f : TableFault) → r ≡ Err f → (d : DanglingOperand) × (f ≡ fault.Dangling d) × LowestDangling e i d
  told_dangling (whole w) f q = absurd (never (cc))
  told_dangling (dangling {d} l) f q = (d, (cc), l)

  pub told_whole : {r : Result Unit TableFault} → TellsWhole e i r → (u : Unit) → r ≡ Ok u → Whole e i
  told_whole (whole w) u q = w
  told_whole (dangling l) u q = absurd (never (cc))

-- A mark that is not final.
pub not_final : (m : Mark) → (m ≡ Untouched) ⊎ (m ≡ Pending) → m ≡ Final → ⊥
not_final m is final = ⊎_elim (λ p. never (cc)) (λ p. never (cc)) is

-- An evaluation of instance i, and one of another.
fits : (state : Evaluation → State) {s : State} {x : Evaluation} {i : ℕ} → s ≡ state x → x.instance ≡ i → s ≡ state (evaluation i x.rounds)
fits state {x = x} is at = is ∙ ap (λ j. state (evaluation j x.rounds)) at

another : (state : Evaluation → State) → ((x y : Evaluation) → state x ≡ state y → x ≡ y) → (s : State) (x : Evaluation) (i : ℕ) → s ≡ state x → (x.instance ≡ i → ⊥) → (k : ℕ) → s ≡ state (evaluation i k) → ⊥
another state same s x i is other k fits = other (ap (λ y. y.instance) (same x (evaluation i k) (sym is ∙ fits)))

pub another_open : (s : State) (x : Evaluation) (i : ℕ) → s ≡ Iterating x → (x.instance ≡ i → ⊥) → (k : ℕ) → s ≡ Iterating (evaluation i k) → ⊥
another_open = another Iterating (λ x y p. cc)

pub another_settled : (s : State) (x : Evaluation) (i : ℕ) → s ≡ Settled x → (x.instance ≡ i → ⊥) → (k : ℕ) → s ≡ Settled (evaluation i k) → ⊥
another_settled = another Settled (λ x y p. cc)

-- An open or a demand at i that cannot go on is refused.
module _ {V : Type 0} {bot : V} {same : V → V → Bool} {e : Equations V} {s : State} {rows : List (Row V)} {c : Call} where
  pub not_asked : {work : List ℕ} {i : ℕ} →
      ((s ≡ Idle → ⊥) → Step bot same e s (rows_of bot rows) c (refused fault.NotIdle) (table s (rows_of bot rows))) →
      (s ≡ Idle → e.size ≤ i → Step bot same e s (rows_of bot rows) c (refused fault.NoInstance) (table s (rows_of bot rows))) →
      (f : TableFault) → NotAsked e s rows work i f → Called bot same e (EnoughPlaces e rows work) (refused fault.TooShort) s rows c (refused f) s rows
  not_asked busy none f (too_short not) = not_lent not
  not_asked busy none f (not_idle lent not) = kept lent (busy not)
  not_asked busy none f (no_instance lent idle past) = kept lent (none idle past)

-- The row of number i is r.
module _ {V : Type 0} (bot : V) (rows : List (Row V)) (i : ℕ) (r : Row V) (is : r ≡ rows_of bot rows i) where
  marked : {m : Mark} → r.mark ≡ m → (rows_of bot rows i).mark ≡ m
  marked m = ap (λ x. x.mark) (sym is) ∙ m

  unmarked : {m : Mark} → (r.mark ≡ m → ⊥) → (rows_of bot rows i).mark ≡ m → ⊥
  unmarked not m = not (ap (λ x. x.mark) is ∙ m)

-- Opening at i, rounds until one changes nothing, and a close.
module _ {V : Type 0} (bot : V) {same : V → V → Bool} (e : Equations V) (i : ℕ) {rows begun ended after : List (Row V)} {k : ℕ} where
  works : (marks : List ℕ) → MarksReach e i marks → EachRow bot e.size (λ j. opened_row bot (eqb (get_or marks j 0) 1)) rows begun →
      Iterated bot same e begun ended k → EachRow bot e.size (λ _. closed_row bot) ended after →
      (r : Row V) → r ≡ rows_of bot ended i → (count : ℕ) → count ≡ members (pending (rows_of bot ended)) e.size →
      Worked bot same e i (rows_of bot rows) (rows_of bot after) (result r.value count k)
  works marks reach opens iterates closes r ends count counts =
      record {
        begun = rows_of bot begun;
        opens = rows_opened bot e i marks reach opens;
        k = iterates.k;
        change = iterates.change;
        settle = iterates.settle;
        ended = rows_of bot ended;
        marks = iterates.marks;
        worked = iterates.worked;
        closes = closed_rows bot e closes;
        value = ap (λ z. z.value) ends;
        made_final = counts ∙ ap (λ p. members p e.size) (pending_same bot begun ended iterates.marks);
        rounds = iterates.counts;
      }

-- Calls that ask for instance i, whose row is r.
module _ {V : Type 0} {bot : V} {same : V → V → Bool} {e : Equations V} {enough : Type 0} {short : Answer V} {s : State} {rows : List (Row V)} {i : ℕ} where
  module _ (lent : enough) (l : i < e.size) (r : Row V) (is : r ≡ rows_of bot rows i) where
    pub read_of_final : r.mark ≡ Final → Called bot same e enough short s rows (read_at i) (valued r.value) s rows
    read_of_final m = subst⁻¹ (λ x. Called bot same e enough short s rows (read_at i) (valued x.value) s rows) is (kept lent (read_done l (marked bot rows i r is m)))

    pub read_of_other : (r.mark ≡ Final → ⊥) → Called bot same e enough short s rows (read_at i) (refused fault.NotFinal) s rows
    read_of_other not = kept lent (read_not l (unmarked bot rows i r is not))

    -- The table is idle.
    module _ (idle : s ≡ Idle) where
      pub open_of_final : r.mark ≡ Final → Called bot same e enough short s rows (open_at i) (refused fault.AlreadyFinal) s rows
      open_of_final m = kept lent (open_final idle l (marked bot rows i r is m))

      pub demand_of_final : r.mark ≡ Final → Called bot same e enough short s rows (demand_at i) (demanded (result r.value 0 0)) s rows
      demand_of_final m = subst⁻¹ (λ x. Called bot same e enough short s rows (demand_at i) (demanded (result x.value 0 0)) s rows) is (kept lent (demand_final idle l (marked bot rows i r is m)))

      -- The row is not final, and the search of its reach answered t.
      module _ (not : r.mark ≡ Final → ⊥) {t : Result Unit TableFault} (tells : TellsWhole e i t) where
        pub open_of_dangling : (f : TableFault) → t ≡ Err f → Called bot same e enough short s rows (open_at i) (refused f) s rows
        open_of_dangling f q =
            let d = told_dangling tells f q in
            subst⁻¹ (λ x. Called bot same e enough short s rows (open_at i) (refused x) s rows) d.1 (kept lent (open_dangling idle l (unmarked bot rows i r is not) d.2))

        pub demand_of_dangling : (f : TableFault) → t ≡ Err f → Called bot same e enough short s rows (demand_at i) (refused f) s rows
        demand_of_dangling f q =
            let d = told_dangling tells f q in
            subst⁻¹ (λ x. Called bot same e enough short s rows (demand_at i) (refused x) s rows) d.1 (kept lent (demand_dangling idle l (unmarked bot rows i r is not) d.2))

        module _ (u : Unit) (q : t ≡ Ok u) (marks : List ℕ) (reach : MarksReach e i marks) {begun : List (Row V)} (opens : EachRow bot e.size (λ j. opened_row bot (eqb (get_or marks j 0) 1)) rows begun) where
          pub open_of_whole : Called bot same e enough short s rows (open_at i) opened (Iterating (evaluation i 0)) begun
          open_of_whole =
              altered lent (λ f a. never (cc)) opens.length opens.past
              (open_done idle l (unmarked bot rows i r is not) (told_whole tells u q) (rows_opened bot e i marks reach opens))

          -- Then rounds until one changes nothing, and a close.
          pub demand_of_whole : {ended after : List (Row V)} {k count : ℕ} → Iterated bot same e begun ended k → EachRow bot e.size (λ _. closed_row bot) ended after →
              (x : Row V) → x ≡ rows_of bot ended i → count ≡ members (pending (rows_of bot ended)) e.size →
              Called bot same e enough short s rows (demand_at i) (demanded (result x.value count k)) s after
          demand_of_whole {after = after} {k = k} {count = count} iterates closes x ends counts =
              altered lent (λ f a. never (cc)) (closes.length ∙ iterates.length ∙ opens.length)
              (λ j n. closes.past j n ∙ iterated_past bot e iterates j n ∙ opens.past j n)
              (subst⁻¹ (λ z. Step bot same e s (rows_of bot rows) (demand_at i) (demanded (result x.value count k)) (table z (rows_of bot after))) idle
              (demand_done idle l (unmarked bot rows i r is not) (told_whole tells u q) (works bot e i marks reach opens iterates closes x ends count counts)))

-- Calls that bring a session at i, which fits the evaluation x.
module _ {V : Type 0} {bot : V} {same : V → V → Bool} {e : Equations V} {enough : Type 0} {short : Answer V} {s : State} {rows : List (Row V)} {i : ℕ} where
  module _ (lent : enough) (x : Evaluation) (at : x.instance ≡ i) {after : List (Row V)} where
    -- A round.
    module _ (is : s ≡ Iterating x) {count : ℕ} (done : Evaluated bot same e e.size rows after count) where
      round_to : (t : State) → round_state i x.rounds count ≡ t → Called bot same e enough short s rows (round_of i) (rounded count) t after
      round_to t q =
          subst (λ z. Called bot same e enough short s rows (round_of i) (rounded count) z after) q
          (altered lent (λ f a. never (cc)) done.length (evaluated_past bot e done) (round_done (fits Iterating is at) (rounded_rows bot e done)))

      pub round_settles : {n : ℕ} → n ≡ counted x.rounds → count ≡ 0 → Called bot same e enough short s rows (round_of i) (rounded 0) (Settled (evaluation i n)) after
      round_settles {n} more none =
          subst (λ z. Called bot same e enough short s rows (round_of i) (rounded z) (Settled (evaluation i n)) after) none
          (round_to (Settled (evaluation i n)) (ap (round_state i x.rounds) none ∙ ap (λ k. Settled (evaluation i k)) (sym more)))

      pub changing_round : {n : ℕ} → n ≡ counted x.rounds → (count ≡ 0 → ⊥) → Called bot same e enough short s rows (round_of i) (rounded count) (Iterating (evaluation i n)) after
      changing_round {n} more some =
          round_to (Iterating (evaluation i n))
          (ap (λ b. cond b (Settled (evaluation i (counted x.rounds))) (Iterating (evaluation i (counted x.rounds)))) (ne_eqb count 0 some)
          ∙ ap (λ k. Iterating (evaluation i k)) (sym more))

    pub close_of_settled : s ≡ Settled x → i < e.size → (r : Row V) → r ≡ rows_of bot rows i →
        EachRow bot e.size (λ _. closed_row bot) rows after → {count : ℕ} → count ≡ members (pending (rows_of bot rows)) e.size →
        Called bot same e enough short s rows (close_of i) (closed (result r.value count x.rounds)) Idle after
    close_of_settled is l r reads closes counts =
        subst₂ (λ z n. Called bot same e enough short s rows (close_of i) (closed (result z.value n x.rounds)) Idle after) (sym reads) (sym counts)
        (altered lent (λ f a. never (cc)) closes.length closes.past (close_done l (fits Settled is at) (closed_rows bot e closes)))

-- A session at i in the phase p fits the record, or it does not.
fits_iterating : (s : State) (i : ℕ) → fits_in iterating s i ≡ true → (k : ℕ) × FitsOpen s i k
fits_iterating Idle i q = absurd (false≢true q)
fits_iterating (Iterating x) i q = (x.rounds, fits Iterating refl (eqb-true x.instance i q))
fits_iterating (Settled x) i q = absurd (false≢true q)

fits_settled : (s : State) (i : ℕ) → fits_in settled s i ≡ true → (k : ℕ) × FitsSettled s i k
fits_settled Idle i q = absurd (false≢true q)
fits_settled (Iterating x) i q = absurd (false≢true q)
fits_settled (Settled x) i q = (x.rounds, fits Settled refl (eqb-true x.instance i q))

unfit_by : (p : SessionPhase) {s t : State} (i : ℕ) → fits_in p s i ≡ false → fits_in p t i ≡ eqb i i → s ≡ t → ⊥
unfit_by p {s} {t} i unfit at is = false≢true (sym unfit ∙ ap (λ z. fits_in p z i) is ∙ at ∙ eq-eqb i i refl)

module _ {V : Type 0} {bot : V} {same : V → V → Bool} {e : Equations V} (s : State) {before : Rows V} (i : ℕ) where
  gives : (p : SessionPhase) {after : Rows V} → fits_in p s i ≡ true → Released bot e before after →
      Step bot same e s before (give_up_in p i) (gave_up (pending_count bot e before)) (table Idle after)
  gives iterating q released = let w = fits_iterating s i q in give_open w.1 released
  gives settled q released = let w = fits_settled s i q in give_settled w.1 released

  gives_none : (p : SessionPhase) → fits_in p s i ≡ false → Step bot same e s before (give_up_in p i) (gave_up 0) (table s before)
  gives_none iterating q = give_open_unfit (λ k. unfit_by iterating i q refl)
  gives_none settled q = give_settled_unfit (λ k. unfit_by settled i q refl)

-- A give-up of a session at i in the phase p.
module _ {V : Type 0} {bot : V} {same : V → V → Bool} {e : Equations V} {s : State} {rows : List (Row V)} (p : SessionPhase) (i : ℕ) where
  pub given_up : EnoughRows e rows → fits_in p s i ≡ true →
      {after : List (Row V)} → EachRow bot e.size (λ _. released_row bot) rows after → {count : ℕ} → count ≡ members (pending (rows_of bot rows)) e.size →
      Called bot same e (EnoughRows e rows) (gave_up 0) s rows (give_up_in p i) (gave_up count) Idle after
  given_up lent q {after} releases counts =
      subst⁻¹ (λ n. Called bot same e (EnoughRows e rows) (gave_up 0) s rows (give_up_in p i) (gave_up n) Idle after) counts
      (altered lent (λ f a. never (cc)) releases.length releases.past (gives s i p q (released_rows bot e releases)))

  pub not_given_up : (EnoughRows e rows → fits_in p s i ≡ false) → Called bot same e (EnoughRows e rows) (gave_up 0) s rows (give_up_in p i) (gave_up 0) s rows
  not_given_up unfit =
      record {
        too_short = λ _. (refl, refl, refl);
        steps = λ lent. record { step = gives_none s i p (unfit lent); length = refl; past = refl };
        refusal = λ f a. (refl, refl);
      }

-- A table that is made.
module _ {V : Type 0} {bot : V} {same : V → V → Bool} {e : Equations V} {height : ℕ} {rows : List (Row V)} where
  pub made_new : height < 65536 → e.size ≤ length rows → {after : List (Row V)} → EachRow bot e.size (λ _ _. row Untouched bot) rows after → Made bot same e height rows (Ok (record { state = Idle })) after
  made_new low enough {after} clears =
      record {
        too_high = λ high. absurd (omega arith);
        too_short = λ _ few. absurd (omega arith);
        made = λ _ _. (record { state = Idle }, refl, record { idle = refl; untouched = clears.first }, drop_same bot e.size rows after clears.length clears.past);
        length = clears.length;
      }
