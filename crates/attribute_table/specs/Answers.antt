-- The answer that each call's result stands for, and the session in it. Assumes nothing.
use Rattle.std.specs.Prelude.{◌≡◌, ℕ, ◌<◌, Ok, Err, Result}
use Rattle.table_model.specs.Calls as calls
use Rattle.table_model.specs.Calls.{refused, opened, rounded, closed, demanded, valued}
use Rattle.table_model.specs.declared.fault.TableFault.{TableFault}
use Rattle.attribute_table.specs.declared.session.Answer.{Answer}
use Rattle.attribute_table.specs.declared.session.Iterating.{Iterating}
use Rattle.attribute_table.specs.declared.session.Rounded.{Rounded}
use Rattle.attribute_table.specs.declared.session.Rounded.TheVariants.{Changed, Unchanged}
use Rattle.attribute_table.specs.declared.session.Session.{Session}
use Rattle.attribute_table.specs.declared.session.Settled.{Settled}

abbrev pub result_of : {V : Type 0} → Answer V → calls.Result V
result_of a = record { value = a.value; made_final = a.made_final; rounds = a.rounds }

abbrev pub open_answer : {V : Type 0} → Result (Session Iterating) TableFault → calls.Answer V
open_answer (Ok session) = opened
open_answer (Err f) = refused f

-- The session that an open gives is at i, an instance that a system can have: so it may not be dropped.
abbrev pub OpensAt : ℕ → Result (Session Iterating) TableFault → Type 0
OpensAt i (Ok session) = (session.instance ≡ i) × (session.instance < 4096)
OpensAt i (Err f) = Unit

-- How many rows a round changed: none if the session is settled.
abbrev pub changed_rows : Rounded → ℕ
changed_rows (Changed session count) = count
changed_rows (Unchanged session) = 0

abbrev pub round_answer : {V : Type 0} → Result Rounded (TableFault × Session Iterating) → calls.Answer V
round_answer (Ok r) = rounded (changed_rows r)
round_answer (Err f) = refused f.0

-- The session goes on while rows change, is settled when none does, and is handed back with a refusal; it stays at i.
abbrev pub SessionAfter : ℕ → Rounded → Type 0
SessionAfter i (Changed session count) = (session.instance ≡ i) × (0 < count)
SessionAfter i (Unchanged session) = session.instance ≡ i

abbrev pub RoundsAt : ℕ → Result Rounded (TableFault × Session Iterating) → Type 0
RoundsAt i (Ok r) = SessionAfter i r
RoundsAt i (Err f) = f.1.instance ≡ i

abbrev pub close_answer : {V : Type 0} → Result (Answer V) (TableFault × Session Settled) → calls.Answer V
close_answer (Ok r) = closed (result_of r)
close_answer (Err f) = refused f.0

-- A close that is refused hands the session back.
abbrev pub ClosesAt : {V : Type 0} → ℕ → Result (Answer V) (TableFault × Session Settled) → Type 0
ClosesAt i (Ok r) = Unit
ClosesAt i (Err f) = f.1.instance ≡ i

abbrev pub demand_answer : {V : Type 0} → Result (Answer V) TableFault → calls.Answer V
demand_answer (Ok r) = demanded (result_of r)
demand_answer (Err f) = refused f

abbrev pub read_answer : {V : Type 0} → Result V TableFault → calls.Answer V
read_answer (Ok x) = valued x
read_answer (Err f) = refused f
