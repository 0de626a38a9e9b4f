-- The number and the words of each refusal. Assumes nothing.
use Rattle.std.specs.Prelude.{ℕ, List, ◌++◌, codes, decimal}
use Rattle.table_model.specs.declared.fault.DanglingOperand.{DanglingOperand}
use Rattle.table_model.specs.declared.fault.TableFault.{TableFault}
use Rattle.table_model.specs.declared.fault.TableFault.TheVariants as fault

abbrev pub number_of : TableFault → ℕ
number_of fault.TooShort = 10
number_of fault.TooHigh = 11
number_of fault.NoInstance = 12
number_of fault.NotIdle = 13
number_of (fault.Dangling d) = 14
number_of fault.AlreadyFinal = 15
number_of fault.NotFinal = 16
number_of fault.NoFit = 17

-- an operand that dangles, and its reference
abbrev pub dangling_words : DanglingOperand → List ℕ
dangling_words d =
    codes "operand " ++ (decimal d.operand ++ (codes " of instance " ++ (decimal d.instance ++ (codes " dangles at reference " ++ decimal d.dangling.reference))))

-- what is refused
abbrev pub reason_of : TableFault → List ℕ
reason_of fault.TooShort = codes "the rows or the work list are too short"
reason_of fault.TooHigh = codes "the lattice is too high"
reason_of fault.NoInstance = codes "there is no such instance"
reason_of fault.NotIdle = codes "the table is not idle"
reason_of (fault.Dangling d) = dangling_words d
reason_of fault.AlreadyFinal = codes "the instance is already final"
reason_of fault.NotFinal = codes "the row is not final"
reason_of fault.NoFit = codes "the session does not fit the table"
