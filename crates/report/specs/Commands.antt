-- What the arguments of a command line ask for. Assumes nothing.
use Rattle.std.specs.Prelude.{ℕ, cond, List, [], ◌∷◌, codes}
use Rattle.std.specs.Str.{bytes_eq}
use Rattle.report.specs.declared.command.Command.{Command}
use Rattle.report.specs.declared.command.Command.TheVariants.{Sample, Help, Report, Usage}
use Rattle.report.specs.declared.command.Format.TheVariants.{Text, Tsv}

-- `help` takes no arguments
abbrev pub help_with : List (List ℕ) → Command
help_with [] = Help
help_with (word ∷ words) = Usage

-- a report in the format of that name, on files from the fourth argument on
abbrev pub by_format : List ℕ → Command
by_format word = cond (bytes_eq word (codes "text")) (Report Text 3) (cond (bytes_eq word (codes "tsv")) (Report Tsv 3) Usage)

-- the arguments after `--format`: a format and at least one file
abbrev pub formatted : List (List ℕ) → Command
formatted [] = Usage
formatted (word ∷ []) = Usage
formatted (word ∷ file ∷ files) = by_format word

-- the arguments after `report`, of which there is at least one
abbrev pub report_of : List (List ℕ) → Command
report_of [] = Usage
report_of (word ∷ words) = cond (bytes_eq word (codes "--format")) (formatted words) (Report Text 1)

-- the arguments after the program's name
abbrev pub command_of : List (List ℕ) → Command
command_of [] = Sample
command_of (word ∷ words) =
    cond (bytes_eq word (codes "help")) (help_with words) (cond (bytes_eq word (codes "report")) (report_of words) Usage)
