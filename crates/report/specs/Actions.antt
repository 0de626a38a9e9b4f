-- What the arguments of a command line ask for, with the files themselves. Assumes nothing.
use Rattle.std.specs.Prelude.{ℕ, cond, List, [], ◌∷◌, Some, None, Ok, Err, codes, Option, Result, String}
use Rattle.std.specs.Option.{option_map}
use Rattle.std.specs.Str.{bytes_eq}
use Rattle.std.specs.declared.alloc.Global.{Global}
use Rattle.report.specs.declared.command.Action.{Action}
use Rattle.report.specs.declared.command.Action.TheVariants.{Sample, Help, Report}
use Rattle.report.specs.declared.command.Format.{Format}
use Rattle.report.specs.declared.command.Format.TheVariants.{Text, Tsv}
use Rattle.report.specs.declared.command.UsageError.{UsageError}

-- what a command line asks for: a report on a sample, the help, or a report in a format on files, which are arguments
pub data Request (S : Type 0) : Type 0 where
  sample : Request S
  help : Request S
  report : Format → List S → Request S

-- what a result of `parse_action` stands for
abbrev pub asked : Result Action UsageError → Option (Request (String Global))
asked (Ok Sample) = Some sample
asked (Ok Help) = Some help
asked (Ok (Report format files)) = Some (report format files.now)
asked (Err e) = None

-- the format of that name
abbrev pub format_named : List ℕ → Option Format
format_named word = cond (bytes_eq word (codes "text")) (Some Text) (cond (bytes_eq word (codes "tsv")) (Some Tsv) None)

module _ {S : Type 0} (bytes : S → List ℕ) where
  -- `help` takes no arguments
  abbrev pub help_with : List S → Option (Request S)
  help_with [] = Some help
  help_with (word ∷ words) = None

  -- the arguments after `--format`: a format and at least one file
  abbrev pub formatted : List S → Option (Request S)
  formatted [] = None
  formatted (word ∷ []) = None
  formatted (word ∷ file ∷ files) = option_map (λ format. report format (file ∷ files)) (format_named (bytes word))

  -- the arguments after `report`, of which there is at least one
  abbrev pub report_of : List S → Option (Request S)
  report_of [] = None
  report_of (word ∷ words) = cond (bytes_eq (bytes word) (codes "--format")) (formatted words) (Some (report Text (word ∷ words)))

  -- the arguments after the program's name; none if they ask for nothing
  abbrev pub action_of : List S → Option (Request S)
  action_of [] = Some sample
  action_of (word ∷ words) =
      cond (bytes_eq (bytes word) (codes "help")) (help_with words) (cond (bytes_eq (bytes word) (codes "report")) (report_of words) None)
