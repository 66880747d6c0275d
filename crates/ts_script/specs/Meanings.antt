-- What is asked for, with its input: the lines that are to be done.
use Rattle.std.specs.Prelude.{◌^◌, ◌<◌, ℕ, List, [], ◌∷◌, Bool, true, false, Result, Ok, IfSome, ⊤}
use Rattle.ts_model.specs.declared.commands.Line.{Line}
use Rattle.ts_model.specs.Jobs.{IsFitLine}
use Rattle.ts_script.specs.declared.words.Asked.{Asked}
use Rattle.ts_script.specs.declared.words.Asked.TheVariants.{Play, Object, Command as Alone, Generate}
use Rattle.ts_script.specs.declared.words.Report.{Report}
use Rattle.ts_script.specs.declared.words.Report.TheVariants as reports
use Rattle.ts_script.specs.Generator.{IsCellCount, generated}
use Rattle.ts_script.specs.Script.{Fault, ◌then◌, object_in, script_of}
use Rattle.ts_script.specs.Words.{line_alone}

-- the lines that what is asked for stands for, with this input; a single command is one line, and those of the generator need no input
abbrev pub meaning : Asked → List ℕ → Result (List Line) Fault
meaning Play input = script_of input
meaning (Object form at) input = object_in form input then λ command. Ok (line_alone at false command ∷ [])
meaning (Alone line) input = Ok (line ∷ [])
meaning (Generate cells) input = Ok (generated cells)

-- what is asked for has an input
abbrev pub has_input : Asked → Bool
has_input (Alone line) = false
has_input (Generate cells) = false
has_input _ = true

-- what is printed of how the commands came out
abbrev pub report_of : Asked → Report
report_of Play = reports.Script
report_of (Generate cells) = reports.Summary
report_of _ = reports.Single

-- what is asked for can be: its stamp has 64 bits, its line is one that there can be, and so many cells can be asked for
abbrev pub IsFitAsked : Asked → Type 0
IsFitAsked Play = ⊤
IsFitAsked (Object form at) = IfSome at (λ t. t < 2 ^ 64)
IsFitAsked (Alone line) = IsFitLine line
IsFitAsked (Generate cells) = IsCellCount cells
