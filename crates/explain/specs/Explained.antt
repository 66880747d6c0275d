-- What is said of a script: nothing where it is one, and else which line is no command.
use Rattle.std.specs.Prelude.{◌≡◌, List, Option, Some, None, Result, Ok, Err, ⊤}
use Rattle.ts_base.specs.declared.lists.OutOfMemory.{OutOfMemory}
use Rattle.ts_model.specs.declared.commands.Line.{Line}
use Rattle.ts_script.specs.Script.{Fault, Bad}
use Rattle.explain.specs.declared.explained.Explained.{Explained}

-- nothing is said exactly of a script, and of other bytes the line that the reader of scripts calls bad; or there was no memory
abbrev pub Explains : Result (Option Explained) OutOfMemory → Result (List Line) Fault → Type 0
Explains (Ok None) script = (lines : List Line) × (script ≡ Ok lines)
Explains (Ok (Some said)) script = script ≡ Err (Bad said.line)
Explains (Err e) script = ⊤
