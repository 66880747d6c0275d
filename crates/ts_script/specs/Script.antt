-- Scripts: bytes, line by line.
use Rattle.std.specs.Prelude.{◌≡◌, ℕ, ◌+◌, ◌^◌, ◌≤◌, All, List, [], ◌∷◌, ◌++◌, length, take, Bool, ◌||◌, ◌==◌, nat_lt, if◌then◌else◌, Option, None, Result, Ok, Err}
use Rattle.std.specs.List.{list_all}
use Rattle.std.specs.Option.{ok_or}
use Rattle.std.specs.Str.{is_utf8}
use Rattle.serde_json.specs.Data.{Data}
use Rattle.serde_json.specs.Read.{read}
use Rattle.ts_model.specs.declared.commands.Line.{Line}
use Rattle.ts_model.specs.Jobs.{IsFitLine}
use Rattle.ts_model.specs.declared.commands.Command.{Command}
use Rattle.ts_model.specs.Commands.{fits}
use Rattle.ts_script.specs.declared.words.ObjectForm.{ObjectForm}
use Rattle.ts_script.specs.Shapes.{◌>>=◌, when}
use Rattle.ts_script.specs.Parts.{parts_at}
use Rattle.ts_script.specs.Lines.{form_of, line_of}
use Rattle.ts_script.specs.declared.script.ScriptFault.{ScriptFault}
use Rattle.ts_script.specs.declared.script.ScriptFault.TheVariants as fault

-- why bytes are no script: the number of the first line that is no command, or that goes past a limit
pub data Fault : Type 0 where
  Bad : ℕ → Fault

-- the first answer, and then what follows from it
infixl 10 ◌then◌
abbrev pub ◌then◌ : {A B : Type 0} → Result A Fault → (A → Result B Fault) → Result B Fault
(Ok x) then f = f x
(Err e) then f = Err e

-- how many bytes a script may have
abbrev pub byte_limit : ℕ
byte_limit = 2 ^ 26

-- how many commands a script may have
abbrev pub command_limit : ℕ
command_limit = 4096

-- a line of spaces and tabs alone
abbrev pub is_blank : List ℕ → Bool
is_blank bytes = list_all (λ b. b == 32 || b == 9) bytes

-- the JSON value that bytes are, where they are UTF-8
unfoldable pub json_of : List ℕ → Option Data
json_of bytes = if is_utf8 bytes then read bytes else None

-- the line that bytes stand for
unfoldable pub line_in : List ℕ → Option Line
line_in bytes = json_of bytes >>= line_of

-- the line that the bytes of line n stand for, or that it is bad
unfoldable pub line_at : ℕ → List ℕ → Result Line Fault
line_at n bytes = ok_or (line_in bytes) (Bad n)

-- the lines before line n, and what its bytes stand for
unfoldable pub with_line : ℕ → List Line → List ℕ → Result (List Line) Fault
with_line n lines bytes =
    if is_blank bytes then Ok lines
    else (if length lines == command_limit then Err (Bad n)
    else (line_at n bytes then λ line. Ok (lines ++ line ∷ [])))

-- the lines before line n, and those from it on; where the input goes past its limit, the last is bad
abbrev pub script_from : Bool → ℕ → List Line → List (List ℕ) → Result (List Line) Fault
script_from past n lines [] = Ok lines
script_from past n lines (bytes ∷ []) = if past then Err (Bad n) else with_line n lines bytes
script_from past n lines (bytes ∷ next ∷ rest) = with_line n lines bytes then λ more. script_from past (n + 1) more (next ∷ rest)

-- the pieces between the line feeds
abbrev pub pieces_of : List ℕ → List (List ℕ)
pieces_of bytes = parts_at 10 bytes

-- the script that the bytes are, where at most so many are allowed
unfoldable pub script_within : ℕ → List ℕ → Result (List Line) Fault
script_within limit input = script_from (nat_lt limit (length input)) 1 [] (pieces_of (take limit input))

-- the script that the bytes are, or the first line that is none
unfoldable pub script_of : List ℕ → Result (List Line) Fault
script_of input = script_within byte_limit input

-- the command that the object of an input stands for, in this form
unfoldable pub object_command : ObjectForm → List ℕ → Option Command
object_command form input = do
  d ← json_of input
  command ← form_of form d
  when (fits command) command

-- the command of an input, or bad line 1 where the input is too long or no object of the form
unfoldable pub object_in : ObjectForm → List ℕ → Result Command Fault
object_in form input = if nat_lt byte_limit (length input) then Err (Bad 1) else ok_or (object_command form input) (Bad 1)

-- what a reader answered is what the bytes are, unless there was no memory
abbrev pub IsScript : {A : Type 0} → Result A ScriptFault → Result A Fault → Type 0
IsScript (Ok x) said = said ≡ Ok x
IsScript (Err (fault.Bad n)) said = said ≡ Err (Bad n)
IsScript (Err fault.OutOfMemory) said = Unit {0}

-- the lines of a script are no more than it may have, and their numbers have their widths
pub record AreLimited (lines : List Line) : Type 0 where
  pub few : length lines ≤ command_limit
  pub fit : All IsFitLine lines
