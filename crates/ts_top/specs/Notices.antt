-- The lines that are printed in place of answers.
use Rattle.std.specs.Prelude.{ℕ, List, ◌++◌, codes, decimal}

-- how the program is called
abbrev pub usage_text : List ℕ
usage_text = codes "usage: tilestore STORE COMMAND [OPTIONS]\n"

-- a line of the script is none
abbrev pub bad_script_text : ℕ → List ℕ
bad_script_text line = codes "bad script\t" ++ decimal line ++ codes "\n"
