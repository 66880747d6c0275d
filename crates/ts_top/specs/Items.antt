-- The lines of a script as the program orders them.
use Rattle.std.specs.Prelude.{ℕ, ◌+◌, List, [], ◌∷◌, max, map as list_map}
use Rattle.ts_model.specs.declared.commands.Line.{Line}
use Rattle.ts_law.specs.Fresh.{Numbered}
use Rattle.ts_top.specs.declared.item.Item.{Item}

-- a line with its number
abbrev pub numbered_line : Item → Numbered
numbered_line item = record { number = item.number; line = item.line.value }

-- the lines with their numbers
abbrev pub numbered : List Item → List Numbered
numbered items = list_map numbered_line items

-- how many lanes there are up to the highest that has a line
abbrev pub lanes_in : List Line → ℕ
lanes_in [] = 0
lanes_in (line ∷ lines) = max (line.lane + 1) (lanes_in lines)
