-- What a store holds.
use Rattle.std.specs.Prelude.{ℕ, List}
use Rattle.std.specs.Coded.{Coded, coded_list, coded_ℕ}
use Rattle.std.specs.FinMap as map
use Rattle.ts_base.specs.contracts.names.Name as name
use Rattle.ts_base.specs.Names.{name_cmp}

-- the bytes of each name that is held
abbrev pub Held : Type 0
Held = map.FinMap name_cmp (List ℕ)

abbrev pub held_code : Coded Held
held_code = map.code (name.the_row.coded) (coded_list coded_ℕ)
