-- The marks so far.
use Rattle.std.proofs.Common.{◌≡◌, take, map}
use Rattle.std.specs.List.{flat_map}
use Rattle.ts_wire.specs.Fields.{bool_bytes}
use Rattle.ts_column.specs.Tiles.{is_there}
use Rattle.ts_column.proofs.words.write_marks.Given as goal

abbrev pub invariant-loop-place : goal.invariant-loop-place
invariant-loop-place l = l.marks.items ≡ flat_map bool_bytes (map is_there (take l.place l.column))
