-- The marks so far.
use Rattle.std.proofs.Common.{◌≡◌, take, map}
use Rattle.std.specs.List.{flat_map}
use Rattle.ts_wire.specs.Fields.{bool_bytes}
use Rattle.ts_column.specs.Tiles.{is_there}
use Rattle.ts_dense.specs.Laying.{values_along}
use Rattle.ts_dense.proofs.columns.holed_validity.Given as goal

abbrev pub invariant-loop-slot : goal.invariant-loop-slot
invariant-loop-slot l = l.scribe ≡ flat_map bool_bytes (map is_there (values_along l.attr (take l.slot-index l.slots)))
