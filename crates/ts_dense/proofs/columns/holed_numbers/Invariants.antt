-- The integers so far.
use Rattle.std.proofs.Common.{◌≡◌, take, map}
use Rattle.std.specs.List.{flat_map}
use Rattle.ts_base.specs.Values.{width_of}
use Rattle.ts_wire.specs.Numbers.{int_bytes}
use Rattle.ts_column.specs.Spelled.{number_of}
use Rattle.ts_dense.specs.Laying.{values_along}
use Rattle.ts_dense.proofs.columns.holed_numbers.Given as goal

abbrev pub invariant-loop-slot : goal.invariant-loop-slot
invariant-loop-slot l = l.scribe ≡ flat_map (int_bytes (width_of l.ty)) (map number_of (values_along l.attr (take l.slot-index l.slots)))
