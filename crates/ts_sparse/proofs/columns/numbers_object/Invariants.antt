-- The integers so far.
use Rattle.std.proofs.Common.{◌≡◌, take, map}
use Rattle.std.specs.List.{flat_map}
use Rattle.ts_base.specs.Values.{width_of}
use Rattle.ts_wire.specs.Numbers.{int_bytes}
use Rattle.ts_column.specs.Spelled.{number_of}
use Rattle.ts_sparse.specs.Laying.{values_along}
use Rattle.ts_piece.specs.Spots.{spotted}
use Rattle.ts_sparse.proofs.columns.numbers_object.Given as goal

abbrev pub invariant-loop-spot : goal.invariant-loop-spot
invariant-loop-spot l = l.scribe ≡ flat_map (int_bytes (width_of l.ty)) (map number_of (values_along l.attr (spotted l.batches (take l.spot-index l.spots))))
