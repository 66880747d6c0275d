-- The marks so far.
use Rattle.std.proofs.Common.{◌≡◌, take, map}
use Rattle.std.specs.List.{flat_map}
use Rattle.ts_wire.specs.Fields.{bool_bytes}
use Rattle.ts_column.specs.Tiles.{is_there}
use Rattle.ts_sparse.specs.Laying.{values_along}
use Rattle.ts_piece.specs.Spots.{spotted}
use Rattle.ts_sparse.proofs.columns.validity_object.Given as goal

abbrev pub invariant-loop-spot : goal.invariant-loop-spot
invariant-loop-spot l = l.scribe ≡ flat_map bool_bytes (map is_there (values_along l.attr (spotted l.batches (take l.spot-index l.spots))))
