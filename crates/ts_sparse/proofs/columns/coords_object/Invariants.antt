-- The coordinates so far.
use Rattle.std.proofs.Common.{◌≡◌, take}
use Rattle.std.specs.List.{flat_map}
use Rattle.ts_base.specs.Values.{width_of}
use Rattle.ts_wire.specs.Numbers.{int_bytes}
use Rattle.ts_sparse.specs.Laying.{coords_along}
use Rattle.ts_piece.specs.Spots.{spotted}
use Rattle.ts_sparse.proofs.columns.coords_object.Given as goal

abbrev pub invariant-loop-spot : goal.invariant-loop-spot
invariant-loop-spot l = l.scribe ≡ flat_map (int_bytes (width_of l.ty)) (coords_along l.dim (spotted l.batches (take l.spot-index l.spots)))
