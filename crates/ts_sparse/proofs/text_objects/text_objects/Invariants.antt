-- The byte lists so far.
use Rattle.std.proofs.Common.{take, map}
use Rattle.ts_column.specs.Spelled.{text_of}
use Rattle.ts_sparse.specs.Laying.{values_along}
use Rattle.ts_sparse.specs.TextObjects.{HasWritten}
use Rattle.ts_piece.specs.Spots.{spotted}
use Rattle.ts_sparse.proofs.text_objects.text_objects.Given as goal

abbrev pub invariant-loop-spot : goal.invariant-loop-spot
invariant-loop-spot l = HasWritten l.tile (map text_of (values_along l.attr (spotted l.batches (take l.spot-index l.spots)))) l.scribe
