-- The byte lists so far.
use Rattle.std.proofs.Common.{◌≡◌, take, map}
use Rattle.ts_column.specs.Spelled.{text_of}
use Rattle.ts_sparse.specs.Laying.{values_along}
use Rattle.ts_piece.specs.Spots.{spotted}
use Rattle.ts_sparse.proofs.columns.texts_of.Given as goal

abbrev pub invariant-loop-spot : goal.invariant-loop-spot
invariant-loop-spot l = l.texts ≡ map text_of (values_along l.attr (spotted l.batches (take l.spot-index l.spots)))
