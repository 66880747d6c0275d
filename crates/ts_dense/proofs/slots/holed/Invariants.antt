-- The slots so far, and those of the tiles that are left.
use Rattle.ts_piece.specs.Spots.{spotted}
use Rattle.ts_dense.proofs.FillLaws.{Placing}
use Rattle.ts_dense.proofs.slots.holed.Given as goal

abbrev pub invariant-loop-tile : goal.invariant-loop-tile
invariant-loop-tile l = Placing l.order l.tiles (spotted l.batches l.spots) l.slots.items l.next l.tile-index
