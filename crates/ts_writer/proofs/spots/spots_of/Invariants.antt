-- The spots of the space tiles so far.
use Rattle.std.proofs.Common.{◌≡◌, take}
use Rattle.std.specs.List.{flat_map}
use Rattle.ts_order.specs.Tiles.{tiles_in}
use Rattle.ts_writer.specs.Spots.{spots_in}
use Rattle.ts_writer.proofs.spots.spots_of.Given as goal

abbrev pub invariant-loop-tile : goal.invariant-loop-tile
invariant-loop-tile l = l.spots.items ≡ flat_map (spots_in l.layout l.sub l.frame.cell) (take l.tile-index (tiles_in l.frame.domain l.frame.tile l.sub))
