-- The counts so far.
use Rattle.std.proofs.Common.{◌≡◌, take, map}
use Rattle.ts_domain.specs.Boxes.{cells_of}
use Rattle.ts_dense.proofs.slots.counts_of.Given as goal

abbrev pub invariant-loop-tile : goal.invariant-loop-tile
invariant-loop-tile l = l.counts ≡ map cells_of (take l.tile-index l.tiles)
