-- The tiles at the places so far.
use Rattle.std.proofs.Common.{◌≡◌, map, take}
use Rattle.ts_sparse_read.specs.Fits.{tile_over}
use Rattle.ts_sparse_read.proofs.tiles.lay_tiles.Given as goal

abbrev pub invariant-loop-place : goal.invariant-loop-place
invariant-loop-place l = l.tiles ≡ map (tile_over l.tile l.cells l.leaves l.used) (take l.place-index l.places)
