-- The calls so far.
use Rattle.std.proofs.Common.{◌≡◌, ◌++◌, take}
use Rattle.std.specs.List.{flat_map}
use Rattle.ts_sparse_read.specs.Opens.{tile_calls}
use Rattle.ts_sparse_read.proofs.planning.push_tiles.Given as goal

abbrev pub invariant-loop-tile : goal.invariant-loop-tile
invariant-loop-tile l = l.plan.items ≡ l.fn.plan.items ++ flat_map tile_calls (take l.tile-index l.tiles)
