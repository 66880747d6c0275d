-- The tiles so far, and those that are left.
use Rattle.std.proofs.Common.{◌≡◌, ◌≤◌, ◌++◌, length, drop}
use Rattle.ts_sparse_read.specs.Decoded.{attr_tiles}
use Rattle.ts_sparse_read.proofs.decoding.attr_tiles.Given as goal

abbrev pub invariant-loop-tile : goal.invariant-loop-tile
invariant-loop-tile l = record {
  within : l.next ≤ length l.got;
  laid : l.parts ++ attr_tiles l.place (drop l.tile-index l.tiles) (drop l.next l.got) ≡ attr_tiles l.place l.tiles l.got;
}
