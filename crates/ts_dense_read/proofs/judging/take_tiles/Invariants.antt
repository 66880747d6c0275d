-- What was taken so far, and behind it what is taken of the tiles that are left, is what is taken of all.
use Rattle.std.proofs.Common.{◌≤◌, length, drop}
use Rattle.ts_sparse_read.specs.Decoded.{AreDecoded}
use Rattle.ts_dense_read.proofs.TileTakes.{Walking}
use Rattle.ts_dense_read.proofs.judging.take_tiles.Given as goal

abbrev pub invariant-loop-tile : goal.invariant-loop-tile
invariant-loop-tile g l = record {
  within : l.next ≤ length l.got;
  taken : Walking l.opened l.got l.found l.tile-index l.next;
  decoded : AreDecoded l.opened.want.attrs l.opened.attrs (drop l.tile-index l.opened.tiles) (drop l.next l.got) l.decoded.items;
}
