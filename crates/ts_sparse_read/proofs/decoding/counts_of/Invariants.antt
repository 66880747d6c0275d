-- The counts so far.
use Rattle.std.proofs.Common.{◌≡◌, take}
use Rattle.ts_sparse_read.specs.Decoded.{counts_of}
use Rattle.ts_sparse_read.proofs.decoding.counts_of.Given as goal

abbrev pub invariant-loop-tile : goal.invariant-loop-tile
invariant-loop-tile l = l.counts ≡ counts_of (take l.tile-index l.tiles)
