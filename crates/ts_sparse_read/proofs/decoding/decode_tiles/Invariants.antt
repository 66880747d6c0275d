-- The columns of each tile so far.
use Rattle.ts_sparse_read.proofs.DecodeSteps.{Decoding}
use Rattle.ts_sparse_read.proofs.decoding.decode_tiles.Given as goal

abbrev pub invariant-loop-place : goal.invariant-loop-place
invariant-loop-place g l = Decoding l.places l.attrs l.place l.tiles l.got l.lists.items
