use Rattle.std.proofs.Common.{◌≡◌, ◌++◌, take}
use Rattle.ts_batch.proofs.batches.add_cells.Given as goal

-- the versions so far
abbrev pub invariant-loop-place : goal.invariant-loop-place
invariant-loop-place l = l.list ≡ l.initial.list ++ take l.place l.batch
