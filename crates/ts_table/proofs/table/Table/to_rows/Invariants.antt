-- The versions so far.
use Rattle.std.proofs.Common.{◌≡◌, take}
use Rattle.ts_table.proofs.table.Table.to_rows.Given as goal

abbrev pub invariant-loop-place : goal.invariant-loop-place
invariant-loop-place l = l.list ≡ take l.place l.self
