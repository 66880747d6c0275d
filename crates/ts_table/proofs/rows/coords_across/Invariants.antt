-- The coordinates so far.
use Rattle.std.proofs.Common.{◌≡◌, length, take}
use Rattle.ts_table.specs.Tables.{across}
use Rattle.ts_table.proofs.rows.coords_across.Given as goal

abbrev pub invariant-loop-dim : goal.invariant-loop-dim
invariant-loop-dim l = (length l.numbers ≡ 8) × (take l.dim l.numbers ≡ take l.dim (across l.place l.dims))
