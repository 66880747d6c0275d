-- The columns so far.
use Rattle.std.proofs.Common.{◌≡◌, map, pos, take}
use Rattle.ts_gather.specs.Rows.{at_rows}
use Rattle.ts_gather.proofs.rows.gathered_coords.Given as goal

abbrev pub invariant-loop-dim : goal.invariant-loop-dim
invariant-loop-dim l = l.dims.items ≡ map (at_rows (pos 0) l.rows) (take l.dim l.coords)
