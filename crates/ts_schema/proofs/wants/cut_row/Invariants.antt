-- The values of the places so far.
use Rattle.std.proofs.Common.{◌≡◌, take}
use Rattle.ts_schema.specs.Wants.{cut_row}
use Rattle.ts_schema.proofs.wants.cut_row.Given as goal

abbrev pub invariant-loop-place : goal.invariant-loop-place
invariant-loop-place l = l.cut ≡ cut_row (take l.place-index l.attrs) l.row
