-- What is sought is not among the coordinates before.
use Rattle.std.proofs.Common.{◌≡◌, drop}
use Rattle.std.specs.List.{position_from}
use Rattle.ts_column.specs.Coords.{is_out}
use Rattle.ts_column.proofs.coords.outside.Given as goal

abbrev pub invariant-loop-place : goal.invariant-loop-place
invariant-loop-place l = position_from (is_out l.low l.high) l.place (drop l.place l.coords) ≡ position_from (is_out l.low l.high) 0 l.coords
