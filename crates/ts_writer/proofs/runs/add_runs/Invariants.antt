-- The spots of the runs so far.
use Rattle.std.proofs.Common.{◌≡◌, ◌*◌, ◌++◌, map, take}
use Rattle.ts_order.specs.Orders.{coords_in_order}
use Rattle.ts_writer.specs.Spots.{spot_in}
use Rattle.ts_writer.proofs.runs.add_runs.Given as goal

abbrev pub invariant-loop-from : goal.invariant-loop-from
invariant-loop-from l = l.spots.items ≡ l.initial.spots.items ++ map (spot_in l.fn.layout l.sub) (take (l.from-index * l.run) (coords_in_order l.fn.layout l.tile))
