-- The places so far.
use Rattle.std.proofs.Common.{◌≡◌, take}
use Rattle.std.specs.List.{flat_map}
use Rattle.ts_wire.specs.Numbers.{number_bytes}
use Rattle.ts_dense.specs.Laying.{origins_along}
use Rattle.ts_dense.proofs.columns.holed_origins.Given as goal

abbrev pub invariant-loop-slot : goal.invariant-loop-slot
invariant-loop-slot l = l.scribe ≡ flat_map (number_bytes 4) (origins_along l.origins (take l.slot-index l.slots))
