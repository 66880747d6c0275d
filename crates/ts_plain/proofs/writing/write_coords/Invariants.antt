-- The coordinates so far.
use Rattle.std.proofs.Common.{◌≡◌, ◌++◌, take}
use Rattle.std.specs.List.{flat_map}
use Rattle.ts_wire.specs.Numbers.{int_bytes}
use Rattle.ts_plain.proofs.writing.write_coords.Given as goal

abbrev pub invariant-loop-x : goal.invariant-loop-x
invariant-loop-x l = l.scribe ≡ l.fn.scribe ++ flat_map (int_bytes 16) (take l.x-index l.coords)
