-- The count, and the origins so far.
use Rattle.std.proofs.Common.{◌≡◌, ◌++◌, length, take}
use Rattle.std.specs.List.{flat_map}
use Rattle.ts_wire.specs.Numbers.{number_bytes}
use Rattle.ts_wire.specs.Fields.{key_bytes}
use Rattle.ts_plain.proofs.writing.write_origins.Given as goal

abbrev pub invariant-loop-origin : goal.invariant-loop-origin
invariant-loop-origin l = l.scribe ≡ l.fn.scribe ++ (number_bytes 4 (length l.origins) ++ flat_map key_bytes (take l.origin-index l.origins))
