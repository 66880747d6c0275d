-- The sides so far.
use Rattle.std.proofs.Common.{◌≡◌, ◌++◌, take}
use Rattle.std.specs.List.{flat_map}
use Rattle.ts_plain.specs.Plain.{side_bytes}
use Rattle.ts_plain.specs.Writes.{sides_of}
use Rattle.ts_plain.proofs.writing.write_hull.Given as goal

abbrev pub invariant-loop-dim : goal.invariant-loop-dim
invariant-loop-dim l = l.scribe ≡ l.fn.scribe ++ flat_map side_bytes (take l.dim (sides_of l.low l.high))
