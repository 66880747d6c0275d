-- The values so far.
use Rattle.std.proofs.Common.{◌≡◌, ◌++◌, take}
use Rattle.std.specs.List.{flat_map}
use Rattle.ts_wire.specs.Fields.{val_bytes}
use Rattle.ts_plain.proofs.writing.write_row.Given as goal

abbrev pub invariant-loop-val : goal.invariant-loop-val
invariant-loop-val l = l.scribe ≡ l.fn.scribe ++ flat_map val_bytes (take l.val-index l.row)
