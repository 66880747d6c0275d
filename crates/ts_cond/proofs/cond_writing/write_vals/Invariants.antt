-- The count, and the values so far.
use Rattle.std.proofs.Common.{◌≡◌, ◌++◌, length, take}
use Rattle.std.specs.List.{flat_map}
use Rattle.ts_wire.specs.Fields.{val_bytes}
use Rattle.ts_wire.specs.Numbers.{number_bytes}
use Rattle.ts_cond.proofs.cond_writing.write_vals.Given as goal

abbrev pub invariant-loop-val : goal.invariant-loop-val
invariant-loop-val l = l.scribe ≡ l.fn.scribe ++ (number_bytes 2 (length l.vals) ++ flat_map val_bytes (take l.val-index l.vals))
