-- The count, and the fields so far.
use Rattle.std.proofs.Common.{◌≡◌, ◌++◌, length, take}
use Rattle.std.specs.List.{flat_map}
use Rattle.ts_wire.specs.Numbers.{number_bytes}
use Rattle.ts_cond.specs.CondTexts.{field_bytes}
use Rattle.ts_cond.proofs.cond_writing.write_fields.Given as goal

abbrev pub invariant-loop-field : goal.invariant-loop-field
invariant-loop-field l = l.scribe ≡ l.fn.scribe ++ (number_bytes 1 (length l.fields) ++ flat_map field_bytes (take l.field-index l.fields))
