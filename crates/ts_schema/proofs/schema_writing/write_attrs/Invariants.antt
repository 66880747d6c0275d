-- The count, and the attributes so far.
use Rattle.std.proofs.Common.{◌≡◌, ◌++◌, length, take}
use Rattle.std.specs.List.{flat_map}
use Rattle.ts_wire.specs.Numbers.{number_bytes}
use Rattle.ts_schema.specs.SchemaTexts.{attr_bytes}
use Rattle.ts_schema.proofs.schema_writing.write_attrs.Given as goal

abbrev pub invariant-loop-attr : goal.invariant-loop-attr
invariant-loop-attr l = l.scribe ≡ l.fn.scribe ++ (number_bytes 1 (length l.attrs) ++ flat_map attr_bytes (take l.attr-index l.attrs))
