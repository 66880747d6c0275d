-- The attributes that were read, and those that are still to be read, are all of them.
use Rattle.std.proofs.Common.{◌≡◌, ◌-◌, []}
use Rattle.ts_wire.specs.Place.{items_at}
use Rattle.ts_wire.proofs.Loop.{with_front}
use Rattle.ts_schema.specs.SchemaTexts.{attr_at}
use Rattle.ts_schema.proofs.schema_reading.read_counted_attrs.Given as goal

abbrev pub invariant-loop-place : goal.invariant-loop-place
invariant-loop-place l = with_front l.attrs (items_at attr_at (l.count - l.place) l.attrs l.cursor) ≡ items_at attr_at l.count [] l.fn.cursor
