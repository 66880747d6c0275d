-- The fields that were read, and those that are still to be read, are all of them.
use Rattle.std.proofs.Common.{◌≡◌, ◌-◌, []}
use Rattle.ts_wire.specs.Place.{items_at}
use Rattle.ts_wire.proofs.Loop.{with_front}
use Rattle.ts_cond.specs.CondTexts.{field_at}
use Rattle.ts_cond.proofs.field_reading.read_counted_fields.Given as goal

abbrev pub invariant-loop-place : goal.invariant-loop-place
invariant-loop-place l = with_front l.fields (items_at field_at (l.count - l.place) l.fields l.cursor) ≡ items_at field_at l.count [] l.fn.cursor
