-- The dimensions that were read, and those that are still to be read, are all of them.
use Rattle.std.proofs.Common.{◌≡◌, ◌-◌, [], length}
use Rattle.ts_wire.specs.Place.{items_at}
use Rattle.ts_wire.proofs.Loop.{with_front}
use Rattle.ts_schema.specs.FrameTexts.{dim_at}
use Rattle.ts_schema.proofs.frame_reading.read_counted_dims.Given as goal

abbrev pub invariant-loop-place : goal.invariant-loop-place
invariant-loop-place l = (length l.domain ≡ l.place) × (with_front l.domain (items_at dim_at (l.count - l.place) l.domain l.cursor) ≡ items_at dim_at l.count [] l.fn.cursor)
