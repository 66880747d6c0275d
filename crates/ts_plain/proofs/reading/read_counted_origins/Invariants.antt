-- The origins that were read, and those that are still to be read, are all of them.
use Rattle.std.proofs.Common.{◌≡◌, ◌-◌, [], length}
use Rattle.ts_wire.specs.Place.{items_at}
use Rattle.ts_wire.proofs.Loop.{with_front}
use Rattle.ts_plain.specs.Plain.{origin_at}
use Rattle.ts_plain.proofs.reading.read_counted_origins.Given as goal

abbrev pub invariant-loop-place : goal.invariant-loop-place
invariant-loop-place l =
    let read = origin_at l.frag l.consolidated l.count in
    (length l.origins ≡ l.place) × (with_front l.origins (items_at read (l.count - l.place) l.origins l.cursor) ≡ items_at read l.count [] l.fn.cursor)
