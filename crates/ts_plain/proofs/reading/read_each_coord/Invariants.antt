-- The coordinates that were read, and those that are still to be read, are all of them.
use Rattle.std.proofs.Common.{◌≡◌, drop, length}
use Rattle.ts_wire.specs.Place.{each_at}
use Rattle.ts_wire.proofs.Loop.{with_front}
use Rattle.ts_plain.specs.Plain.{coord_at}
use Rattle.ts_plain.proofs.reading.read_each_coord.Given as goal

abbrev pub invariant-loop-side : goal.invariant-loop-side
invariant-loop-side l = (length l.numbers.items ≡ l.side-index) × (with_front l.numbers.items (each_at coord_at (drop l.side-index l.hull) l.cursor) ≡ each_at coord_at l.hull l.fn.cursor)
