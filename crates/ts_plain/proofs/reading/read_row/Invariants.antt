-- The values that were read, and those that are still to be read, are all of them.
use Rattle.std.proofs.Common.{◌≡◌, drop}
use Rattle.ts_wire.specs.Place.{each_at}
use Rattle.ts_wire.proofs.Loop.{with_front}
use Rattle.ts_plain.specs.Plain.{value_at}
use Rattle.ts_plain.proofs.reading.read_row.Given as goal

abbrev pub invariant-loop-attr : goal.invariant-loop-attr
invariant-loop-attr l = with_front l.row (each_at value_at (drop l.attr-index l.attrs) l.cursor) ≡ each_at value_at l.attrs l.fn.cursor
