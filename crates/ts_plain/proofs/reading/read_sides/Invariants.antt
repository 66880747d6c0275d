-- The sides that were read, and those that are still to be read, are all of them.
use Rattle.std.proofs.Common.{◌≡◌, drop}
use Rattle.ts_wire.specs.Place.{each_at}
use Rattle.ts_wire.proofs.Loop.{with_front}
use Rattle.ts_plain.specs.Plain.{side_at}
use Rattle.ts_plain.proofs.reading.read_sides.Given as goal

abbrev pub invariant-loop-dim : goal.invariant-loop-dim
invariant-loop-dim l = with_front l.hull (each_at side_at (drop l.dim-index l.dims) l.cursor) ≡ each_at side_at l.dims l.fn.cursor
