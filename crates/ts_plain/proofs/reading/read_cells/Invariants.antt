-- The cells that were read, which lie in the domain, and those that are still to be read, are all of them.
use Rattle.std.proofs.Common.{◌≡◌, ◌-◌, []}
use Rattle.std.specs.List.{All}
use Rattle.ts_wire.specs.Place.{items_at}
use Rattle.ts_wire.proofs.Loop.{with_front}
use Rattle.ts_plain.specs.Plain.{cell_at}
use Rattle.ts_plain.specs.Insides.{IsInside}
use Rattle.ts_plain.proofs.reading.read_cells.Given as goal

abbrev pub invariant-loop-place : goal.invariant-loop-place
invariant-loop-place l =
    let read = cell_at l.frame l.attrs l.head in
    All (IsInside l.frame) l.cells × (with_front l.cells (items_at read (l.count - l.place) l.cells l.cursor) ≡ items_at read l.count [] l.fn.cursor)
