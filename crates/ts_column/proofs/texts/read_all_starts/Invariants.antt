-- The starts that were read, and those that are still to be read, are all of them.
use Rattle.std.proofs.Common.{◌≡◌, ◌-◌, []}
use Rattle.ts_wire.specs.Place.{items_at}
use Rattle.ts_wire.proofs.Loop.{with_front}
use Rattle.ts_column.specs.Tiles.{start_at}
use Rattle.ts_column.specs.Starts.{AreStarts}
use Rattle.ts_column.proofs.texts.read_all_starts.Given as goal

abbrev pub invariant-loop-place : goal.invariant-loop-place
invariant-loop-place l =
    (with_front l.starts (items_at (start_at l.end) (l.count - l.place) l.starts l.cursor) ≡ items_at (start_at l.end) l.count [] l.fn.cursor) × AreStarts l.starts l.end l.place
