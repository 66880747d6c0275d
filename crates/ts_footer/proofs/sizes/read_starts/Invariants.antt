use Rattle.std.proofs.Common.{◌≡◌, ◌-◌, []}
use Rattle.ts_wire.specs.Place.{items_at}
use Rattle.ts_wire.proofs.Loop.{with_front}
use Rattle.ts_footer.specs.Columns.{start_at}
use Rattle.ts_footer.proofs.sizes.read_starts.Given as goal

-- the starts that were read, and those that are still to be read, are all of them
abbrev pub invariant-loop-tile : goal.invariant-loop-tile
invariant-loop-tile l =
    with_front l.starts (items_at (start_at l.end) (l.tiles - l.tile) l.starts l.cursor) ≡ items_at (start_at l.end) l.tiles [] l.fn.cursor
