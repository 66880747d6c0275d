-- The values that were read, and those that are still to be read, are all of them.
use Rattle.std.proofs.Common.{◌≡◌, drop, length}
use Rattle.ts_wire.specs.Place.{each_at}
use Rattle.ts_wire.proofs.Loop.{with_front}
use Rattle.ts_column.specs.Stored.{stored_vals, kinds_vals}
use Rattle.ts_column.specs.Tiles.{cell_at}
use Rattle.ts_column.proofs.stored.read_each_kind.Given as goal

abbrev pub invariant-loop-place : goal.invariant-loop-place
invariant-loop-place l =
    record {
      reads : with_front (kinds_vals l.stored l.kinds) (each_at cell_at (drop l.place (stored_vals l.stored)) l.cursor) ≡ each_at cell_at (stored_vals l.stored) l.fn.cursor;
      many : length l.kinds ≡ l.place;
    }
