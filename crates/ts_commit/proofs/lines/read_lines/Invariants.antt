-- The names that were read, and those that are still to be read, are all of them.
use Rattle.std.proofs.Common.{◌≡◌, ◌-◌, []}
use Rattle.ts_wire.specs.Place.{items_at}
use Rattle.ts_wire.proofs.Loop.{with_front}
use Rattle.ts_commit.specs.Vacs.{line_at}
use Rattle.ts_commit.proofs.lines.read_lines.Given as goal

abbrev pub invariant-loop-place : goal.invariant-loop-place
invariant-loop-place l = with_front l.names (items_at line_at (l.count - l.place) l.names l.cursor) ≡ items_at line_at l.count [] l.fn.cursor
