-- The values that were read, and those that are still to be read, are all of them; and there are few.
use Rattle.std.proofs.Common.{◌≡◌, ◌≤◌, ◌+◌, ◌-◌, [], length, slice_get}
use Rattle.ts_wire.specs.Place.{items_at}
use Rattle.ts_wire.proofs.Loop.{with_front}
use Rattle.ts_cond.specs.CondTexts.{member_at}
use Rattle.ts_cond.proofs.tree_reading.read_counted_members.Given as goal

abbrev pub invariant-loop-place : goal.invariant-loop-place
invariant-loop-place l =
    (with_front l.vals (items_at (member_at (slice_get l.fields l.field) l.nodes) (l.count - l.place) l.vals l.cursor) ≡ items_at (member_at (slice_get l.fields l.field) l.nodes) l.count [] l.fn.cursor)
    × (l.nodes + length l.vals ≤ 1024)
