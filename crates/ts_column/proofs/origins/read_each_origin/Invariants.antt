-- The origins that were read, and those that are still to be read, are all of them.
use Rattle.std.proofs.Common.{◌≡◌, ◌-◌, []}
use Rattle.ts_wire.specs.Place.{items_at}
use Rattle.ts_wire.proofs.Loop.{with_front}
use Rattle.ts_column.specs.Origins.{origin_at}
use Rattle.ts_column.proofs.origins.read_each_origin.Given as goal

abbrev pub invariant-loop-place : goal.invariant-loop-place
invariant-loop-place l =
    with_front l.origins (items_at (λ _. origin_at l.entries) (l.count - l.place) l.origins l.cursor) ≡ items_at (λ _. origin_at l.entries) l.count [] l.fn.cursor
