-- The places from here on.
use Rattle.std.proofs.Common.{◌≡◌, ◌≤◌, ◌-◌, length}
use Rattle.std.specs.List.{range_with_len}
use Rattle.ts_select.specs.Places.{placed_behind}
use Rattle.ts_select.proofs.places.placed.Given as goal

abbrev pub invariant-loop-left : goal.invariant-loop-left
invariant-loop-left l =
    (l.left ≤ length l.cells) × (l.placed.entries ≡ placed_behind l.frame l.ready l.picks l.cells (range_with_len l.left (length l.cells - l.left)))

abbrev pub decreases-loop-left : goal.decreases-loop-left
decreases-loop-left l = l.left
