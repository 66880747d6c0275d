use Rattle.std.proofs.Common.{◌≡◌, ◌++◌, ◌≤◌, ◌+◌, ◌-◌, take, drop}
use Rattle.ts_domain.specs.Rects.{places_from}
use Rattle.ts_rtree.proofs.searching.look_through.Given as goal

abbrev pub invariant-loop-place : goal.invariant-loop-place
invariant-loop-place l =
    (l.found ≡ l.fn.found ++ places_from l.sub l.first (take (l.place - l.first) (drop (l.start + l.first) l.fn.table.boxes)))
    × (l.table.boxes ≡ l.fn.table.boxes) × (l.table.looks ≤ l.fn.table.looks + (l.place - l.first)) × (l.place - l.first ≤ l.end - l.first)
