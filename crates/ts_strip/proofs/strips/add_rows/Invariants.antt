-- The strips so far have the versions up to the place.
use Rattle.std.proofs.Common.{◌≡◌, ◌*◌, ◌++◌, [], get_or, take}
use Rattle.std.specs.List.{All, flat_map}
use Rattle.ts_domain.specs.Boxes.{coords_of_box}
use Rattle.ts_strip.specs.Strips.{strip_versions, IsStrip}
use Rattle.ts_strip.proofs.strips.add_rows.Given as goal

abbrev pub invariant-loop-start : goal.invariant-loop-start
invariant-loop-start l =
    All (IsStrip l.batches (coords_of_box l.sub)) l.strips.items
    × (flat_map (strip_versions l.batches) l.strips.items ≡ flat_map (strip_versions l.batches) l.initial.strips.items ++ take l.place (get_or l.batches l.batch []))
    × (l.place ≡ l.start-index * l.count)
