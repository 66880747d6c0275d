-- The strips so far have the versions of the batches so far.
use Rattle.std.proofs.Common.{◌≡◌, take}
use Rattle.std.specs.List.{All, flat_map}
use Rattle.ts_batch.specs.Batches.{versions_of}
use Rattle.ts_domain.specs.Boxes.{coords_of_box}
use Rattle.ts_strip.specs.Strips.{strip_versions, IsStrip}
use Rattle.ts_strip.proofs.strips.strips_of.Given as goal

abbrev pub invariant-loop-batch : goal.invariant-loop-batch
invariant-loop-batch l =
    All (IsStrip l.batches (coords_of_box l.sub)) l.strips.items
    × (flat_map (strip_versions l.batches) l.strips.items ≡ versions_of (take l.batch l.batches))
