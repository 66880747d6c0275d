-- The newest of the versions of the strips so far.
use Rattle.std.proofs.Common.{◌≡◌, take}
use Rattle.std.specs.FinMap as map
use Rattle.std.specs.List.{flat_map}
use Rattle.ts_model.specs.Pieces.{newest_after}
use Rattle.ts_strip.specs.Strips.{strip_versions}
use Rattle.ts_reader.specs.Newest.{slots_in}
use Rattle.ts_reader.proofs.slots.strip_slots.Given as goal

abbrev pub invariant-loop-strip : goal.invariant-loop-strip
invariant-loop-strip l = l.slots ≡ slots_in l.sub (newest_after map.empty (flat_map (strip_versions l.batches) (take l.strip-index l.strips)))
