-- The newest after the versions of the strip so far.
use Rattle.std.proofs.Common.{◌≡◌, length, take}
use Rattle.ts_domain.specs.Boxes.{cells_of}
use Rattle.ts_model.specs.Pieces.{Newest, newest_after}
use Rattle.ts_strip.specs.Strips.{strip_versions}
use Rattle.ts_reader.specs.Newest.{slots_in}
use Rattle.ts_reader.proofs.slots.put_strip.Given as goal

abbrev pub invariant-loop-step : goal.invariant-loop-step
invariant-loop-step l =
    ((newest : Newest) → l.initial.slots ≡ slots_in l.sub newest → l.slots ≡ slots_in l.sub (newest_after newest (take l.step (strip_versions l.batches l.strip))))
    × (length l.slots ≡ cells_of l.sub)
