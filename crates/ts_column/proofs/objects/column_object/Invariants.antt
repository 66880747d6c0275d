-- The tiles so far.
use Rattle.std.proofs.Common.{◌≡◌, take}
use Rattle.ts_wire.specs.Broken.{joined}
use Rattle.ts_column.proofs.objects.column_object.Given as goal

abbrev pub invariant-loop-tile : goal.invariant-loop-tile
invariant-loop-tile l = l.body ≡ joined (take l.tile-index l.tiles)
