use Rattle.std.proofs.Common.{◌≡◌, take}
use Rattle.ts_order.specs.Tiles.{tiles_in}
use Rattle.ts_order.proofs.tiles.tiles_of.Given as goal

abbrev pub invariant-loop-place : goal.invariant-loop-place
invariant-loop-place l = l.tiles ≡ take l.place (tiles_in l.domain l.tile l.sub)
