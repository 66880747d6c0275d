-- The places so far.
use Rattle.std.proofs.Common.{◌≡◌, map, take}
use Rattle.ts_table.specs.declared.spots.Spot.{Spot}
use Rattle.ts_table.proofs.spots.places_of.Given as goal

abbrev pub invariant-loop-spot : goal.invariant-loop-spot
invariant-loop-spot l = l.places ≡ map (λ (s : Spot). s.place) (take l.spot-index l.spots)
