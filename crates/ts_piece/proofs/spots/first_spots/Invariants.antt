use Rattle.std.proofs.Common.{◌≡◌, map, take}
use Rattle.ts_piece.specs.Spots.{in_first}
use Rattle.ts_piece.proofs.spots.first_spots.Given as goal

-- the places so far
abbrev pub invariant-loop-place : goal.invariant-loop-place
invariant-loop-place l = l.spots.items ≡ map in_first (take l.place-index l.places)
