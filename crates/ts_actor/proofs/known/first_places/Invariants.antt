use Rattle.std.proofs.Common.{◌≡◌}
use Rattle.ts_model.specs.Queries.{places_from}
use Rattle.ts_actor.proofs.known.first_places.Given as goal

-- the places so far
abbrev pub invariant-loop-place : goal.invariant-loop-place
invariant-loop-place l = l.places ≡ places_from 0 l.place
