-- The places so far are in turn.
use Rattle.std.proofs.Common.{◌≡◌, take}
use Rattle.ts_model.specs.Queries.{places_from}
use Rattle.ts_model.proofs.selection.are_in_turn.Given as goal

abbrev pub invariant-loop-place : goal.invariant-loop-place
invariant-loop-place l = take l.place l.fields ≡ places_from 0 l.place
