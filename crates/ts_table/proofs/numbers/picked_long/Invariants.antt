-- The integers so far.
use Rattle.std.proofs.Common.{◌≡◌, map, take, get_or}
use Rattle.std.specs.Prelude.{pos}
use Rattle.ts_table.proofs.numbers.picked_long.Given as goal

abbrev pub invariant-loop-place : goal.invariant-loop-place
invariant-loop-place l = l.list.items ≡ map (λ place. get_or l.long place (pos 0)) (take l.place-index l.places)
