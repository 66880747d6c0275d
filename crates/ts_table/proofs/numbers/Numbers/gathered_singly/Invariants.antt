-- The integers so far.
use Rattle.std.proofs.Common.{◌≡◌, map, take, get_or}
use Rattle.std.specs.Prelude.{pos}
use Rattle.ts_table.proofs.numbers.Numbers.gathered_singly.Given as goal

abbrev pub invariant-loop-place : goal.invariant-loop-place
invariant-loop-place l = l.list ≡ map (λ place. get_or l.self place (pos 0)) (take l.place-index l.places)
