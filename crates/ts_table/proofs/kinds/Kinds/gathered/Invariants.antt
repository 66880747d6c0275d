-- The kinds so far.
use Rattle.std.proofs.Common.{◌≡◌, map, take, get_or}
use Rattle.ts_table.specs.declared.kinds.Kind.TheVariants.{Null}
use Rattle.ts_table.proofs.kinds.Kinds.gathered.Given as goal

abbrev pub invariant-loop-place : goal.invariant-loop-place
invariant-loop-place l = l.kinds ≡ map (λ place. get_or l.self place Null) (take l.place-index l.places)
