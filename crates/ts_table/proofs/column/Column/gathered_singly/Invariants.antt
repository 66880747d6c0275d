-- The values so far.
use Rattle.std.proofs.Common.{◌≡◌, map, take, get_or}
use Rattle.ts_base.specs.declared.values.Val.TheVariants.{Null}
use Rattle.ts_table.proofs.column.Column.gathered_singly.Given as goal

abbrev pub invariant-loop-place : goal.invariant-loop-place
invariant-loop-place l = l.list ≡ map (λ place. get_or l.self place Null) (take l.place-index l.places)
