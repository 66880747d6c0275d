-- The coordinates so far.
use Rattle.std.proofs.Common.{◌≡◌, map, take}
use Rattle.ts_base.specs.declared.values.Val.TheVariants.{Int}
use Rattle.ts_model.proofs.selection.whole_row.Given as goal

abbrev pub invariant-loop-number : goal.invariant-loop-number
invariant-loop-number l = l.fields.items ≡ map Int (take l.number-index l.coords)
