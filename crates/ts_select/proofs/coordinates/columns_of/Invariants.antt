-- The columns so far.
use Rattle.std.proofs.Common.{◌≡◌, map}
use Rattle.ts_base.specs.declared.values.Val.TheVariants.{Int}
use Rattle.ts_select.proofs.coordinates.columns_of.Given as goal

abbrev pub invariant-loop-list : goal.invariant-loop-list
invariant-loop-list l = l.columns.items ≡ map (map Int) l.yielded
