use Rattle.std.proofs.Common.{◌≡◌, drop}
use Rattle.ts_script.specs.Shapes.{items_onto}
use Rattle.ts_script.specs.Trees.{items_view}
use Rattle.ts_script.specs.Values.{value}
use Rattle.ts_script.proofs.values.with_values.Given as goal

abbrev pub invariant-loop-item : goal.invariant-loop-item
invariant-loop-item l = items_onto value l.cells.column (items_view (drop l.item-index l.items)) ≡ items_onto value l.fn.cells.column (items_view l.items)
