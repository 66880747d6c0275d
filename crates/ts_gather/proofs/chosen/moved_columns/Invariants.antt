-- The columns so far, and those that are left.
use Rattle.std.specs.Vec.Iter.{into_iter_items}
use Rattle.ts_gather.proofs.RowLaws.{Moving}
use Rattle.ts_gather.proofs.chosen.moved_columns.Given as goal

abbrev pub invariant-loop-column : goal.invariant-loop-column
invariant-loop-column l = Moving l.attrs l.fn.vals.items l.columns.items (into_iter_items l.column-iterator) l.next l.place
