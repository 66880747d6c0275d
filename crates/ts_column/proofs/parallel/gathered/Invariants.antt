-- What is still to be gathered gives the whole answer.
use Rattle.std.proofs.Common.{◌≡◌, []}
use Rattle.std.specs.Vec.Iter.{into_iter_items}
use Rattle.ts_column.specs.Tiles.{gathered_from}
use Rattle.ts_column.proofs.parallel.gathered.Given as goal

abbrev pub invariant-loop-one : goal.invariant-loop-one
invariant-loop-one l = gathered_from l.columns (into_iter_items l.one-iterator) ≡ gathered_from [] l.fn.decoded.items
