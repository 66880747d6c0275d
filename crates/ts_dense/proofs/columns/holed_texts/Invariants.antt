-- The byte lists so far.
use Rattle.std.proofs.Common.{◌≡◌, take, map}
use Rattle.ts_column.specs.Spelled.{text_of}
use Rattle.ts_dense.specs.Laying.{values_along}
use Rattle.ts_dense.proofs.columns.holed_texts.Given as goal

abbrev pub invariant-loop-slot : goal.invariant-loop-slot
invariant-loop-slot l = l.texts ≡ map text_of (values_along l.attr (take l.slot-index l.slots))
