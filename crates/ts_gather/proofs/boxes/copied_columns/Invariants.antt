-- The columns so far.
use Rattle.std.proofs.Common.{◌≡◌, take}
use Rattle.ts_gather.specs.Rows.{chosen}
use Rattle.ts_gather.specs.Parts.{places_over}
use Rattle.ts_gather.proofs.boxes.copied_columns.Given as goal

abbrev pub invariant-loop-attr : goal.invariant-loop-attr
invariant-loop-attr l = l.columns.items ≡ chosen (take l.attr-index l.attrs) (places_over l.order l.outer l.inner) l.vals
