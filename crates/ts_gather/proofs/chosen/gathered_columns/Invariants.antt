-- The columns so far.
use Rattle.std.proofs.Common.{◌≡◌, take}
use Rattle.ts_gather.specs.Rows.{chosen}
use Rattle.ts_gather.proofs.chosen.gathered_columns.Given as goal

abbrev pub invariant-loop-attr : goal.invariant-loop-attr
invariant-loop-attr l = l.columns.items ≡ chosen (take l.attr-index l.attrs) l.rows l.vals
