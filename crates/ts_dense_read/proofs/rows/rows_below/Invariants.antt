-- The places of those so far that are wanted.
use Rattle.std.proofs.Common.{◌≡◌}
use Rattle.std.specs.Prelude.{filter}
use Rattle.std.specs.List.{range_with_len}
use Rattle.ts_dense_read.specs.SpaceTakes.{is_slot_wanted}
use Rattle.ts_dense_read.proofs.rows.rows_below.Given as goal

abbrev pub invariant-loop-row : goal.invariant-loop-row
invariant-loop-row l = l.rows ≡ filter (is_slot_wanted l.opened l.leaf l.origins) (range_with_len 0 l.row)
