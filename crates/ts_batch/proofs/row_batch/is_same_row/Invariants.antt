use Rattle.std.proofs.Common.{◌≡◌, drop, [], get_or}
use Rattle.std.specs.Cmp.Lexicographic.{pointwise}
use Rattle.ts_batch.specs.Rows.{val_eq}
use Rattle.ts_batch.proofs.row_batch.is_same_row.Given as goal

-- the values from here on decide
abbrev pub invariant-loop-column : goal.invariant-loop-column
invariant-loop-column l = pointwise val_eq (drop l.column (get_or l.first l.row [])) (drop l.column (get_or l.second l.row [])) ≡ pointwise val_eq (get_or l.first l.row []) (get_or l.second l.row [])
