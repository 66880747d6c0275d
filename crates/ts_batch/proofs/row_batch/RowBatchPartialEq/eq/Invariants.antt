use Rattle.std.proofs.Common.{◌≡◌, drop}
use Rattle.std.specs.Cmp.Lexicographic.{pointwise}
use Rattle.ts_batch.specs.Rows.{val_eq}
use Rattle.ts_batch.proofs.row_batch.RowBatchPartialEq.eq.Given as goal

-- the rows from here on decide
abbrev pub invariant-loop-row : goal.invariant-loop-row
invariant-loop-row l = pointwise (pointwise val_eq) (drop l.row l.self) (drop l.row l.other) ≡ pointwise (pointwise val_eq) l.self l.other
