use Rattle.std.proofs.Common.{◌≡◌, ◌++◌, drop}
use Rattle.ts_query.specs.Rows.{rows_text}
use Rattle.ts_query.proofs.rows.print_rows.Given as goal

abbrev pub invariant-loop-row : goal.invariant-loop-row
invariant-loop-row l = l.text ++ rows_text l.types (drop l.row l.rows) ≡ l.initial.text ++ rows_text l.types l.rows
