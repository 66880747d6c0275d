use Rattle.std.proofs.Common.{◌≡◌, ◌++◌, true, drop, get_or, []}
use Rattle.ts_query.specs.Rows.{vals_text}
use Rattle.ts_query.proofs.rows.print_vals.Given as goal

abbrev pub invariant-loop-column : goal.invariant-loop-column
invariant-loop-column l =
    l.bytes.items ++ vals_text l.first (drop l.column l.types) (drop l.column (get_or l.rows l.row [])) ≡ l.initial.bytes.items ++ vals_text true l.types (get_or l.rows l.row [])
