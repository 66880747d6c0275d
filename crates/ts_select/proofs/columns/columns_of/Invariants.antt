-- The columns so far, and those of the fields from here on.
use Rattle.std.proofs.Common.{◌≡◌, ◌++◌, ◌+◌, drop}
use Rattle.ts_select.specs.Columns.{columns_at}
use Rattle.ts_select.proofs.columns.columns_of.Given as goal

abbrev pub invariant-loop-field : goal.invariant-loop-field
invariant-loop-field l = l.columns.items ++ columns_at l.cells l.places (l.dims + l.attrs) (drop l.field-index l.fields) ≡ columns_at l.cells l.places (l.dims + l.attrs) l.fields
