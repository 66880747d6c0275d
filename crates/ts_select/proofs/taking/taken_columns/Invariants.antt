-- The columns so far, and what is left of them for the fields from here on.
use Rattle.ts_select.proofs.Takings.{IsTaking}
use Rattle.ts_select.proofs.taking.taken_columns.Given as goal

abbrev pub invariant-loop-place : goal.invariant-loop-place
invariant-loop-place l = IsTaking l.fields l.fn.all l.all l.columns.items l.place
