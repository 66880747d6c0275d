-- No attribute so far counts as the field.
use Rattle.std.proofs.Common.{◌≡◌, drop}
use Rattle.ts_cond.specs.Picks.{value_under}
use Rattle.ts_model.specs.Queries.{attr_fields}
use Rattle.ts_model.proofs.deletions.value_under.Given as goal

abbrev pub invariant-loop-place : goal.invariant-loop-place
invariant-loop-place l = value_under l.field (attr_fields (drop l.place l.attrs)) (drop l.place l.row) ≡ value_under l.field (attr_fields l.attrs) l.row
