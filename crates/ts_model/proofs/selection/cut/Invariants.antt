use Rattle.std.proofs.Common.{◌≡◌, ◌++◌, drop}
use Rattle.ts_model.specs.Queries.{items_at, fields_of}
use Rattle.ts_model.specs.Selections.{placed}
use Rattle.ts_model.proofs.selection.cut.Given as goal

-- the values so far, and those of the fields from here on
abbrev pub invariant-loop-place : goal.invariant-loop-place
invariant-loop-place l = l.row ++ items_at (drop l.place-index l.fields) (fields_of (placed l.cell)) ≡ items_at l.fields (fields_of (placed l.cell))
