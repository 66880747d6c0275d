use Rattle.std.proofs.Common.{◌≡◌, ◌++◌, drop}
use Rattle.ts_model.specs.Queries.{items_at, types_of}
use Rattle.ts_model.proofs.selection.types_shown.Given as goal

-- the types so far, and those of the fields from here on
abbrev pub invariant-loop-place : goal.invariant-loop-place
invariant-loop-place l = l.types ++ items_at (drop l.place-index l.ready.fields) (types_of l.dims l.attrs) ≡ items_at l.ready.fields (types_of l.dims l.attrs)
