use Rattle.std.proofs.Common.{◌≡◌, map}
use Rattle.std.specs.Map.Iter.{deref_pair}
use Rattle.ts_model.specs.Queries.{items_at, fields_of}
use Rattle.ts_model.specs.Selections.{placed}
use Rattle.ts_model.proofs.selection.cut_all.Given as goal

-- the rows of the cells so far
abbrev pub invariant-loop-place : goal.invariant-loop-place
invariant-loop-place l = l.rows ≡ map (λ e. items_at l.fields (fields_of (placed e.1))) (map deref_pair l.yielded)
