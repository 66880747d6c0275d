use Rattle.std.proofs.Common.{◌≡◌, map}
use Rattle.std.specs.Prelude.{filter}
use Rattle.ts_model.specs.Queries.{items_at, fields_of}
use Rattle.ts_model.specs.Selections.{placed, passes_by}
use Rattle.ts_model.proofs.selection.cut_passing.Given as goal

-- the rows of the cells so far
abbrev pub invariant-loop-cell : goal.invariant-loop-cell
invariant-loop-cell l = l.rows ≡ map (λ e. items_at l.ready.fields (fields_of e)) (filter (λ e. passes_by l.picks l.ready.filter e.0 e.1) (map placed l.yielded))
