-- The spans of the objects so far.
use Rattle.std.proofs.Common.{◌≡◌, map, take}
use Rattle.ts_dense_read.specs.SpaceTakes.{span_behind}
use Rattle.ts_dense_read.proofs.spans.spans_of.Given as goal

abbrev pub invariant-loop-column : goal.invariant-loop-column
invariant-loop-column l = l.spans ≡ map (span_behind l.before l.cells l.place) (take l.column-index l.used)
