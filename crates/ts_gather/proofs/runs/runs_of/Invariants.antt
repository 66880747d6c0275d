-- The writes of the rows so far.
use Rattle.std.specs.Prelude.{IfSome}
use Rattle.ts_gather.specs.Runs.{EndsWith}
use Rattle.ts_gather.proofs.RunLaws.{Writing}
use Rattle.ts_gather.proofs.runs.runs_of.Given as goal

abbrev pub invariant-loop-row : goal.invariant-loop-row
invariant-loop-row l = record {
  rows : Writing l.keys l.schema l.origins l.rows l.writes.items l.cells.items l.row-index;
  last : IfSome l.last (EndsWith l.keys l.schema l.writes.items);
}
