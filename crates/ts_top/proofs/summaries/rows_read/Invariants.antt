use Rattle.std.proofs.Common.{◌≡◌, [], drop}
use Rattle.ts_top.specs.Summaries.{first_in, rows_in}
use Rattle.ts_top.proofs.summaries.rows_read.Given as goal

abbrev pub invariant-loop-came : goal.invariant-loop-came
invariant-loop-came l = first_in rows_in [] (drop l.came-index l.results) ≡ first_in rows_in [] l.results
