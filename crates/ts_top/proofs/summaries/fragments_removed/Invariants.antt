use Rattle.std.proofs.Common.{◌≡◌, drop}
use Rattle.ts_top.specs.Summaries.{first_in, removed_in}
use Rattle.ts_top.proofs.summaries.fragments_removed.Given as goal

abbrev pub invariant-loop-came : goal.invariant-loop-came
invariant-loop-came l = first_in removed_in 0 (drop l.came-index l.results) ≡ first_in removed_in 0 l.results
