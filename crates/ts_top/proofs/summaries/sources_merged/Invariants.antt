use Rattle.std.proofs.Common.{◌≡◌, drop}
use Rattle.ts_top.specs.Summaries.{first_in, sources_in}
use Rattle.ts_top.proofs.summaries.sources_merged.Given as goal

abbrev pub invariant-loop-came : goal.invariant-loop-came
invariant-loop-came l = first_in sources_in 0 (drop l.came-index l.results) ≡ first_in sources_in 0 l.results
