use Rattle.std.proofs.Common.{◌≡◌, ◌+◌, ◌≤◌, drop}
use Rattle.ts_top.specs.Summaries.{writes_in}
use Rattle.ts_top.proofs.summaries.writes_done.Given as goal

abbrev pub invariant-loop-came : goal.invariant-loop-came
invariant-loop-came l = (l.writes + writes_in (drop l.came-index l.results) ≡ writes_in l.results) × (l.writes ≤ l.came-index)
