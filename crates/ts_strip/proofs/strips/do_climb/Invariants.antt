-- What is left has to climb from where the strips so far end.
use Rattle.std.proofs.Common.{drop}
use Rattle.ts_strip.specs.Strips.{Climb}
use Rattle.ts_strip.proofs.strips.do_climb.Given as goal

abbrev pub invariant-loop-strip : goal.invariant-loop-strip
invariant-loop-strip l = Climb l.at (drop l.strip-index l.strips) l.cells → Climb 0 l.strips l.cells
