-- Those of the fragments so far.
use Rattle.std.proofs.Common.{◌≡◌}
use Rattle.std.specs.Prelude.{filter}
use Rattle.ts_commit.specs.Plans.{is_inside}
use Rattle.ts_consolidate.proofs.candidates.inside_of.Given as goal

abbrev pub invariant-loop-frag : goal.invariant-loop-frag
invariant-loop-frag l = l.inside ≡ filter (is_inside l.from l.to) l.yielded
