-- The places so far.
use Rattle.ts_cond.specs.Views.{test_of}
use Rattle.ts_match.specs.Keeping.{holds_at}
use Rattle.ts_match.proofs.Kept.{KeptTo}
use Rattle.ts_match.proofs.keeping.keep_each.Given as goal

abbrev pub invariant-loop-place : goal.invariant-loop-place
invariant-loop-place l = KeptTo (holds_at l.view (test_of l.node)) l.fn.kept l.kept l.place
