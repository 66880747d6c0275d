-- The places so far.
use Rattle.std.proofs.Common.{get_or, false, not}
use Rattle.ts_match.proofs.Kept.{KeptTo}
use Rattle.ts_match.proofs.keeping.drop_those.Given as goal

abbrev pub invariant-loop-place : goal.invariant-loop-place
invariant-loop-place l = KeptTo (λ i. not (get_or l.others i false)) l.fn.kept l.kept l.place
