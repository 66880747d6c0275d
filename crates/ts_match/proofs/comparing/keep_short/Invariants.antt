-- The places so far.
use Rattle.std.proofs.Common.{get_or, pos}
use Rattle.ts_base.specs.declared.values.Val.TheVariants.{Int}
use Rattle.ts_cond.specs.Holds.{compares}
use Rattle.ts_match.proofs.Kept.{KeptTo}
use Rattle.ts_match.proofs.comparing.keep_short.Given as goal

abbrev pub invariant-loop-place : goal.invariant-loop-place
invariant-loop-place l = KeptTo (λ i. compares l.fn.op (Int (get_or l.numbers i (pos 0))) (Int l.fn.bound)) l.fn.kept l.kept l.place
