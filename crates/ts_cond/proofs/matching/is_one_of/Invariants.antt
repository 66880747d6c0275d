use Rattle.std.proofs.Common.{◌≡◌, drop}
use Rattle.ts_cond.specs.Holds.{is_one_of}
use Rattle.ts_cond.specs.Seen.{seen_val}
use Rattle.ts_cond.proofs.matching.is_one_of.Given as goal

abbrev pub invariant-loop-val : goal.invariant-loop-val
invariant-loop-val l = is_one_of (seen_val l.seen) (drop l.val-index l.vals) ≡ is_one_of (seen_val l.seen) l.vals
