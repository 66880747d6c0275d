use Rattle.std.proofs.Common.{◌≡◌, drop}
use Rattle.ts_cond.specs.Holds.{is_one_of}
use Rattle.ts_table.specs.Columns.{val_seen}
use Rattle.ts_match.proofs.matching.is_one_of.Given as goal

abbrev pub invariant-loop-val : goal.invariant-loop-val
invariant-loop-val l = is_one_of (val_seen l.seen) (drop l.val-index l.vals) ≡ is_one_of (val_seen l.seen) l.vals
