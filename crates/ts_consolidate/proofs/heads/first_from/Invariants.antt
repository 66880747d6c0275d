-- The least timestamp so far.
use Rattle.std.proofs.Common.{◌≡◌, take}
use Rattle.ts_model.specs.Merging.{first_from}
use Rattle.ts_consolidate.proofs.heads.first_from.Given as goal

abbrev pub invariant-loop-head : goal.invariant-loop-head
invariant-loop-head l = l.least ≡ first_from l.fn.t (take l.head-index l.heads)
