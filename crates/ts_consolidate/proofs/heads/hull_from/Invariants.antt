-- The hull so far is a box of the array's dimensions.
use Rattle.std.proofs.Common.{◌≡◌, length, take}
use Rattle.ts_domain.specs.Boxes.{IsBox}
use Rattle.ts_model.specs.Merging.{hull_from}
use Rattle.ts_consolidate.proofs.heads.hull_from.Given as goal

abbrev pub invariant-loop-head : goal.invariant-loop-head
invariant-loop-head l = IsBox l.hull × (length l.hull.low ≡ length l.frame.domain) × (l.hull ≡ hull_from l.fn.own (take l.head-index l.heads))
