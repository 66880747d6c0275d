use Rattle.std.proofs.Common.{◌≡◌, take}
use Rattle.ts_base.proofs.lists.Duplicate.copies.Given as goal

abbrev pub invariant-loop-item : goal.invariant-loop-item
invariant-loop-item g l = l.twins.items ≡ take l.item-index l.items
