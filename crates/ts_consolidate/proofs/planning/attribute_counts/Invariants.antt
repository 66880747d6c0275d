-- The counts of the heads so far.
use Rattle.std.proofs.Common.{◌≡◌, take}
use Rattle.std.specs.Prelude.{map as list_map}
use Rattle.ts_model.specs.States.{attributes_among}
use Rattle.ts_consolidate.proofs.planning.attribute_counts.Given as goal

abbrev pub invariant-loop-head : goal.invariant-loop-head
invariant-loop-head l = l.counts ≡ list_map (λ head. attributes_among l.schemas head.schema) (take l.head-index l.heads)
