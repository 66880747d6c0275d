-- The fragments so far keep the bounds, and from them on the others are added.
use Rattle.std.proofs.Common.{◌≡◌, true, List, [], drop}
use Rattle.std.specs.Prelude.{map as list_map}
use Rattle.ts_base.specs.declared.heads.Head.{Head}
use Rattle.ts_commit.specs.Plans.{of_schema, is_in_bounds, taken_from}
use Rattle.ts_commit.specs.Passes.{passed, total_of}
use Rattle.ts_commit.proofs.plans.taken.Given as goal

abbrev pub invariant-loop-head : goal.invariant-loop-head
invariant-loop-head l =
    (so_far : List Head) × (l.total ≡ total_of so_far) × (is_in_bounds l.attributes l.limits so_far ≡ true) × (l.frags ≡ list_map (λ head. head.frag) so_far)
    × (taken_from l.attributes l.limits so_far (of_schema l.schema (passed l.eligible (drop l.head-index l.heads))) ≡ taken_from l.attributes l.limits [] (of_schema l.schema (passed l.eligible l.heads)))
