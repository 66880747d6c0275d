-- The first of the eligible fragments that are left is the first of all.
use Rattle.std.proofs.Common.{◌≡◌, drop}
use Rattle.std.specs.Prelude.{find}
use Rattle.ts_commit.specs.Plans.{is_shared}
use Rattle.ts_commit.specs.Passes.{passed}
use Rattle.ts_commit.proofs.plans.shared_schema.Given as goal

abbrev pub invariant-loop-head : goal.invariant-loop-head
invariant-loop-head l = find (is_shared l.least (passed l.eligible l.heads)) (passed l.eligible (drop l.head-index l.heads)) ≡ find (is_shared l.least (passed l.eligible l.heads)) (passed l.eligible l.heads)
