-- How many of the eligible fragments so far are of each schema.
use Rattle.std.proofs.Common.{◌≡◌, length, take, unwrap_or}
use Rattle.std.specs.BTreeMap.{get}
use Rattle.ts_base.specs.Keys.{key_cmp}
use Rattle.ts_base.specs.declared.keys.Key.{Key}
use Rattle.ts_commit.specs.Plans.{of_schema}
use Rattle.ts_commit.specs.Passes.{passed}
use Rattle.ts_commit.proofs.plans.counts_of_schemas.Given as goal

abbrev pub invariant-loop-head : goal.invariant-loop-head
invariant-loop-head l = (k : Key) → unwrap_or (get key_cmp l.counts k) 0 ≡ length (of_schema k (passed l.eligible (take l.head-index l.heads)))
