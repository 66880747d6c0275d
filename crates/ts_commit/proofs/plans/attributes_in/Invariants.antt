-- The number that stands for the first of the heads that are left.
use Rattle.std.proofs.Common.{◌≡◌, drop}
use Rattle.ts_commit.specs.Plans.{attributes_in}
use Rattle.ts_commit.proofs.plans.attributes_in.Given as goal

abbrev pub invariant-loop-place : goal.invariant-loop-place
invariant-loop-place l = attributes_in (drop l.place l.heads) (drop l.place l.attrs) l.schema ≡ attributes_in l.heads l.attrs l.schema
