-- The batches of the lists so far.
use Rattle.std.proofs.Common.{◌≡◌}
use Rattle.ts_batch.specs.Batches.{versions_of}
use Rattle.ts_model.specs.Merging.{all_got}
use Rattle.ts_consolidate.proofs.versions.joined.Given as goal

abbrev pub invariant-loop-list : goal.invariant-loop-list
invariant-loop-list l = versions_of l.all.items ≡ all_got l.yielded
