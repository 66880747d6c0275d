-- What was kept, and what is left to be kept, make the whole.
use Rattle.std.proofs.Common.{◌≡◌, ◌++◌, drop}
use Rattle.ts_plain.specs.Merges.{last_alone, global_order}
use Rattle.ts_plain.proofs.merging.last_alone.Given as goal

abbrev pub invariant-loop-place : goal.invariant-loop-place
invariant-loop-place l = l.list ++ last_alone (global_order l.frame) (drop l.place l.versions) ≡ last_alone (global_order l.frame) l.versions
