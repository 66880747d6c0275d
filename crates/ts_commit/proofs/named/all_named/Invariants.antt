-- What the `.vac` objects so far name.
use Rattle.std.proofs.Common.{◌≡◌, take}
use Rattle.ts_commit.specs.Selections.{removal_set}
use Rattle.ts_commit.proofs.named.all_named.Given as goal

abbrev pub invariant-loop-vac : goal.invariant-loop-vac
invariant-loop-vac l = l.named.keys ≡ removal_set (take l.vac-index l.vacs)
