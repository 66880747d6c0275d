-- The names so far.
use Rattle.std.proofs.Common.{◌≡◌, take}
use Rattle.ts_commit.specs.Selections.{with_names}
use Rattle.ts_commit.proofs.named.add_names.Given as goal

abbrev pub invariant-loop-name : goal.invariant-loop-name
invariant-loop-name l = l.set.keys ≡ with_names l.fn.set.keys (take l.name-index l.names)
