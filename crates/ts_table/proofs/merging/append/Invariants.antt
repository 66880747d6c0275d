-- The versions so far.
use Rattle.std.proofs.Common.{◌≡◌, ◌++◌, take}
use Rattle.ts_table.proofs.merging.append.Given as goal

abbrev pub invariant-loop-version : goal.invariant-loop-version
invariant-loop-version l = l.list ≡ l.fn.list ++ take l.version-index l.versions
