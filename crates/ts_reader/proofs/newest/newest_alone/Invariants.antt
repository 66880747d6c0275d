-- The newest ones of the versions so far.
use Rattle.std.proofs.Common.{take}
use Rattle.ts_reader.specs.Newest.{AreNewest}
use Rattle.ts_reader.proofs.newest.newest_alone.Given as goal

abbrev pub invariant-loop-version : goal.invariant-loop-version
invariant-loop-version l = AreNewest (take l.version-index l.versions) l.newest
