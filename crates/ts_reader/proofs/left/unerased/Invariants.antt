use Rattle.std.proofs.Common.{◌≡◌, take}
use Rattle.ts_reader.specs.Left.{versions_left}
use Rattle.ts_reader.proofs.left.unerased.Given as goal

-- what is left of the versions so far
abbrev pub invariant-loop-version : goal.invariant-loop-version
invariant-loop-version l = l.left ≡ versions_left l.reading l.schemas (take l.version-index l.versions)
