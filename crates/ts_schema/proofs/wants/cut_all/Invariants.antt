-- The versions before the index are cut, and the others are as they were.
use Rattle.std.proofs.Common.{◌≡◌, ◌++◌, map, take, drop}
use Rattle.ts_schema.specs.Wants.{cut}
use Rattle.ts_schema.proofs.wants.cut_all.Given as goal

abbrev pub invariant-loop-version : goal.invariant-loop-version
invariant-loop-version l = l.versions ≡ map (cut l.want) (take l.version-index l.initial.versions) ++ drop l.version-index l.initial.versions
