use Rattle.std.proofs.Common.{◌≡◌, take}
use Rattle.ts_reader.specs.Shown.{version_vals}
use Rattle.ts_reader.proofs.vals.column_of.Given as goal

-- the values of the versions so far
abbrev pub invariant-loop-version : goal.invariant-loop-version
invariant-loop-version l = l.column ≡ version_vals l.reading l.schemas (take l.version-index l.versions) l.attr
