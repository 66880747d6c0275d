use Rattle.std.proofs.Common.{◌≡◌, take}
use Rattle.ts_table.specs.Tables.{column_of}
use Rattle.ts_reader.proofs.sides.column_along.Given as goal

-- the coordinates of the versions so far
abbrev pub invariant-loop-version : goal.invariant-loop-version
invariant-loop-version l = l.column ≡ column_of (take l.version-index l.versions) l.dim
