use Rattle.std.proofs.Common.{◌≡◌, map, take}
use Rattle.ts_reader.specs.Shown.{version_vals}
use Rattle.ts_reader.proofs.vals.vals_of.Given as goal

-- the columns of the attributes so far
abbrev pub invariant-loop-attr : goal.invariant-loop-attr
invariant-loop-attr l = l.columns.items ≡ map (version_vals l.reading l.schemas l.versions) (take l.attr-index l.attr-items)
