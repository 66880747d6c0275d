-- The cells of the versions so far.
use Rattle.std.proofs.Common.{◌≡◌, ◌++◌, take, map}
use Rattle.std.specs.List.{flat_map}
use Rattle.ts_plain.specs.Plain.{cell_bytes}
use Rattle.ts_plain.specs.Writes.{stored_cell}
use Rattle.ts_plain.proofs.writing.write_versions.Given as goal

abbrev pub invariant-loop-version : goal.invariant-loop-version
invariant-loop-version l = l.scribe ≡ l.fn.scribe ++ flat_map cell_bytes (map (stored_cell l.origins) (take l.version-index l.versions))
