-- The lines so far.
use Rattle.std.proofs.Common.{◌≡◌, ◌++◌, take}
use Rattle.std.specs.List.{flat_map}
use Rattle.ts_commit.specs.Vacs.{line_bytes}
use Rattle.ts_commit.proofs.lines.write_lines.Given as goal

abbrev pub invariant-loop-name : goal.invariant-loop-name
invariant-loop-name l = l.scribe ≡ l.fn.scribe ++ flat_map line_bytes (take l.name-index l.names)
