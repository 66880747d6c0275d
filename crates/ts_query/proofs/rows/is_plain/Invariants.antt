use Rattle.std.proofs.Common.{◌≡◌, take}
use Rattle.std.specs.List.{flat_map}
use Rattle.ts_query.specs.Rows.{escaped}
use Rattle.ts_query.proofs.rows.is_plain.Given as goal

abbrev pub invariant-loop-byte : goal.invariant-loop-byte
invariant-loop-byte l = flat_map escaped (take l.byte-index l.own) ≡ take l.byte-index l.own
