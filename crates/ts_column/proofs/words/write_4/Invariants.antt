-- The bytes so far.
use Rattle.std.proofs.Common.{◌≡◌, take, map}
use Rattle.std.specs.List.{flat_map}
use Rattle.ts_wire.specs.Numbers.{int_bytes}
use Rattle.ts_column.specs.Spelled.{number_of}
use Rattle.ts_column.proofs.words.write_4.Given as goal

abbrev pub invariant-loop-place : goal.invariant-loop-place
invariant-loop-place l = l.bytes.items ≡ flat_map (int_bytes 4) (map number_of (take l.place l.column))
