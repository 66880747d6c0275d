-- The integers so far.
use Rattle.std.proofs.Common.{◌≡◌, take, map, false}
use Rattle.ts_wire.specs.Numbers.{int_of}
use Rattle.ts_column.proofs.numbers.read_wide.Given as goal

abbrev pub invariant-loop-chunk : goal.invariant-loop-chunk
invariant-loop-chunk l = l.numbers ≡ map (int_of 8 false) (take l.chunk-index l.chunks)
