-- While the answer is yes, the integers so far fit 32 bits.
use Rattle.std.proofs.Common.{FitsSigned, IsTrue, All, take, true}
use Rattle.std.specs.Int.{w32}
use Rattle.ts_wire.specs.Numbers.{int_of}
use Rattle.ts_column.proofs.bulk.are_i64s_short.Given as goal

abbrev pub invariant-loop-chunk : goal.invariant-loop-chunk
invariant-loop-chunk l = IsTrue l.all → All (λ b. FitsSigned w32 (int_of 8 true b)) (take l.chunk-index l.chunks)
