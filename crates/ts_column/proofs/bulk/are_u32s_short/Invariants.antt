-- While the answer is yes, the integers so far are below 2^31.
use Rattle.std.proofs.Common.{FitsSigned, IsTrue, All, take, false}
use Rattle.std.specs.Int.{w32}
use Rattle.ts_wire.specs.Numbers.{int_of}
use Rattle.ts_column.proofs.bulk.are_u32s_short.Given as goal

abbrev pub invariant-loop-chunk : goal.invariant-loop-chunk
invariant-loop-chunk l = IsTrue l.all → All (λ b. FitsSigned w32 (int_of 4 false b)) (take l.chunk-index l.chunks)
