-- The next integer fits 32 bits as well, if the answer stays yes.
use Rattle.std.proofs.Common.{FitsSigned, true}
use Rattle.std.specs.Int.{w32}
use Rattle.ts_wire.specs.Numbers.{int_of}
use Rattle.ts_column.proofs.BulkLaws.{passed_more, passed_all}
use Rattle.ts_column.proofs.bulk.are_i64s_short.Goals as goal

pub loop-chunk-preserved : goal.loop-chunk-preserved
loop-chunk-preserved c =
    let l = c.loop-chunk in
    passed_more (λ b. FitsSigned w32 (int_of 8 true b)) c.args.chunks.now l.chunk-index l.all c.is_i64_short-all.result c.loop-chunk-test.true l.invariant c.is_i64_short-all.ensures.0

pub returns : goal.returns
returns c passed = passed_all (λ b. FitsSigned w32 (int_of 8 true b)) c.args.chunks.now c.loop-chunk.chunk-index c.loop-chunk-test.false (c.loop-chunk.invariant passed)
