use Rattle.std.proofs.Common.{arith}
use Rattle.ts_schema.proofs.DimLoop.{dims_loop}
use Rattle.ts_schema.proofs.frame_reading.read_counted_dims.Goals as goal

pub loop-place-preserved : goal.loop-place-preserved
loop-place-preserved c = (grind (arith, dims_loop), grind (arith, dims_loop))
