use Rattle.std.proofs.Common.{rules, arith, ◌∙◌, length-set, FitsSigned, to_z-of_z}
use Rattle.std.specs.Int.{w128}
use Rattle.ts_model.specs.Queries.{low_of}
use Rattle.ts_model.proofs.Checked.{corner_more}
use Rattle.ts_model.proofs.checking.low_corner.Goals as goal

pub loop-dim-preserved : goal.loop-dim-preserved
loop-dim-preserved c =
    let fits : FitsSigned w128 c.low_of.result = search rules in (
      length-set c.loop-dim.numbers c.loop-dim.dim _ ∙ c.loop-dim.invariant.0,
      corner_more (low_of c.args.named.now) c.loop-dim.numbers c.args.dims.now c.loop-dim.dim _ c.index-dims-dim.result (omega (arith, c.loop-dim.invariant.0)) c.loop-dim-test.true c.index-dims-dim.is (to_z-of_z fits ∙ c.low_of.ensures) c.loop-dim.invariant.1,
    )
