use Rattle.std.proofs.Common.{rules}
use Rattle.ts_script.proofs.Generating.{values_more}
use Rattle.ts_script.proofs.generator.values_from.Goals as goal

pub loop-i-preserved : goal.loop-i-preserved
loop-i-preserved c =
    rw c.in_ok-push_number.ensures.ok (values_more (λ i. i) c.args.first c.loop-i.i c.args.count c.loop-i.values _ _ c.loop-i-test.true (search rules) c.loop-i.invariant)
