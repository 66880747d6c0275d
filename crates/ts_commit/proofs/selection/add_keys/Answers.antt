use Rattle.std.proofs.Common.{arith}
use Rattle.ts_commit.proofs.Sets.{added_more}
use Rattle.ts_commit.proofs.selection.add_keys.Goals as goal

pub loop-key-preserved : goal.loop-key-preserved
loop-key-preserved c = λ k. added_more k c.args.keys.now c.loop-key.key-index _ _ _ _ (omega arith) (c.in_ok-insert.ensures.updates.0 k) (c.loop-key.invariant k)
