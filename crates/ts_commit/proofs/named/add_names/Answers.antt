use Rattle.std.proofs.Common.{arith}
use Rattle.ts_commit.proofs.Sets.{names_more}
use Rattle.ts_commit.proofs.named.add_names.Goals as goal

pub loop-name-preserved : goal.loop-name-preserved
loop-name-preserved c = names_more c.args.set.now.keys c.args.names.now c.loop-name.name-index _ _ _ (omega arith) c.in_ok-insert.ensures.keys c.loop-name.invariant
