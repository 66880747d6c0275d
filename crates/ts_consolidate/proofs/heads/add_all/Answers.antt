-- One key more.
use Rattle.std.proofs.Common.{arith}
use Rattle.std.specs.BTreeSet.{insert_key}
use Rattle.ts_base.specs.Keys.{key_cmp}
use Rattle.ts_consolidate.proofs.Folds.{fold_next}
use Rattle.ts_consolidate.proofs.heads.add_all.Goals as goal

pub loop-key-preserved : goal.loop-key-preserved
loop-key-preserved c = fold_next (insert_key key_cmp) c.args.set.now.keys c.args.keys.now c.loop-key.key-index _ _ _ (omega arith) c.loop-key.invariant c.in_ok-insert.ensures.keys
