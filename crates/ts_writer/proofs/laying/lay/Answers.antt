use Rattle.ts_writer.proofs.Written.{bounds_in_order}
use Rattle.ts_writer.proofs.laying.lay.Goals as goal

pub lay_box-requires-clause-named : goal.lay_box-requires-clause-named
lay_box-requires-clause-named c = bounds_in_order c.args.write.now c.requires.spelled
