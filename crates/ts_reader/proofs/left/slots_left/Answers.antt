-- Without deletes all are left.
use Rattle.ts_reader.proofs.Kept.{slots_all_left}
use Rattle.ts_reader.proofs.left.slots_left.Goals as goal

pub returns-then-is_empty : goal.returns-then-is_empty
returns-then-is_empty c = slots_all_left c.args.reading.now c.args.schemas.now c.args.slots (c.is_empty.ensures.0 c.if-is_empty.true)
