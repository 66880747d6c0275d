-- Without deletes all are left.
use Rattle.ts_reader.proofs.Kept.{all_left}
use Rattle.ts_reader.proofs.left.versions_left.Goals as goal

pub returns-then-is_empty : goal.returns-then-is_empty
returns-then-is_empty c = all_left c.args.reading.now c.args.schemas.now c.args.versions (c.is_empty.ensures.0 c.if-is_empty.true)
