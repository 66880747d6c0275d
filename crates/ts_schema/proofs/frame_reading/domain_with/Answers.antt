use Rattle.ts_schema.proofs.DimLemmas.{next_valid}
use Rattle.ts_schema.proofs.frame_reading.domain_with.Goals as goal

pub new-requires-clause-valid : goal.new-requires-clause-valid
new-requires-clause-valid c = rw c.buffer_with-dims.ensures.begins (next_valid c.args.front.now c.args.dim c.requires.valid c.requires.next)
