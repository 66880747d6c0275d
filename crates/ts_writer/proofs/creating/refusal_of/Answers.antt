use Rattle.ts_writer.proofs.Frames.{some_dims, are_dims}
use Rattle.ts_writer.proofs.creating.refusal_of.Goals as goal

pub new-requires-clause-some : goal.new-requires-clause-some
new-requires-clause-some c = rw c.as_slice.ensures (some_dims c.args.frame.now c.requires)

pub new-requires-clause-valid : goal.new-requires-clause-valid
new-requires-clause-valid c = rw c.as_slice.ensures (are_dims c.args.frame.now c.requires)
