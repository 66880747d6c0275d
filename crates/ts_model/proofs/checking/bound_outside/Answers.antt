use Rattle.std.proofs.Common.{◌∙◌}
use Rattle.ts_domain.proofs.Between.{length-are_bounds}
use Rattle.ts_model.proofs.checking.bound_outside.Goals as goal

pub check_box-requires-clause-high : goal.check_box-requires-clause-high
check_box-requires-clause-high c = length-are_bounds c.args.sub.now.low c.args.sub.now.high c.requires.valid ∙ c.requires.as_many
