use Rattle.ts_turnstile.specs.Passes.{pass_view}
use Rattle.ts_lanes.proofs.Passing.{unsplit, left_may}
use Rattle.ts_lanes.proofs.lanes.split_off.Goals as goal

pub split-requires-clause-lane : goal.split-requires-clause-lane
split-requires-clause-lane g c κs within = unsplit c.args.top c.args.lane (pass_view c.args.pass.now) c.requires.some c.requires.may

pub returns-clause-may : goal.returns-clause-may
returns-clause-may g c = left_may c.args.top c.args.lane (pass_view c.args.pass.now) (pass_view c.split.new.pass) c.requires.some c.requires.may c.split.ensures.kept
