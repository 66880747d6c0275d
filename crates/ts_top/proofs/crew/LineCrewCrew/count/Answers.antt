-- All commands of the lane are in its queue.
use Rattle.std.proofs.Common.{◌∙◌}
use Rattle.ts_top.proofs.Queued.{all_wait}
use Rattle.ts_top.proofs.crew.LineCrewCrew.count.Goals as goal

pub returns : goal.returns
returns g c = c.len.ensures ∙ all_wait c.args.self.now.lines.value c.args._lane c.args.queue.now c.requires.waits
