use Rattle.ts_top.specs.Items.{lanes_in}
use Rattle.ts_top.specs.Queues.{AreLaid}
use Rattle.ts_top.proofs.queues.queues_of.Given as goal

-- the lines so far are laid
abbrev pub invariant-loop-line : goal.invariant-loop-line
invariant-loop-line l = AreLaid (lanes_in l.fn.lines) l.yielded l.queues.items
