use Rattle.std.proofs.Common.{◌≡◌, ◌+◌, ◌≤◌, length, vec_capacity}
use Rattle.ts_turnstile.specs.Belonging.{Belongs}
use Rattle.ts_turnstile.specs.Passes.{pass_view}
use Rattle.ts_turnstile.specs.Rule.{claim_of}
use Rattle.ts_turnstile.specs.Turns.{turns_by}
use Rattle.ts_lanes.specs.Commands.{CameOut, Did}
use Rattle.ts_lanes.proofs.lane.run_lane.Given as goal

-- the commands so far have the results so far, and the queue has the others
abbrev pub invariant-loop-before : goal.invariant-loop-before
invariant-loop-before g l =
    Belongs l.turnstile l.pass
    × (claim_of (pass_view l.pass) ≡ claim_of (pass_view l.fn.pass))
    × ((pass_view l.pass).lane ≡ l.lane)
    × (length l.ends.items ≡ l.before)
    × (g.C.Crew.command_count l.crew l.lane ≤ vec_capacity l.ends)
    × Did (CameOut (g.C.Crew.stop_of l.crew) (g.C.Crew.offers l.crew) g.C.Crew.task g.C.Crew.follows g.C.Crew.ends) l.lane 1 l.ends.items (turns_by l.lane (pass_view l.pass).seen)
    × g.C.Crew.waits l.crew l.lane (l.before + 1) l.queue
