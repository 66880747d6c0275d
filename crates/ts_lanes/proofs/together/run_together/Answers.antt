-- The turns of the closed turnstile are those of the lanes' commands.
use Rattle.std.proofs.Common.{subst}
use Rattle.ts_turnstile.specs.Chains.{TurnDid, LeadTo}
use Rattle.ts_turnstile.specs.Passes.{pass_view}
use Rattle.ts_lanes.specs.Commands.{CameOut}
use Rattle.ts_lanes.proofs.AllLanes.{together}
use Rattle.ts_lanes.proofs.together.run_together.Goals as goal

pub returns-in-Ok-run_lanes-clause-did : goal.returns-in-Ok-run_lanes-clause-did
returns-in-Ok-run_lanes-clause-did g c = λ index lane_of numbers.
    together (CameOut (g.C.Crew.stop_of c.args.crew.now) (g.C.Crew.offers c.args.crew.now) g.C.Crew.task g.C.Crew.follows g.C.Crew.ends) (g.C.Crew.lane_count c.args.crew.now) (g.C.Crew.command_count c.args.crew.now) c.in-Ok-run_lanes.field-0.ends.items (pass_view c.in-Ok-run_lanes.field-0.pass)
    c.in-Ok-run_lanes.ensures.did c.close.ensures.others index lane_of numbers g.S.Store.held g.S.Store.last g.S.Store.faults g.S.Store.asked g.S.Store.notes c.args.store c.close.result.store c.close.result.journal
    (subst (λ s. LeadTo (TurnDid g.S.Store.held g.S.Store.last g.S.Store.faults g.S.Store.asked g.S.Store.notes) s (pass_view c.in-Ok-run_lanes.field-0.pass).seen c.close.result.store) c.in-Ok.ensures.opened c.close.ensures.leads)
    c.close.ensures.replays.enters
