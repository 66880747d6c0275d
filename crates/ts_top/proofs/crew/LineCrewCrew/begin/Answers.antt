-- The line of the next command is taken, and its job chosen.
use Rattle.std.proofs.Common.{◌∙◌, sym, ap, subst}
use Rattle.std.specs.Option.{option_map_or}
use Rattle.ts_base.specs.declared.heads.Stop.TheVariants as stop
use Rattle.ts_law.specs.Fresh.{id_of, job_from}
use Rattle.ts_top.specs.Queues.{Waits}
use Rattle.ts_top.proofs.LinesRan.{task_of}
use Rattle.ts_top.proofs.Queued.{some_left, taken}
use Rattle.ts_top.proofs.crew.LineCrewCrew.begin.Goals as goal

pub returns : goal.returns
returns g c =
    let lines = c.args.self.now.lines.value in
    let lane = c.args._lane in
    let number = c.args.number in
    let line = c.in-Some.line in
    let gives = g.C.Clock.gives c.args.self.now.clock.now in
    let at = c.stamp_of-at.result in
    let was = subst (Waits lines lane number) c.in-Some.ensures c.requires.waits in
    let t = taken lines lane number line c.take.new.self c.requires.command.1 was in
    let stops = ap (λ found. option_map_or (λ item. item.line.stop) found stop.Never) t.at in
    record {
      waits = t.left;
      task = (
        job_from (id_of c.args.self.now.seed line.lane number) line at,
        task_of gives c.args.self.now.seed lines lane number at line t.at t.lane_is (c.stamp_of-at.ensures gives c.now.ensures),
        (c.of-actor.ensures.new, c.of-actor.ensures.task ∙ c.job_of.ensures.is),
      );
      stop = sym stops;
    }

pub unreachable-requires : goal.unreachable-requires
unreachable-requires g c =
    let lines = c.args.self.now.lines.value in
    let lane = c.args._lane in
    some_left lines lane c.args.number c.requires.command.1 c.requires.command.2 (subst (Waits lines lane c.args.number) c.in_default.ensures.0 c.requires.waits)
