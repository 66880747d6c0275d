use Rattle.ts_writer.proofs.SpotRuns.{run_grown}
use Rattle.ts_writer.proofs.runs.add_run.Goals as goal

pub loop-step-preserved : goal.loop-step-preserved
loop-step-preserved c = run_grown _ c.loop-step.spots.items _ c.args.from c.loop-step.step c.loop-step.invariant c.in_ok-push.ensures.items
