use Rattle.ts_writer.specs.Writing.{calls_left}
use Rattle.ts_writer.proofs.Endings.{puts_fewer}
use Rattle.ts_writer.proofs.making.MakingAutomaton.go.Goals as goal

pub returns-in-Puts-clause-fewer : goal.returns-in-Puts-clause-fewer
returns-in-Puts-clause-fewer g c = rw c.in-Puts.is (puts_fewer g.M.Makes.codec c.args.job.now c.in-Puts.objects c.in-Puts.next c.in-Puts.end (calls_left c.after_put.result) c.after_put.ensures.fewer)
