-- A call that was asked for is one less.
use Rattle.ts_model.specs.States.{put_of}
use Rattle.ts_actor.proofs.Collected.{within_asked}
use Rattle.ts_consolidate.proofs.steps.MergesAutomaton.go.Goals as goal

pub returns-in-Merges-clause-fewer : goal.returns-in-Merges-clause-fewer
returns-in-Merges-clause-fewer g c = rw c.in-Merges.is c.go_merging.ensures.fewer

pub returns-in-Puts-clause-fewer : goal.returns-in-Puts-clause-fewer
returns-in-Puts-clause-fewer g c = rw c.in-Puts.is (λ asked. c.after_put.ensures.fewer (within_asked put_of c.in-Puts.objects c.in-Puts.next asked))
