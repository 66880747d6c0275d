-- The call is entered with its fate, unless there was no memory.
use Rattle.std.proofs.Common.{refl, ap, ◌∙◌}
use Rattle.ts_store.specs.declared.call.Call.TheVariants as call
use Rattle.ts_store.specs.declared.call.Reply.TheVariants as reply
use Rattle.ts_store.proofs.RecorderLemmas.{found_none_reply, recorded}
use Rattle.ts_store.proofs.recorder.RecorderStore.remove.Goals as goal

pub returns-clause-notes : goal.returns-clause-notes
returns-clause-notes g c =
    recorded g.S.Store.faults g.S.Store.asked g.S.Store.last g.S.Store.notes c.args.self.now _ c.open.new.self (call.Remove c.args.name) _ c.found_none.result c.fate-fate.result
    (ap (λ b. b.lane) c.in_ok-open.ensures.ok) (ap (λ b. b.journal) c.in_ok-open.ensures.ok) c.close.ensures.enters c.close.ensures.last (ap (λ b. b.lane) c.close.ensures.same)
    (c.found_none.ensures ∙ found_none_reply (λ _. reply.Removed) (λ _. refl) c.remove-answer.result)
    (c.remove-answer.ensures.notes, c.remove-answer.ensures.asked) c.fate-fate.ensures c.remove-answer.ensures.cause c.remove-answer.ensures.answers.served
