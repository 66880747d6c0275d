-- The call is entered with its fate, unless there was no memory.
use Rattle.std.proofs.Common.{Some, None, refl, ap, ◌∙◌}
use Rattle.ts_store.specs.declared.call.Call.TheVariants as call
use Rattle.ts_store.specs.Calls.{part_reply}
use Rattle.ts_store.proofs.RecorderLemmas.{found_none_reply, recorded}
use Rattle.ts_store.proofs.recorder.RecorderStore.get.Goals as goal

pub returns-clause-notes : goal.returns-clause-notes
returns-clause-notes g c =
    recorded g.S.Store.faults g.S.Store.asked g.S.Store.last g.S.Store.notes c.args.self.now _ c.open.new.self (call.Get c.args.name c.args.from c.args.len) _ c.found_none.result c.fate-fate.result
    (ap (λ b. b.lane) c.in_ok-open.ensures.ok) (ap (λ b. b.journal) c.in_ok-open.ensures.ok) c.close.ensures.enters c.close.ensures.last (ap (λ b. b.lane) c.close.ensures.same)
    (c.found_none.ensures ∙ found_none_reply part_reply (elim [ None ↦ refl | Some bytes ↦ refl ]) c.get-answer.result)
    (c.get-answer.ensures.notes, c.get-answer.ensures.asked) c.fate-fate.ensures c.get-answer.ensures.cause c.get-answer.ensures.answers.served
