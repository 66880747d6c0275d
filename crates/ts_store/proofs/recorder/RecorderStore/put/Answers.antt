-- The call is entered with its fate, unless there was no memory.
use Rattle.std.proofs.Common.{ℕ, Bool, List, subst, refl, ap, ◌∙◌}
use Rattle.ts_store.specs.declared.call.Call.TheVariants as call
use Rattle.ts_store.specs.declared.call.Made.TheVariants as made
use Rattle.ts_base.specs.declared.names.Name.{Name}
use Rattle.ts_store.specs.declared.fate.Fate.{Fate}
use Rattle.ts_store.specs.declared.journal.Entry.{Entry}
use Rattle.ts_store.specs.Journals.{entry, EntersIf}
use Rattle.ts_store.specs.Calls.{made_reply}
use Rattle.ts_store.proofs.RecorderLemmas.{found_none_reply, recorded}
use Rattle.ts_store.proofs.recorder.RecorderStore.put.Goals as goal

-- a put of these bytes is entered
abbrev EntersPut : Bool → List Entry → List Entry → ℕ → Name → Fate → List ℕ → Type 0
EntersPut missed front journal lane name did bytes = EntersIf missed front journal (entry lane (call.Put name bytes) did)

pub returns-clause-notes : goal.returns-clause-notes
returns-clause-notes g c =
    recorded g.S.Store.faults g.S.Store.asked g.S.Store.last g.S.Store.notes c.args.self.now _ c.open.new.self (call.Put c.args.name c.args.bytes.now) _ c.found_none.result c.fate-fate.result
    (ap (λ b. b.lane) c.in_ok-open.ensures.ok) (ap (λ b. b.journal) c.in_ok-open.ensures.ok) (λ front e is. subst (EntersPut c.found_none.result front c.close.new.self.journal c.open.new.self.lane c.args.name c.fate-fate.result) c.in-Ok.ensures (c.close.ensures.enters front e is)) c.close.ensures.last (ap (λ b. b.lane) c.close.ensures.same)
    (c.found_none.ensures ∙ found_none_reply made_reply (elim [ made.New ↦ refl | made.Taken ↦ refl ]) c.put-answer.result)
    (c.put-answer.ensures.notes, c.put-answer.ensures.asked) c.fate-fate.ensures c.put-answer.ensures.cause c.put-answer.ensures.answers.served
