use Rattle.std.proofs.Common.{refl}
use Rattle.ts_store.specs.declared.call.Reply.TheVariants as reply
use Rattle.ts_folder.proofs.Ends.{ended_cause}
use Rattle.ts_folder.proofs.folder.FolderStoreStore.list.Goals as goal

pub returns-clause-cause : goal.returns-clause-cause
returns-clause-cause g c =
    ended_cause reply.Names (λ _. refl) (c.args.self.now.tally) c.end.new.self c.names_under-names.result c.end.result c.end.ensures.later c.end.ensures.ended
