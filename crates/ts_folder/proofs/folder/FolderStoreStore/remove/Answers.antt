use Rattle.std.proofs.Common.{refl}
use Rattle.ts_store.specs.declared.call.Reply.TheVariants as reply
use Rattle.ts_folder.proofs.Ends.{ended_cause}
use Rattle.ts_folder.proofs.folder.FolderStoreStore.remove.Goals as goal

pub returns-clause-cause : goal.returns-clause-cause
returns-clause-cause g c =
    ended_cause (λ _. reply.Removed) (λ _. refl) (c.args.self.now.tally) c.end.new.self c.remove-removed.result c.end.result c.end.ensures.later c.end.ensures.ended
