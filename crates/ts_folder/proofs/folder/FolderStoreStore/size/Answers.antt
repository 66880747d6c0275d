use Rattle.ts_store.specs.Calls.{length_reply}
use Rattle.ts_folder.proofs.Ends.{ended_cause, length_is_no_failure}
use Rattle.ts_folder.proofs.folder.FolderStoreStore.size.Goals as goal

pub returns-clause-cause : goal.returns-clause-cause
returns-clause-cause g c =
    ended_cause length_reply length_is_no_failure (c.args.self.now.tally) c.end.new.self c.size-len.result c.end.result c.end.ensures.later c.end.ensures.ended
