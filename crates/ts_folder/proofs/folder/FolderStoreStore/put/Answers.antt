use Rattle.ts_store.specs.Calls.{made_reply}
use Rattle.ts_folder.proofs.Ends.{ended_cause, made_is_no_failure}
use Rattle.ts_folder.proofs.folder.FolderStoreStore.put.Goals as goal

pub returns-clause-cause : goal.returns-clause-cause
returns-clause-cause g c =
    ended_cause made_reply made_is_no_failure (c.args.self.now.tally) c.end.new.self c.put-made.result c.end.result c.end.ensures.later c.end.ensures.ended
