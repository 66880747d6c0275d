use Rattle.ts_store.specs.Calls.{part_reply}
use Rattle.ts_folder.proofs.Ends.{ended_cause, part_is_no_failure}
use Rattle.ts_folder.proofs.folder.FolderStoreStore.get.Goals as goal

pub returns-clause-cause : goal.returns-clause-cause
returns-clause-cause g c =
    ended_cause part_reply part_is_no_failure (record c.args.self.now.tally { asked = c.saturating_add-self.result }) c.end.new.self c.get-bytes.result c.end.result c.end.ensures.later c.end.ensures.ended
