-- A key takes its place.
use Rattle.ts_consolidate.proofs.Keys.{key_put}
use Rattle.ts_consolidate.proofs.named.add_key.Goals as goal

pub returns : goal.returns
returns c = key_put c.args.named.now c.insert.new.self c.args.key c.in_ok-insert.ensures.updates
