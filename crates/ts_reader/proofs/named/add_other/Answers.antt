-- Another key takes its place.
use Rattle.std.proofs.Common.{rules}
use Rattle.ts_reader.proofs.Newer.{other_put}
use Rattle.ts_reader.proofs.named.add_other.Goals as goal

pub returns-in_ok-insert : goal.returns-in_ok-insert
returns-in_ok-insert c = other_put c.args.named.now c.insert.new.self c.args.current c.args.key (search rules) c.in_ok-insert.ensures.updates
