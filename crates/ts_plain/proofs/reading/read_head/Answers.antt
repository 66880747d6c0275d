-- The head of what is spelled, and what is broken, whatever the attributes are.
use Rattle.ts_plain.proofs.PlainPieces.{only_head, broken_head}
use Rattle.ts_plain.proofs.reading.read_head.Goals as goal

pub returns-clause-only : goal.returns-clause-only
returns-clause-only c attrs piece named is = only_head c.args.frame.now attrs piece c.args.frag c.args.object.now _ named is c.read_piece_head.ensures

pub returns-clause-broken : goal.returns-clause-broken
returns-clause-broken c attrs = broken_head c.args.frame.now attrs c.args.frag c.args.object.now _ c.read_piece_head.ensures
