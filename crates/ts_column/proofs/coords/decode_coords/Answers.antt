-- What is decoded was spelled so.
use Rattle.ts_column.proofs.CoordLaws.{decoded_spelled}
use Rattle.ts_column.proofs.coords.decode_coords.Goals as goal

pub returns-clause-spelled : goal.returns-clause-spelled
returns-clause-spelled c = decoded_spelled c.args.ty c.args.low.now c.args.high.now c.args.count c.args.bytes.now _ c.requires c.are_bytes.ensures c.read_coords.ensures
