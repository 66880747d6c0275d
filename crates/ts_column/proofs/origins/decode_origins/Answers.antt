-- What is decoded was spelled so.
use Rattle.ts_column.proofs.OriginLaws.{decoded_spelled}
use Rattle.ts_column.proofs.origins.decode_origins.Goals as goal

pub returns-clause-spelled : goal.returns-clause-spelled
returns-clause-spelled c = decoded_spelled c.args.entries c.args.count c.args.bytes.now _ c.ranges.entries.fits c.are_bytes.ensures c.read_origins.ensures
