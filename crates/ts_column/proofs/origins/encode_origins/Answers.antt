-- What is spelled is decoded.
use Rattle.ts_column.proofs.OriginLaws.{encoded_back}
use Rattle.ts_column.proofs.origins.encode_origins.Goals as goal

pub returns-clause-back : goal.returns-clause-back
returns-clause-back c = encoded_back c.args.entries c.args.origins.now _ c.ranges.entries.fits c.requires c.write_origins.ensures
