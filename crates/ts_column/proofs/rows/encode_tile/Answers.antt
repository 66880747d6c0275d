-- There are as many values as rows.
use Rattle.ts_column.proofs.Written.{rows_back}
use Rattle.ts_column.proofs.rows.encode_tile.Goals as goal

pub returns-clause-back : goal.returns-clause-back
returns-clause-back c = rows_back c.args.column c.args.rows.now c.in_ok-values.values c.args.ty c.args.nullable c.encode_column.result c.in_ok-values.ensures c.encode_column.ensures.back
