use lib.Utf8.{encode}
use Rattle.std.proofs.Common.{decimal}
use Rattle.ts_base.proofs.parse.read_column.Goals as goal

pub returns-in-None-clause-dim : goal.returns-in-None-clause-dim
unfolding encode
returns-in-None-clause-dim c = λ number fits is. absurd (c.in-None.ensures.cases (decimal number) is)
