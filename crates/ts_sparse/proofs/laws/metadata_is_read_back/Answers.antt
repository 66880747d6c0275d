use Rattle.ts_sparse.proofs.ToldLaws.{head_told}
use Rattle.ts_sparse.proofs.laws.metadata_is_read_back.Goals as goal

pub returns-clause-head : goal.returns-clause-head
returns-clause-head c frame schema = head_told frame schema.attrs
