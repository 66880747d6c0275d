use Rattle.ts_sparse_read.specs.SparseBroken.{sparse_whole}
use Rattle.ts_sparse_read.proofs.laws.what_is_refused_is_broken.Goals as goal

pub returns-clause-whole : goal.returns-clause-whole
returns-clause-whole c = sparse_whole
