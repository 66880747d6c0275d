use Rattle.ts_sparse_read.specs.Restored.{sparse_stores}
use Rattle.ts_sparse_read.proofs.laws.fetches_take_cells_in_order.Goals as goal

pub returns-clause-stores : goal.returns-clause-stores
returns-clause-stores c = sparse_stores
