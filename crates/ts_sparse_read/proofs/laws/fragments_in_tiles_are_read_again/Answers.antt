use Rattle.ts_sparse_read.specs.SparseLaws.{sparse_one}
use Rattle.ts_sparse_read.proofs.laws.fragments_in_tiles_are_read_again.Goals as goal

pub returns-clause-one_piece : goal.returns-clause-one_piece
returns-clause-one_piece c = sparse_one
