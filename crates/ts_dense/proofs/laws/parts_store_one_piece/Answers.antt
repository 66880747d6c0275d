use Rattle.ts_dense.proofs.OnePiece.{one_dense}
use Rattle.ts_dense.proofs.laws.parts_store_one_piece.Goals as goal

pub returns : goal.returns
returns c = one_dense
