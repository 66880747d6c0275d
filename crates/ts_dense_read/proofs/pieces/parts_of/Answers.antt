-- The parts that were built have spellings.
use Rattle.ts_dense_read.proofs.PieceParts.{built_spelled}
use Rattle.ts_dense_read.proofs.pieces.parts_of.Goals as goal

pub returns-clause-spelled : goal.returns-clause-spelled
returns-clause-spelled c = built_spelled c.args.frame.now c.args.schema.now c.args.piece.now c.build.result c.requires c.build.ensures.parts
