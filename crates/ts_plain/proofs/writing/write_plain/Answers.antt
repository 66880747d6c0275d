-- A piece that some object spells is stored as in that object.
use Rattle.ts_plain.proofs.WrittenPieces.{plain_written}
use Rattle.ts_plain.proofs.writing.write_plain.Goals as goal

pub returns-clause-spelled : goal.returns-clause-spelled
returns-clause-spelled c frame attrs has = plain_written frame attrs c.args.piece.now c.write_piece.result has c.write_piece.ensures
