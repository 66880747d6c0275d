use Rattle.ts_writer.proofs.Hulls.{point_box}
use Rattle.ts_writer.proofs.pieces.box_of.Goals as goal

pub returns-clause-valid : goal.returns-clause-valid
returns-clause-valid c = point_box c.args.at.now
