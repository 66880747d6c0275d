use Rattle.std.proofs.Common.{arith}
use Rattle.ts_writer.proofs.Endings.{frame_other, none_left, over_puts, create_puts}
use Rattle.ts_writer.proofs.creating.after_frame.Goals as goal

pub returns-in_default : goal.returns-in_default
returns-in_default g c = record {
  is = frame_other g.P.Pieces.codec c.args.job.now c.put_ended.result c.args.reply.now c.requires.serves.kind c.in_default.not-Made c.in_default.not-Taken c.put_ended.ensures.is;
  may = create_puts c.args.job.now c.put_ended.result (over_puts c.put_ended.result c.put_ended.ensures.over);
  fewer = omega (arith, none_left c.put_ended.result c.put_ended.ensures.over);
}
