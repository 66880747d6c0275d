use Rattle.std.proofs.Common.{arith}
use Rattle.ts_writer.proofs.Endings.{present_other, none_left, over_puts, create_puts}
use Rattle.ts_writer.proofs.creating.after_present.Goals as goal

pub returns-in_default : goal.returns-in_default
returns-in_default g c = record {
  is = present_other g.P.Pieces.codec c.args.job.now c.get_ended.result c.args.reply.now c.in_default.not-Bytes c.get_ended.ensures.is;
  may = create_puts c.args.job.now c.get_ended.result (over_puts c.get_ended.result c.get_ended.ensures.over);
  fewer = omega (arith, none_left c.get_ended.result c.get_ended.ensures.over);
}
