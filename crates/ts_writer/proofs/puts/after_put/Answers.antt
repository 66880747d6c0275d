use Rattle.std.proofs.Common.{arith}
use Rattle.ts_writer.proofs.Endings.{put_other, none_left, over_puts}
use Rattle.ts_writer.proofs.puts.after_put.Goals as goal

pub returns-in_default : goal.returns-in_default
returns-in_default g c = record {
  may = over_puts c.put_ended.result c.put_ended.ensures.over;
  fewer = λ h. omega (arith, h, none_left c.put_ended.result c.put_ended.ensures.over);
  is = put_other c.args.objects c.args.next c.args.end c.at.result.now c.put_ended.result c.args.reply.now c.at.ensures c.in_default.not-Made c.put_ended.ensures.is;
}
