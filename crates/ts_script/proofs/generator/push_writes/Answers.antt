use Rattle.std.proofs.Common.{◌≡◌, ◌+◌, arith, length, rules}
use Rattle.std.proofs.lemmas.List.Elements.{All-push}
use Rattle.ts_model.specs.Jobs.{IsFitLine}
use Rattle.ts_script.proofs.Generating.{writes_more}
use Rattle.ts_script.proofs.generator.push_writes.Goals as goal

pub loop-k-preserved : goal.loop-k-preserved
loop-k-preserved c =
    let (was, fit, many) = c.loop-k.invariant in
    let longer : length c.push.new.self.items ≡ length c.loop-k.lines.items + 1 = rw c.in_ok-push.ensures.items (search rules) in (
      rw c.in_ok-push.ensures.items (writes_more c.args.cells c.loop-k.k c.args.count c.loop-k.lines.items _ _ c.loop-k-test.true (search rules) was),
      rw c.in_ok-push.ensures.items (All-push IsFitLine _ _ fit c.stamped.ensures.fit),
      omega (arith, longer, many),
    )
