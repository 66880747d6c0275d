use Rattle.std.proofs.Common.{◌∙◌, sym}
use Rattle.ts_top.proofs.Refusing.{refusal_later}
use Rattle.ts_top.proofs.summaries.print_refusal.Goals as goal

pub loop-index-preserved : goal.loop-index-preserved
loop-index-preserved c =
    refusal_later c.args.items.now c.args.results.now c.loop-index.index _ c.requires.count c.loop-index-test.true c.index-results-index.is (sym c.was_refused.ensures ∙ c.if-was_refused.false) ∙ c.loop-index.invariant
