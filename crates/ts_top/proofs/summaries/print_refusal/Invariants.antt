use Rattle.std.proofs.Common.{◌≡◌, drop}
use Rattle.ts_top.specs.Items.{numbered}
use Rattle.ts_top.specs.Summaries.{refusal_text}
use Rattle.ts_top.proofs.summaries.print_refusal.Given as goal

abbrev pub invariant-loop-index : goal.invariant-loop-index
invariant-loop-index l = refusal_text (numbered (drop l.index l.items)) (drop l.index l.results) ≡ refusal_text (numbered l.items) l.results
