use Rattle.std.proofs.Common.{◌≡◌, ◌++◌, drop}
use Rattle.ts_top.specs.Ends.{ends_text}
use Rattle.ts_top.specs.Items.{numbered}
use Rattle.ts_top.proofs.ends.print_ends.Given as goal

abbrev pub invariant-loop-index : goal.invariant-loop-index
invariant-loop-index l = l.text ++ ends_text (numbered (drop l.index l.items)) (drop l.index l.results) ≡ ends_text (numbered l.items) l.results
