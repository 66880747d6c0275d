-- While the answer is yes, the starts so far rise to the last of them.
use Rattle.std.proofs.Common.{IsTrue, take}
use Rattle.ts_table.specs.Texts.{RisesTo}
use Rattle.ts_column.proofs.texts.do_rise.Given as goal

abbrev pub invariant-loop-start : goal.invariant-loop-start
invariant-loop-start l = IsTrue l.all → RisesTo (take l.start-index l.starts) l.before
