-- The integers so far.
use Rattle.std.proofs.Common.{◌≡◌, ◌++◌, length, take}
use Rattle.ts_table.proofs.long.extend_wide.Given as goal

abbrev pub invariant-loop-number : goal.invariant-loop-number
invariant-loop-number l = (l.wide.items ≡ l.initial.wide.items ++ take l.number-index l.more) × (l.before ≡ length l.initial.wide.items)
