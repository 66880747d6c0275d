-- The integers so far.
use Rattle.std.proofs.Common.{◌≡◌, take}
use Rattle.ts_table.proofs.numbers.widened.Given as goal

abbrev pub invariant-loop-number : goal.invariant-loop-number
invariant-loop-number l = l.long.items ≡ take l.number-index l.short.items
