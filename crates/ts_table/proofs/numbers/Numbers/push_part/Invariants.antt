-- The integers so far.
use Rattle.std.proofs.Common.{◌≡◌, ◌+◌, ◌++◌, drop, length, take}
use Rattle.ts_table.proofs.numbers.Numbers.push_part.Given as goal

abbrev pub invariant-loop-step : goal.invariant-loop-step
invariant-loop-step l = (l.self ≡ l.initial.self ++ take l.step (drop l.from l.other)) × (length l.self ≡ length l.initial.self + l.step)
