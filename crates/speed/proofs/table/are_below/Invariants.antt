-- Each place so far is below the number.
use Rattle.std.proofs.Common.{ℕ, ◌<◌, get_or}
use Rattle.speed.proofs.table.are_below.Given as goal

abbrev pub invariant-loop-place : goal.invariant-loop-place
invariant-loop-place l = (k d : ℕ) → k < l.place-index → get_or l.places k d < l.count
