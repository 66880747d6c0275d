-- Those so far lie below.
use Rattle.std.proofs.Common.{ℕ, ◌<◌, get_or}
use Rattle.ts_gather.proofs.chosen.are_below.Given as goal

abbrev pub invariant-loop-attr : goal.invariant-loop-attr
invariant-loop-attr l = (i : ℕ) → i < l.attr-index → get_or l.attrs i 0 < l.end
