-- None of those so far is a dimension.
use Rattle.std.proofs.Common.{ℕ, ◌<◌, ◌≤◌, get_or}
use Rattle.ts_select.proofs.whole.is_shown.Given as goal

abbrev pub invariant-loop-field : goal.invariant-loop-field
invariant-loop-field l = (k : ℕ) → k < l.field-index → l.dims ≤ get_or l.fields k 0
