-- How many of the places so far are found.
use Rattle.std.proofs.Common.{◌≡◌, false, get_or, length}
use Rattle.std.specs.Prelude.{filter}
use Rattle.std.specs.List.{range_with_len}
use Rattle.ts_select.proofs.places.found_count.Given as goal

abbrev pub invariant-loop-place : goal.invariant-loop-place
invariant-loop-place l = l.count ≡ length (filter (λ place. get_or l.found place false) (range_with_len 0 l.place))
