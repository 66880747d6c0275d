-- The places so far.
use Rattle.std.proofs.Common.{◌≡◌, ◌+◌, ◌*◌, ◌++◌, map}
use Rattle.std.specs.List.{range_with_len}
use Rattle.ts_gather.proofs.starts.push_rows.Given as goal

abbrev pub invariant-loop-row : goal.invariant-loop-row
invariant-loop-row l = l.starts.items ≡ l.initial.starts.items ++ map (λ row. l.first + row * l.apart) (range_with_len 0 l.row)
