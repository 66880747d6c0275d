-- The places so far are counted on, the others are not.
use Rattle.std.proofs.Common.{◌≡◌, ℕ, ◌+◌, ◌*◌, ◌≤◌, ◌<◌, length, pos}
use Rattle.std.specs.Prelude.{slice_index_or}
use Rattle.ts_table.specs.Ranks.{steps_on}
use Rattle.ts_table.proofs.ranks.count_short.Given as goal

abbrev pub invariant-loop-place : goal.invariant-loop-place
invariant-loop-place l = record {
  long : length l.places ≡ length l.fn.places;
  done : (k : ℕ) → k < l.place → slice_index_or l.places k 0 ≡ slice_index_or l.fn.places k 0 * l.line.count + steps_on l.line (slice_index_or l.column k (pos 0));
  left : (k : ℕ) → l.place ≤ k → k < length l.fn.places → slice_index_or l.places k 0 ≡ slice_index_or l.fn.places k 0;
}
