-- The cells so far came once, and their coordinates are in the set.
use Rattle.std.proofs.Common.{◌≡◌, ℕ, ◌<◌, [], List, ℤ, take, drop, false}
use Rattle.std.specs.Prelude.{is_some}
use Rattle.std.specs.Ordering.{int_cmp}
use Rattle.std.specs.Cmp.Lexicographic.{slice_cmp}
use Rattle.std.specs.BTreeSet.{contains}
use Rattle.ts_table.specs.Tables.{version_or}
use Rattle.ts_model.specs.Deeds.{row_at}
use Rattle.ts_model.specs.Commands.{again_in}
use Rattle.ts_writer.specs.Tables.{cells_in}
use Rattle.ts_writer.proofs.places.again.Given as goal

abbrev pub invariant-loop-place : goal.invariant-loop-place
invariant-loop-place l = record {
  left : again_in (take l.place (cells_in l.table)) l.place (drop l.place (cells_in l.table)) ≡ again_in [] 0 (cells_in l.table);
  seen : (q : List ℤ) → contains (slice_cmp int_cmp) l.seen q ≡ is_some (row_at q (take l.place (cells_in l.table)));
  new : (j : ℕ) → j < l.place → is_some (row_at (version_or l.table j).coords (take j (cells_in l.table))) ≡ false;
}
