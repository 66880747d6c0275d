-- Each half is shorter than the whole.
use Rattle.std.proofs.Common.{length}
use Rattle.ts_table.proofs.merging.+merge_tables.Given as goal

abbrev pub decreases-merge_tables : goal.decreases-merge_tables
decreases-merge_tables l = length l.tables.now
