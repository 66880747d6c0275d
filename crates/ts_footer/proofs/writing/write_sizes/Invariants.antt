use Rattle.std.proofs.Common.{◌++◌}
use Rattle.ts_footer.proofs.Writes.{numbers_text, Written}
use Rattle.ts_footer.proofs.writing.write_sizes.Given as goal

-- the numbers so far, and those that are left, are all
abbrev pub invariant-loop-place : goal.invariant-loop-place
invariant-loop-place l = Written l.forms l.lengths l.starts l.place l.next l.scribe (l.fn.scribe ++ numbers_text l.forms l.lengths l.starts)
