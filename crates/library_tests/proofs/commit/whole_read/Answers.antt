-- The fragment of the one `.vac` is committed.
use Rattle.std.proofs.Common.{arith, rules}
use Rattle.std.proofs.lemmas.Grind.{common_steps}
use Rattle.library_tests.proofs.WorkedHeads.{one_counts}
use Rattle.library_tests.proofs.commit.whole_read.Goals as goal

pub select-requires-clause-count : goal.select-requires-clause-count
select-requires-clause-count c = one_counts _ _ _ c.in_ok-vacs.ensures (first_of (search rules, grind (arith, common_steps)))
