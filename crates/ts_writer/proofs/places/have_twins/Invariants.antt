-- So far no version stands at the cell of the next.
use Rattle.ts_writer.specs.Tables.{AreApart}
use Rattle.ts_writer.proofs.places.have_twins.Given as goal

abbrev pub invariant-loop-next : goal.invariant-loop-next
invariant-loop-next l = AreApart l.table l.places l.next
