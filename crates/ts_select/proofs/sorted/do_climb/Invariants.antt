-- Each of the cells so far comes before the next.
use Rattle.ts_select.specs.Sites.{Climb}
use Rattle.ts_select.proofs.sorted.do_climb.Given as goal

abbrev pub invariant-loop-next : goal.invariant-loop-next
invariant-loop-next l = Climb l.frame l.layout l.cells l.places l.next
