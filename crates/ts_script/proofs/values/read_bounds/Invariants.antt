use Rattle.std.proofs.Common.{◌≡◌, []}
use Rattle.ts_script.specs.Trees.{members_view}
use Rattle.ts_script.specs.Values.{bounds_onto}
use Rattle.ts_script.proofs.values.read_bounds.Given as goal

abbrev pub invariant-loop-key : goal.invariant-loop-key
invariant-loop-key l = bounds_onto l.done (members_view l.key-iterator) ≡ bounds_onto [] (members_view l.members.entries)
