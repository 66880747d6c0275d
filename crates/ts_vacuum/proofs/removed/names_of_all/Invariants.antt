-- The objects of the fragments so far.
use Rattle.std.proofs.Common.{◌≡◌, length, take}
use Rattle.ts_model.specs.States.{names_of_all}
use Rattle.ts_vacuum.proofs.removed.names_of_all.Given as goal

abbrev pub invariant-loop-frag : goal.invariant-loop-frag
invariant-loop-frag l = l.names ≡ names_of_all l.sweep (take (length l.yielded) l.set) (take (length l.yielded) l.listed)
