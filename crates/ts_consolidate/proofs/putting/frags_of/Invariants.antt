-- The names of the first source and of the others so far.
use Rattle.std.proofs.Common.{◌≡◌, ◌∷◌, take}
use Rattle.ts_model.specs.States.{frags_of}
use Rattle.ts_consolidate.proofs.putting.frags_of.Given as goal

abbrev pub invariant-loop-one : goal.invariant-loop-one
invariant-loop-one l = l.frags ≡ frags_of (l.first ∷ take l.one-index l.others)
