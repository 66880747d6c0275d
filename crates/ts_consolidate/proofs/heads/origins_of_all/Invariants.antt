-- The origins of the first head and of the others so far.
use Rattle.std.proofs.Common.{◌≡◌, ◌∷◌, take}
use Rattle.ts_model.specs.Merging.{origins_of_all}
use Rattle.ts_consolidate.proofs.heads.origins_of_all.Given as goal

abbrev pub invariant-loop-head : goal.invariant-loop-head
invariant-loop-head l = l.origins.keys ≡ origins_of_all (l.first ∷ take l.head-index l.others)
