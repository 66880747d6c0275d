use Rattle.std.proofs.Common.{◌≡◌, length, map, take}
use Rattle.ts_model.specs.Queries.{high_of}
use Rattle.ts_model.proofs.checking.high_corner.Given as goal

-- the bounds of the dimensions so far
abbrev pub invariant-loop-dim : goal.invariant-loop-dim
invariant-loop-dim l = (length l.numbers ≡ 8) × (take l.dim l.numbers ≡ take l.dim (map (high_of l.named) l.dims))
