use Rattle.std.proofs.Common.{◌≡◌, drop}
use Rattle.ts_model.specs.Queries.{dim_place}
use Rattle.ts_model.proofs.checking.dim_place.Given as goal

-- the dimension is among those from here on
abbrev pub invariant-loop-place : goal.invariant-loop-place
invariant-loop-place l = dim_place l.place l.name (drop l.place l.dims) ≡ dim_place 0 l.name l.dims
