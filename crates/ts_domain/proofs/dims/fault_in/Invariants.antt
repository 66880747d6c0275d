use Rattle.std.proofs.Common.{◌≡◌, take, drop, []}
use Rattle.ts_domain.specs.Dims.{fault_behind}
use Rattle.ts_domain.proofs.dims.fault_in.Given as goal

abbrev pub invariant-loop-place : goal.invariant-loop-place
invariant-loop-place l = fault_behind (take l.place l.dims) (drop l.place l.dims) ≡ fault_behind [] l.dims
