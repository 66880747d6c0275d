use Rattle.std.proofs.Common.{◌≡◌, take, drop, []}
use Rattle.ts_schema.specs.Faults.{fault_behind}
use Rattle.ts_schema.proofs.checking.first_fault_in_place.Given as goal

abbrev pub invariant-loop-place : goal.invariant-loop-place
invariant-loop-place l = fault_behind l.dims (take l.place l.attrs) (drop l.place l.attrs) ≡ fault_behind l.dims [] l.attrs
