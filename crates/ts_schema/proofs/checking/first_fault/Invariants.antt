-- The names so far, and the fault of the attributes that are left.
use Rattle.std.proofs.Common.{◌≡◌, take, drop, []}
use Rattle.ts_schema.specs.Attrs.{has_attr, HasNames}
use Rattle.ts_schema.specs.Faults.{fault_behind}
use Rattle.ts_schema.proofs.checking.first_fault.Given as goal

abbrev pub invariant-loop-attr : goal.invariant-loop-attr
invariant-loop-attr l = (fault_behind l.dims (take l.attr-index l.attrs) (drop l.attr-index l.attrs) ≡ fault_behind l.dims [] l.attrs)
    × HasNames l.names (has_attr (take l.attr-index l.attrs))
