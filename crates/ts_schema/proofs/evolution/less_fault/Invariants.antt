-- The names that are left to be taken away, and the fault of the others.
use Rattle.std.proofs.Common.{◌≡◌, take, drop, [], not, ◌&&◌}
use Rattle.ts_schema.specs.Attrs.{has_attr, has_label, HasNames}
use Rattle.ts_schema.specs.Evolutions.{less_fault}
use Rattle.ts_schema.proofs.evolution.less_fault.Given as goal

abbrev pub invariant-loop-name : goal.invariant-loop-name
invariant-loop-name l = (less_fault l.attrs (take l.name-index l.less) (drop l.name-index l.less) ≡ less_fault l.attrs [] l.less)
    × HasNames l.left (λ name. has_attr l.attrs name && not (has_label (take l.name-index l.less) name))
