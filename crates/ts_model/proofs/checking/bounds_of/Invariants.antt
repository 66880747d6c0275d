use Rattle.std.proofs.Common.{◌≡◌, drop, find}
use Rattle.ts_cond.specs.declared.query.NamedBox.{NamedBox}
use Rattle.ts_schema.specs.Attrs.{same_name}
use Rattle.ts_model.proofs.checking.bounds_of.Given as goal

-- the bounds are among those from here on
abbrev pub invariant-loop-bounds : goal.invariant-loop-bounds
invariant-loop-bounds l = find (λ (b : NamedBox). same_name b.name l.name) (drop l.bounds-index l.named) ≡ find (λ (b : NamedBox). same_name b.name l.name) l.named
