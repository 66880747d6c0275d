use Rattle.std.proofs.Common.{◌≡◌, drop, find, map, not}
use Rattle.ts_cond.specs.declared.query.NamedBox.{NamedBox}
use Rattle.ts_domain.specs.Dims.{has_name}
use Rattle.ts_model.proofs.checking.unknown_dim.Given as goal

-- the first unknown name is among those from here on
abbrev pub invariant-loop-bounds : goal.invariant-loop-bounds
invariant-loop-bounds l = find (λ name. not (has_name l.dims name)) (map (λ (b : NamedBox). b.name) (drop l.bounds-index l.named)) ≡ find (λ name. not (has_name l.dims name)) (map (λ (b : NamedBox). b.name) l.named)
