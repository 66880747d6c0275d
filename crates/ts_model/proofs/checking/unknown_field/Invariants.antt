use Rattle.std.proofs.Common.{◌≡◌, ◌||◌, drop, find, not}
use Rattle.ts_domain.specs.Dims.{has_name}
use Rattle.ts_schema.specs.Attrs.{has_attr}
use Rattle.ts_model.proofs.checking.unknown_field.Given as goal

-- the first unknown name is among those from here on
abbrev pub invariant-loop-name : goal.invariant-loop-name
invariant-loop-name l = find (λ name. not (has_name l.dims name || has_attr l.attrs name)) (drop l.name-index l.names) ≡ find (λ name. not (has_name l.dims name || has_attr l.attrs name)) l.names
