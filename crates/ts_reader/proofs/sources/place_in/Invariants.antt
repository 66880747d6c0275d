use Rattle.std.proofs.Common.{◌≡◌, drop}
use Rattle.std.specs.List.{position_from}
use Rattle.ts_schema.specs.declared.attrs.Attr.{Attr}
use Rattle.ts_schema.specs.Attrs.{agrees}
use Rattle.ts_reader.proofs.sources.place_in.Given as goal

-- it is found where it is found among the attributes from here on
abbrev pub invariant-loop-place : goal.invariant-loop-place
invariant-loop-place l = position_from (λ (a : Attr). agrees a l.wanted) l.place (drop l.place l.attrs) ≡ position_from (λ (a : Attr). agrees a l.wanted) 0 l.attrs
