use Rattle.std.proofs.Common.{◌≡◌, ◌+◌, drop}
use Rattle.ts_model.specs.Queries.{attr_place}
use Rattle.ts_model.proofs.checking.attr_place.Given as goal

-- the attribute is among those from here on
abbrev pub invariant-loop-place : goal.invariant-loop-place
invariant-loop-place l = attr_place (l.first + l.place) l.name (drop l.place l.attrs) ≡ attr_place l.first l.name l.attrs
