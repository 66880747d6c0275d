use Rattle.std.proofs.Common.{◌≡◌, ◌++◌, drop}
use Rattle.std.specs.Prelude.{filter_map}
use Rattle.ts_model.specs.Queries.{field_place}
use Rattle.ts_model.proofs.checking.places_of.Given as goal

-- the places so far, and those of the names from here on
abbrev pub invariant-loop-name : goal.invariant-loop-name
invariant-loop-name l = l.places ++ filter_map (field_place l.dims l.attrs) (drop l.name-index l.names) ≡ filter_map (field_place l.dims l.attrs) l.names
