-- Where the values of attributes stand in rows of each schema that a read knows.
use Rattle.std.specs.Prelude.{ℕ, List, Option, option_and_then, slice_get, map as list_map}
use Rattle.std.specs.List.{position_from}
use Rattle.std.specs.Option.{option_map_or}
use Rattle.ts_base.specs.declared.values.Val.{Val}
use Rattle.ts_schema.specs.declared.attrs.Attr.{Attr}
use Rattle.ts_schema.specs.Attrs.{agrees}
use Rattle.ts_reader.specs.declared.bindings.Bindings.{Bindings}
use Rattle.ts_reader.specs.declared.sources.Source.{Source}

-- the place of the first of these attributes that agrees with the wanted one
abbrev pub place_in : List Attr → Attr → Option ℕ
place_in attrs wanted = position_from (λ a. agrees a wanted) 0 attrs

-- where the values of an attribute stand in rows of each schema
abbrev pub source_of : Bindings → Attr → Source
source_of bindings wanted = record { current = place_in (bindings.current).attrs wanted; further = list_map (λ b. place_in b.attrs wanted) bindings.further }

-- the value of a row at a place, or the fill of the attribute where there is none
abbrev pub val_there : Option ℕ → List Val → Attr → Val
val_there place row wanted = option_map_or (λ val. val) (option_and_then (λ p. slice_get row p) place) wanted.fill
