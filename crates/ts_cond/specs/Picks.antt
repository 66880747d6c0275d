-- Where a condition finds the values of its fields, and which cells match.
use Rattle.std.specs.Prelude.{ℕ, ◌+◌, ℤ, Bool, ◌&&◌, nat_eq, if◌then◌else◌, List, [], ◌∷◌, map, Option, Some, None, slice_get}
use Rattle.std.specs.Bool.{beq}
use Rattle.std.specs.Cmp.Lexicographic.{pointwise}
use Rattle.ts_base.specs.declared.values.Val.{Val}
use Rattle.ts_base.specs.declared.values.Val.TheVariants.{Null, Int}
use Rattle.ts_base.specs.declared.values.ValType.{ValType}
use Rattle.ts_base.specs.contracts.values.ValTypePartialEq.TheImpl as types
use Rattle.ts_cond.specs.declared.fields.CondField.{CondField}
use Rattle.ts_cond.specs.declared.fields.Pick.{Pick}
use Rattle.ts_cond.specs.declared.fields.Pick.TheVariants.{Coord, Attr, Fill}
use Rattle.ts_cond.specs.Tests.{Condition}
use Rattle.ts_cond.specs.Holds.{holds}

-- two types are one
abbrev pub is_type : ValType → ValType → Bool
is_type = (types.ghosts).eq

-- an attribute counts as the field: name, type and nullability agree
abbrev pub is_same_field : CondField → CondField → Bool
is_same_field field attr = pointwise nat_eq field.name attr.name && (is_type field.ty attr.ty && beq field.nullable attr.nullable)

-- the value of the agreeing attribute in the row, or else the recorded fill
abbrev pub value_under : CondField → List CondField → List Val → Val
value_under field (attr ∷ attrs) (val ∷ row) = if is_same_field field attr then val else value_under field attrs row
value_under field _ _ = field.fill

-- the coordinate, or else the recorded fill
abbrev pub coordinate_or : Option ℤ → Val → Val
coordinate_or (Some z) fill = Int z
coordinate_or None fill = fill

abbrev pub value_by : Option ℕ → CondField → List ℤ → List CondField → List Val → Val
value_by (Some dim) field coords attrs row = coordinate_or (slice_get coords dim) field.fill
value_by None field coords attrs row = value_under field attrs row

-- what a field has at a cell: a dimension its coordinate, an attribute the row's value where the attributes have an agreeing one, or else the recorded fill
abbrev pub value_of : CondField → List ℤ → List CondField → List Val → Val
value_of field coords attrs row = value_by field.dim field coords attrs row

abbrev pub known : Option Val → Val
known (Some val) = val
known None = Null

-- the value of the field at this place of the table
abbrev pub field_value : List CondField → List ℤ → List CondField → List Val → ℕ → Val
field_value fields coords attrs row n = known (slice_get (map (λ field. value_of field coords attrs row) fields) n)

-- the condition matches a cell with a row under these attributes
abbrev pub matches : Condition → List ℤ → List CondField → List Val → Bool
matches condition coords attrs row = holds (field_value condition.fields coords attrs row) condition.root

-- the place of the agreeing attribute, if there is one; `place` attributes stand before these
abbrev pub place_from : CondField → ℕ → List CondField → Option ℕ
place_from field place [] = None
place_from field place (attr ∷ attrs) = if is_same_field field attr then Some place else place_from field (place + 1) attrs

-- the place in the row, or else the recorded fill
abbrev pub place_or_fill : Option ℕ → CondField → Pick
place_or_fill (Some place) field = Attr place
place_or_fill None field = Fill field.fill

abbrev pub pick_by : Option ℕ → CondField → List CondField → Pick
pick_by (Some dim) field attrs = Coord dim
pick_by None field attrs = place_or_fill (place_from field 0 attrs) field

-- where a field's value is found
abbrev pub pick_of : List CondField → CondField → Pick
pick_of attrs field = pick_by field.dim field attrs

-- where the value of each field is found
abbrev pub picks_of : List CondField → List CondField → List Pick
picks_of attrs fields = map (pick_of attrs) fields

abbrev pub val_or : Option Val → Val → Val
val_or (Some val) fill = val
val_or None fill = fill

-- the value that a pick finds for a field
abbrev pub picked : Pick → CondField → List ℤ → List Val → Val
picked (Coord dim) field coords row = coordinate_or (slice_get coords dim) field.fill
picked (Attr place) field coords row = val_or (slice_get row place) field.fill
picked (Fill val) field coords row = val

abbrev pub picked_by : Option Pick → Option CondField → List ℤ → List Val → Val
picked_by (Some pick) (Some field) coords row = picked pick field coords row
picked_by _ _ coords row = Null

-- the value that the picks find for the field at this place of the table
abbrev pub picked_value : List Pick → List CondField → List ℤ → List Val → ℕ → Val
picked_value picks fields coords row n = picked_by (slice_get picks n) (slice_get fields n) coords row
