-- The data that a JSON value stands for.
use Rattle.std.specs.Prelude.{List, ◌++◌, map, String, string_bytes}
use Rattle.std.specs.declared.alloc.Global.{Global}
use Rattle.serde_json.specs.Data.{Data, null, boolean, number, string, array, object, Items, Members}
use Rattle.serde_json.specs.Find.{of_integer}
use Rattle.serde_json.specs.View.{number_view, items_of, members_of}
use Rattle.ts_base.specs.declared.values.Val.{Val}
use Rattle.ts_base.specs.declared.values.Val.TheVariants as val
use Rattle.ts_script.specs.declared.tree.Json.{Json, fold-Json}
use Rattle.ts_script.specs.declared.tree.Json.TheOpen.{Json-F}

-- the data of a value of a cell
abbrev pub data_of : Val → Data
data_of val.Null = null
data_of (val.Int z) = number (of_integer z)
data_of (val.Bytes bytes) = string bytes

-- one level, with each value inside already seen as its data
abbrev pub view_step : Json-F Data → Data
view_step Json-F.Null = null
view_step (Json-F.Bool b) = boolean b
view_step (Json-F.Number x) = number (number_view x)
view_step (Json-F.Text s) = string (string_bytes s)
view_step (Json-F.Values cells rest) = array (items_of (map data_of cells.value.column ++ rest.items))
view_step (Json-F.List list) = array (items_of list.items)
view_step (Json-F.Object m) = object (members_of m.entries)

-- the data of a value
abbrev pub view : Json → Data
view = fold-Json Data view_step

-- the items of a list
abbrev pub items_view : List Json → Items
items_view values = items_of (map view values)

-- the members of an object
abbrev pub members_view : List (String Global × Json) → Members
members_view entries = members_of (map (λ e. (e.0, view e.1)) entries)
