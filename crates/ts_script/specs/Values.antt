-- Names, types, values, dimensions, attributes and stops as JSON values.
use Rattle.std.specs.Prelude.{ℕ, pos, List, [], ◌∷◌, ◌++◌, codes, Bool, false, if◌then◌else◌, Option, Some, None, option_map}
use Rattle.std.specs.Option.{option_map_or}
use Rattle.std.specs.Str.{bytes_eq}
use Rattle.serde_json.specs.Data.{Data, null, number, string, Members, no_members, member}
use Rattle.serde_json.specs.Find.{as_bool, as_integer, as_object, as_str, as_u64, get}
use Rattle.ts_base.specs.declared.values.ValType.{ValType}
use Rattle.ts_base.specs.declared.values.ValType.TheVariants.{I8, I16, I32, I64, U8, U16, U32, U64, Text, Blob}
use Rattle.ts_base.specs.declared.values.Val.{Val}
use Rattle.ts_base.specs.declared.values.Val.TheVariants.{Null, Int, Bytes}
use Rattle.ts_base.specs.declared.heads.Point.{Point}
use Rattle.ts_base.specs.declared.heads.Point.TheVariants.{Vac, Wrt, PartGone}
use Rattle.ts_base.specs.declared.heads.Stop.{Stop}
use Rattle.ts_base.specs.declared.heads.Stop.TheVariants.{Calls, Before}
use Rattle.ts_base.specs.Labels.{label_of}
use Rattle.ts_value.specs.Fill.{fill_of}
use Rattle.ts_domain.specs.declared.dims.Dim.{Dim}
use Rattle.ts_domain.specs.declared.orders.Order.{Order}
use Rattle.ts_domain.specs.declared.orders.Order.TheVariants.{Row, Col}
use Rattle.ts_domain.specs.declared.orders.Layout.{Layout}
use Rattle.ts_domain.specs.declared.orders.Layout.TheVariants as layouts
use Rattle.ts_schema.specs.declared.attrs.Attr.{Attr}
use Rattle.ts_cond.specs.declared.query.NamedBox.{NamedBox}
use Rattle.ts_model.specs.declared.commands.ColIn.{ColIn}
use Rattle.ts_model.specs.Commands.{blob_bytes}
use Rattle.ts_script.specs.Shapes.{◌>>=◌, when, integer, required, optional, list_of, both_items, has_only}

-- a label
abbrev pub label : Data → Option (List ℕ)
label d = as_str d >>= label_of

-- the type of a name
abbrev pub type_named : List ℕ → Option ValType
type_named name =
    if bytes_eq name (codes "int8") then Some I8
    else (if bytes_eq name (codes "int16") then Some I16
    else (if bytes_eq name (codes "int32") then Some I32
    else (if bytes_eq name (codes "int64") then Some I64
    else (if bytes_eq name (codes "uint8") then Some U8
    else (if bytes_eq name (codes "uint16") then Some U16
    else (if bytes_eq name (codes "uint32") then Some U32
    else (if bytes_eq name (codes "uint64") then Some U64
    else (if bytes_eq name (codes "text") then Some Text
    else (if bytes_eq name (codes "blob") then Some Blob else None)))))))))

-- a type by its name
abbrev pub val_type : Data → Option ValType
val_type d = as_str d >>= type_named

-- an order: "row" or "col"
unfoldable pub order : Data → Option Order
order d = as_str d >>= λ name. if bytes_eq name (codes "row") then Some Row else (if bytes_eq name (codes "col") then Some Col else None)

-- the layout of a name
abbrev pub layout_named : List ℕ → Option Layout
layout_named name = if bytes_eq name (codes "row") then Some layouts.Row else (if bytes_eq name (codes "col") then Some layouts.Col else (if bytes_eq name (codes "global") then Some layouts.Global else None))

-- a layout: "row", "col" or "global"
unfoldable pub layout : Data → Option Layout
layout d = as_str d >>= layout_named

-- a value: null, a whole number, or the bytes of a string
abbrev pub value : Data → Option Val
value null = Some Null
value (number n) = option_map Int (as_integer n)
value (string bytes) = Some (Bytes bytes)
value _ = None

-- what a fill says of an attribute of a type: for a blob the digits of its bytes; a string of another form fits no attribute
abbrev pub fill_said : ValType → Val → Val
fill_said Blob (Bytes text) = option_map_or Bytes (blob_bytes text) (Int (pos 0))
fill_said _ v = v

-- a fill, or the default one of the type where there is none
abbrev pub fill : ValType → Bool → Option Data → Option Val
fill ty nullable None = Some (fill_of ty nullable)
fill ty nullable (Some d) = option_map (fill_said ty) (value d)

-- the keys of a dimension
abbrev pub dim_keys : List (List ℕ)
dim_keys = codes "name" ∷ codes "type" ∷ codes "domain" ∷ codes "extent" ∷ []

-- a dimension: `{"name":label,"type":integer type,"domain":[low,high],"extent":e}`
unfoldable pub dim : Data → Option Dim
dim d = do
  name ← required label (codes "name") d
  ty ← required val_type (codes "type") d
  bounds ← required (list_of integer) (codes "domain") d
  extent ← required integer (codes "extent") d
  ends ← both_items bounds
  when (has_only [] dim_keys d) (record { name = name; ty = ty; low = ends.0; high = ends.1; extent = extent })

-- the keys of an attribute
abbrev pub attr_keys : List (List ℕ)
attr_keys = codes "name" ∷ codes "type" ∷ codes "nullable" ∷ codes "fill" ∷ []

-- an attribute: `{"name":label,"type":type,"nullable":bool,"fill":value}`, the last two optional
unfoldable pub attr : Data → Option Attr
attr d = do
  name ← required label (codes "name") d
  ty ← required val_type (codes "type") d
  nullable ← optional as_bool false (codes "nullable") d
  val ← fill ty nullable (get (codes "fill") d)
  when (has_only [] attr_keys d) (record { name = name; ty = ty; nullable = nullable; fill = val })

-- the columns of an object's members, after those that are done
abbrev pub columns_onto : List ColIn → Members → Option (List ColIn)
columns_onto done no_members = Some done
columns_onto done (member key d ms) = label_of key >>= λ name. list_of value d >>= λ values. columns_onto (done ++ record { name = name; values = values } ∷ []) ms

-- columns: an object from labels to lists of values
abbrev pub columns : Data → Option (List ColIn)
columns d = as_object d >>= columns_onto []

-- the bounds of an object's members, after those that are done
abbrev pub bounds_onto : List NamedBox → Members → Option (List NamedBox)
bounds_onto done no_members = Some done
bounds_onto done (member key d ms) = label_of key >>= λ name. list_of integer d >>= λ numbers. both_items numbers >>= λ ends. bounds_onto (done ++ record { name = name; low = ends.0; high = ends.1 } ∷ []) ms

-- a box: an object from labels to lists of a low and a high bound; without one no dimension has bounds
abbrev pub box : Option Data → Option (List NamedBox)
box None = Some []
box (Some d) = as_object d >>= bounds_onto []

-- the text of a filter, where there is one
abbrev pub filter : Option Data → Option (Option (List ℕ))
filter None = Some None
filter (Some d) = option_map Some (as_str d)

-- the point of a name
abbrev pub point_named : List ℕ → Option Point
point_named name = if bytes_eq name (codes "vac") then Some Vac else (if bytes_eq name (codes "wrt") then Some Wrt else (if bytes_eq name (codes "part") then Some PartGone else None))

-- a stop: a whole number of calls, after which it is, or the name of the point before which it is
abbrev pub stop : Data → Option Stop
stop (number n) = option_map Calls (as_u64 n)
stop (string name) = option_map Before (point_named name)
stop _ = None
