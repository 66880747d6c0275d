-- What a query asks of an array: the box, the fields, the filter; and which rows it selects, in which order.
use Rattle.std.specs.Prelude.{ℕ, ◌+◌, ◌-◌, ◌^◌, min, ℤ, Bool, true, false, not, ◌&&◌, ◌||◌, if◌then◌else◌, List, [], ◌∷◌, ◌++◌, filter, filter_map, length, nat_lt, slice_get, Option, Some, None, option_map, Result, Ok, Err, find, suc, zero, map as list_map}
use Rattle.std.specs.Option.{option_or, option_map_or}
use Rattle.std.specs.declared.cmp.Ordering.{Ordering}
use Rattle.std.specs.FinMap as map
use Rattle.ts_base.specs.declared.values.Val.{Val}
use Rattle.ts_base.specs.declared.values.Val.TheVariants.{Int}
use Rattle.ts_base.specs.declared.values.ValType.{ValType}
use Rattle.ts_value.specs.Fill.{fill_of}
use Rattle.ts_domain.specs.declared.boxes.SubBox.{SubBox}
use Rattle.ts_domain.specs.declared.dims.Dim.{Dim}
use Rattle.ts_domain.specs.declared.orders.Layout.{Layout}
use Rattle.ts_domain.specs.declared.orders.Layout.TheVariants as layout
use Rattle.ts_domain.specs.declared.orders.Order.TheVariants as order
use Rattle.ts_domain.specs.Boxes.{cells_of}
use Rattle.ts_domain.specs.Dims.{has_name}
use Rattle.ts_domain.specs.Domains.{first_bound_outside}
use Rattle.ts_order.specs.Orders.{order_cmp, global_cmp}
use Rattle.ts_schema.specs.declared.frames.Frame.{Frame}
use Rattle.ts_schema.specs.declared.attrs.Attr.{Attr}
use Rattle.ts_schema.specs.Attrs.{same_name, has_attr}
use Rattle.ts_cond.specs.declared.faults.CondFault.{CondFault}
use Rattle.ts_cond.specs.declared.fields.CondField.{CondField}
use Rattle.ts_cond.specs.declared.query.NamedBox.{NamedBox}
use Rattle.ts_cond.specs.declared.query.Query.{Query}
use Rattle.ts_cond.specs.Machine.{parsed}
use Rattle.ts_cond.specs.Picks.{matches}
use Rattle.ts_cond.specs.Tests.{Condition}
use Rattle.ts_model.specs.declared.answers.Refusal.{Refusal}
use Rattle.ts_model.specs.declared.answers.Refusal.TheVariants as refusal
use Rattle.ts_model.specs.declared.queries.Ready.{Ready}

-- ---- the fields that conditions name

-- an attribute as a condition records it
abbrev pub attr_field : Attr → CondField
attr_field a = record { name = a.name; dim = None; ty = a.ty; nullable = a.nullable; fill = a.fill }

-- the attributes of a schema, as conditions record them
abbrev pub attr_fields : List Attr → List CondField
attr_fields attrs = list_map attr_field attrs

-- a dimension as a condition records it: it has its place, no value of it is null, and its fill is the default
abbrev pub dim_field : ℕ → Dim → CondField
dim_field place d = record { name = d.name; dim = Some place; ty = d.ty; nullable = false; fill = fill_of d.ty false }

-- the dimensions, whose places count from `place` on
abbrev pub dim_fields : ℕ → List Dim → List CondField
dim_fields place [] = []
dim_fields place (d ∷ dims) = dim_field place d ∷ dim_fields (suc place) dims

-- the fields of an array: the dimensions, and then the attributes
abbrev pub fields_in : List Dim → List Attr → List CondField
fields_in dims attrs = dim_fields 0 dims ++ attr_fields attrs

-- ---- what is read

-- the bounds of a dimension: those under its name, or else those of its domain
abbrev pub low_of : List NamedBox → Dim → ℤ
low_of named d = option_map_or (λ b. b.low) (find (λ b. same_name b.name d.name) named) d.low

-- the high bound of a dimension: the one under its name, or else that of its domain
abbrev pub high_of : List NamedBox → Dim → ℤ
high_of named d = option_map_or (λ b. b.high) (find (λ b. same_name b.name d.name) named) d.high

-- the box of named bounds: a dimension that is not named has its whole domain
abbrev pub box_of : List NamedBox → List Dim → SubBox
box_of named dims = record { low = list_map (low_of named) dims; high = list_map (high_of named) dims }

-- the place of the field with this name: the dimensions count first, and then the attributes; `place` fields stand before these
abbrev pub dim_place : ℕ → List ℕ → List Dim → Option ℕ
dim_place place name [] = None
dim_place place name (d ∷ dims) = if same_name d.name name then Some place else dim_place (suc place) name dims

-- the place of the attribute with a name, counted on from a place
abbrev pub attr_place : ℕ → List ℕ → List Attr → Option ℕ
attr_place place name [] = None
attr_place place name (a ∷ attrs) = if same_name a.name name then Some place else attr_place (suc place) name attrs

-- the place of the field with a name: dimensions come first, then attributes
abbrev pub field_place : List Dim → List Attr → List ℕ → Option ℕ
field_place dims attrs name = option_or (dim_place 0 name dims) (attr_place (length dims) name attrs)

-- so many places, from one on
abbrev pub places_from : ℕ → ℕ → List ℕ
places_from first zero = []
places_from first (suc more) = first ∷ places_from (suc first) more

-- the places of the fields that are shown: all where none is named
abbrev pub field_places : List Dim → List Attr → List (List ℕ) → List ℕ
field_places dims attrs [] = places_from 0 (length dims + length attrs)
field_places dims attrs (name ∷ names) = filter_map (field_place dims attrs) (name ∷ names)

-- ---- why a query is refused

-- the first name of a box that is no dimension
abbrev pub stray_bound : List Dim → List NamedBox → Option (List ℕ)
stray_bound dims named = find (λ name. not (has_name dims name)) (list_map (λ b. b.name) named)

-- the first bound of a box that lies outside the domain
abbrev pub bound_outside : List Dim → SubBox → Option Refusal
bound_outside dims sub = option_map (λ o. refusal.Domain o.dim o.value) (first_bound_outside dims sub)

-- the first name that the array does not have: of the box, which names dimensions, and then of the fields
abbrev pub unknown_in : List Dim → List Attr → Query → Option (List ℕ)
unknown_in dims attrs q = option_or (stray_bound dims q.sub) (find (λ name. not (has_name dims name || has_attr attrs name)) q.fields)

-- the most cells of a read of a dense array, and of a write
abbrev pub most_cells : ℕ
most_cells = 2 ^ 20

-- the number of cells of a box, and 2^64 - 1 where there are more
abbrev pub counted_cells : SubBox → ℕ
counted_cells sub = min (cells_of sub) (2 ^ 64 - 1)

-- there are too many cells
abbrev pub over_most : ℕ → Option Refusal
over_most cells = if nat_lt most_cells cells then Some (refusal.TooMany cells) else None

-- a read of a dense array has too many cells
abbrev pub too_many : Frame → SubBox → Option Refusal
too_many frame sub = if frame.dense && nat_lt most_cells (counted_cells sub) then Some (refusal.TooMany (counted_cells sub)) else None

-- the first of these that there is: a name that is not known, a bound outside, too many cells
abbrev pub query_refusal : Frame → List Attr → Query → Option Refusal
query_refusal frame attrs q =
    option_or (option_map refusal.UnknownField (unknown_in frame.domain attrs q))
    (option_or (bound_outside frame.domain (box_of q.sub frame.domain))
    (too_many frame (box_of q.sub frame.domain)))

-- the condition of a text, or the refusal that carries its fault
abbrev pub or_refused : Result Condition CondFault → Result Condition Refusal
or_refused (Ok condition) = Ok condition
or_refused (Err fault) = Err (refusal.Condition fault)

-- the condition that a text spells over the fields of an array
abbrev pub condition_in : List Dim → List Attr → List ℕ → Result Condition Refusal
condition_in dims attrs text = or_refused (parsed text (fields_in dims attrs))

-- the condition of a filter, if there is one
abbrev pub some_condition : Result Condition Refusal → Result (Option Condition) Refusal
some_condition (Ok condition) = Ok (Some condition)
some_condition (Err r) = Err r

-- the condition of a filter's text, where there is a filter, or why it is refused
abbrev pub filter_in : List Dim → List Attr → Option (List ℕ) → Result (Option Condition) Refusal
filter_in dims attrs None = Ok None
filter_in dims attrs (Some text) = some_condition (condition_in dims attrs text)

-- a query, unless there is a refusal; that of its filter comes last
abbrev pub ready_with : Frame → List Attr → Query → Option Refusal → Result (Option Condition) Refusal → Result Ready Refusal
ready_with frame attrs q (Some r) found = Err r
ready_with frame attrs q None (Err r) = Err r
ready_with frame attrs q None (Ok found) = Ok (record { sub = box_of q.sub frame.domain; fields = field_places frame.domain attrs q.fields; filter = found; layout = q.layout })

-- what a query asks of an array with a frame through a schema with these attributes, or why it is refused
abbrev pub ready_in : Frame → List Attr → Query → Result Ready Refusal
ready_in frame attrs q = ready_with frame attrs q (query_refusal frame attrs q) (filter_in frame.domain attrs q.filter)

-- the condition of a delete, or why it is refused: a dense array has no deletes
abbrev pub delete_condition : Frame → List Attr → List ℕ → Result Condition Refusal
delete_condition frame attrs text = if frame.dense then Err refusal.DenseArray else condition_in frame.domain attrs text

-- ---- which rows are shown

-- a cell with a row of these attributes passes the filter
abbrev pub passes : Option Condition → List Attr → List ℤ → List Val → Bool
passes None attrs c row = true
passes (Some condition) attrs c row = matches condition c (attr_fields attrs) row

-- the items at these places
abbrev pub items_at : {A : Type 0} → List ℕ → List A → List A
items_at places items = filter_map (slice_get items) places

-- how two cells of an array stand in a layout
abbrev pub layout_cmp : Frame → Layout → List ℤ → List ℤ → Ordering
layout_cmp frame layout.Row = order_cmp order.Row
layout_cmp frame layout.Col = order_cmp order.Col
layout_cmp frame layout.Global = global_cmp frame.domain frame.tile frame.cell

-- cells with their rows, in a layout
unfoldable pub in_layout : Frame → Layout → List (List ℤ × List Val) → List (List ℤ × List Val)
in_layout frame layout cells = map.entries (map.from_entries {R = layout_cmp frame layout} cells)

-- the fields of a cell: its coordinates, and then its values
abbrev pub fields_of : List ℤ × List Val → List Val
fields_of e = list_map Int e.0 ++ e.1

-- the cells that pass the filter, in the layout, each cut to the fields that are shown
abbrev pub selected : Frame → List Attr → Ready → List (List ℤ × List Val) → List (List Val)
selected frame attrs ready cells = list_map (λ e. items_at ready.fields (fields_of e)) (in_layout frame ready.layout (filter (λ e. passes ready.filter attrs e.0 e.1) cells))

-- the types of all fields: those of the dimensions, and then of the attributes
abbrev pub types_of : List Dim → List Attr → List ValType
types_of dims attrs = list_map (λ d. d.ty) dims ++ list_map (λ a. a.ty) attrs

-- the types of the fields that are shown
abbrev pub types_shown : Frame → List Attr → Ready → List ValType
types_shown frame attrs ready = items_at ready.fields (types_of frame.domain attrs)
