-- The object of a frame: how it is spelled, and how it is read.
use Rattle.std.specs.Prelude.{ℕ, ◌+◌, ◌^◌, ℤ, pos, neg_ℤ, Bool, true, ◌&&◌, nat_eq, nat_le, int_le, int_lt, if◌then◌else◌, List, [], ◌∷◌, ◌++◌, length, Option, option_map, IsTrue, Result}
use Rattle.std.specs.List.{All, flat_map}
use Rattle.ts_base.specs.declared.values.ValType.{ValType}
use Rattle.ts_base.specs.Labels.{is_label}
use Rattle.ts_base.specs.Values.{is_integer, least_of}
use Rattle.ts_domain.specs.declared.dims.Dim.{Dim}
use Rattle.ts_domain.specs.declared.dims.DomainFault.{DomainFault}
use Rattle.ts_domain.specs.declared.dims.DomainFault.TheVariants.{EmptyDim, BadExtent, PastType}
use Rattle.ts_domain.specs.declared.orders.Order.{Order}
use Rattle.ts_domain.specs.declared.orders.Order.TheVariants.{Row, Col}
use Rattle.ts_domain.specs.Dims.{IsDomain, dim_fault}
use Rattle.ts_wire.specs.declared.kinds.Kind.TheVariants as kind
use Rattle.ts_wire.specs.Place.{Place, Read, mapped, both, ruled, judged, counted_at}
use Rattle.ts_wire.specs.Numbers.{number_bytes, number_at, int_bytes, int_at}
use Rattle.ts_wire.specs.Fields.{bool_bytes, bool_at, label_bytes, label_at}
use Rattle.ts_wire.specs.Envelope.{wrapped, object_at}
use Rattle.ts_schema.specs.declared.frames.Frame.{Frame}
use Rattle.ts_schema.specs.SchemaTexts.{type_bytes, type_at}

-- ---- reading

-- the number of each order
abbrev pub order_code : Order → ℕ
order_code Row = 0
order_code Col = 1

-- an order
unfoldable pub order_at : Place → Read Order
order_at = mapped (λ code. if nat_eq code 0 then Row else Col) (ruled (λ code. nat_le code 1) (number_at 1))

-- a tile of a sparse array has from 1 to 1,000,000 cells
abbrev pub is_capacity : ℕ → Bool
is_capacity capacity = nat_le 1 capacity && nat_le capacity 1000000

-- the capacity of the tiles
unfoldable pub capacity_at : Place → Read ℕ
capacity_at = ruled is_capacity (number_at 4)

-- an array has from 1 to 8 dimensions
abbrev pub is_dim_count : ℕ → Bool
is_dim_count count = nat_le 1 count && nat_le count 8

-- the number of dimensions
unfoldable pub dim_count_at : Place → Read ℕ
dim_count_at = ruled is_dim_count (number_at 1)

-- the type of a dimension is one of integers
unfoldable pub integer_type_at : Place → Read ValType
integer_type_at = ruled is_integer type_at

-- a bound or an extent lies between -2^64 and 2^64
abbrev pub is_bound : ℤ → Bool
is_bound z = int_le (neg_ℤ (pos (2 ^ 64))) z && int_le z (pos (2 ^ 64))

-- a bound or an extent
unfoldable pub bound_at : Place → Read ℤ
bound_at = ruled is_bound (int_at 16 true)

-- the five fields of a dimension, each by its own rule
unfoldable pub dim_fields_at : Place → Read Dim
dim_fields_at =
    mapped (λ x. record { name = x.0; ty = x.1.0; low = x.1.1.0; high = x.1.1.1.0; extent = x.1.1.1.1 })
    (both label_at (λ _. both integer_type_at (λ _. both bound_at (λ _. both bound_at (λ _. bound_at)))))

-- how far behind the start of a dimension the field begins that a fault of it concerns: the name; the low bound; the high bound; the extent
abbrev pub place_of_fault : Dim → DomainFault → ℕ
place_of_fault d (EmptyDim _) = length d.name + 18
place_of_fault d (BadExtent _) = length d.name + 34
place_of_fault d (PastType _) = if int_lt d.low (least_of d.ty) then length d.name + 2 else length d.name + 34
place_of_fault d _ = 0

-- where the fault of a dimension behind others is broken, so far behind its start
unfoldable pub dim_broken : List Dim → Dim → Option ℕ
dim_broken front d = option_map (place_of_fault d) (dim_fault front d)

-- a dimension behind others: its fields, and then its fault
unfoldable pub dim_at : List Dim → Place → Read Dim
dim_at front = judged (dim_broken front) dim_fields_at

-- a dimension behind others, added to them
unfoldable pub next_dim_at : List Dim → Place → Read (List Dim)
next_dim_at front = mapped (λ d. front ++ d ∷ []) (dim_at front)

-- the number of dimensions, and then the dimensions
unfoldable pub dims_at : Place → Read (List Dim)
dims_at = counted_at dim_count_at dim_at

-- all that an object of a frame spells
unfoldable pub frame_at : Place → Read Frame
frame_at =
    mapped (λ x. record { dense = x.0; cell = x.1.0; tile = x.1.1.0; capacity = x.1.1.1.0; domain = x.1.1.1.1 })
    (both bool_at (λ _. both order_at (λ _. both order_at (λ _. both capacity_at (λ _. dims_at)))))

-- the frame that an object spells, or the offset of its first broken field
unfoldable pub frame_of : List ℕ → Result Frame ℕ
frame_of object = object_at kind.Domain frame_at object

-- ---- spelling

-- an order is its number in one byte
unfoldable pub order_bytes : Order → List ℕ
order_bytes order = number_bytes 1 (order_code order)

-- a dimension is its name, its type, its low and high bound, and its extent
unfoldable pub dim_bytes : Dim → List ℕ
dim_bytes d = label_bytes d.name ++ (type_bytes d.ty ++ (int_bytes 16 d.low ++ (int_bytes 16 d.high ++ int_bytes 16 d.extent)))

-- the number of dimensions, and then the dimensions
unfoldable pub dims_bytes : List Dim → List ℕ
dims_bytes dims = number_bytes 1 (length dims) ++ flat_map dim_bytes dims

-- a frame is whether it is dense, the cell order, the tile order, the capacity, and the dimensions
unfoldable pub frame_bytes : Frame → List ℕ
frame_bytes frame = bool_bytes frame.dense ++ (order_bytes frame.cell ++ (order_bytes frame.tile ++ (number_bytes 4 frame.capacity ++ dims_bytes frame.domain)))

-- the object of a frame
unfoldable pub frame_object : Frame → List ℕ
frame_object frame = wrapped kind.Domain (frame_bytes frame)

-- a frame: its capacity is in its range, its names are labels, and its dimensions are those of a domain
pub record IsFrame (frame : Frame) : Type 0 where
  pub capacity : IsTrue (is_capacity frame.capacity)
  pub labels : All (λ (d : Dim). IsTrue (is_label d.name)) frame.domain
  pub domain : IsDomain frame.domain
