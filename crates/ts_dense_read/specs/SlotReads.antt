-- What the bytes of a space tile say of its slots.
use Rattle.std.specs.Prelude.{ℕ, suc, Bool, true, false, not, ◌&&◌, ◌||◌, nat_eq, nat_lt, if◌then◌else◌, List, [], ◌∷◌, length, replicate, Result, Ok}
use Rattle.ts_base.specs.declared.names.Part.TheVariants as part
use Rattle.ts_base.specs.declared.values.Val.{Val}
use Rattle.ts_domain.specs.declared.boxes.SubBox.{SubBox}
use Rattle.ts_order.specs.Orders.{coords_in_order}
use Rattle.ts_wire.specs.Place.{Place, Read, place, ruled, each_at, whole}
use Rattle.ts_wire.specs.Numbers.{number_at}
use Rattle.ts_schema.specs.declared.attrs.Attr.{Attr}
use Rattle.ts_schema.specs.declared.frames.Frame.{Frame}
use Rattle.ts_plain.specs.declared.stored.StoredHead.{StoredHead}
use Rattle.ts_plain.specs.declared.stored.StoredCell.{StoredCell}
use Rattle.ts_column.specs.Tiles.{is_blank, is_there}
use Rattle.ts_dense.specs.Slots.{no_origin}
use Rattle.ts_sparse_read.specs.Faults.{Fault, and_then, Ranged, bytes_of, in_part}
use Rattle.ts_sparse_read.specs.TileReads.{rows_in, cells_from, is_among, vals_of_tile}

-- ---- holes

-- whether a value that was read is the one that a hole has: null where the attribute may be null, else 0 or no bytes
abbrev pub is_of_hole : Attr → Val → Bool
is_of_hole a v = if a.nullable then not (is_there v) else is_blank v

-- whether the values of a slot are those of a hole, of the attributes from the k-th on; one that is not read may be any
abbrev pub are_of_hole : List ℕ → ℕ → List Attr → List Val → Bool
are_of_hole places k [] row = true
are_of_hole places k (a ∷ attrs) [] = true
are_of_hole places k (a ∷ attrs) (v ∷ row) = (not (is_among places k) || is_of_hole a v) && are_of_hole places (suc k) attrs row

-- whether a slot with these values may have this origin: one of so many, or none, where the values are those of a hole
abbrev pub may_be_slot : ℕ → List ℕ → List Attr → List Val → ℕ → Bool
may_be_slot entries places attrs row origin = nat_lt origin entries || (nat_eq origin no_origin && are_of_hole places 0 attrs row)

-- ---- origins

-- the origin of a slot with these values
unfoldable pub slot_origin_at : ℕ → List ℕ → List Attr → List Val → Place → Read ℕ
slot_origin_at entries places attrs row = ruled (may_be_slot entries places attrs row) (number_at 4)

-- the origins of slots with these values that the bytes hold, or the offset of the first broken field
unfoldable pub slot_origins_in : ℕ → List ℕ → List Attr → List (List Val) → List ℕ → Result (List ℕ) ℕ
slot_origins_in entries places attrs rows bytes = whole (each_at (slot_origin_at entries places attrs) rows) (place bytes 0)

-- which write each of so many slots is of: of an ordinary fragment the first, and the only one
abbrev pub slot_origins_if : Bool → ℕ → List ℕ → List Attr → ℕ → List (List Val) → List Ranged → Result (List ℕ) Fault
slot_origins_if true entries places attrs count rows ranges = in_part ranges part.Origin (slot_origins_in entries places attrs rows (bytes_of ranges part.Origin))
slot_origins_if false entries places attrs count rows ranges = Ok (replicate count 0)

-- ---- a whole tile

-- the slots of a space tile cut to the hull: what is broken first among its values, and then among its origins
unfoldable pub slots_of_tile : Frame → List Attr → List ℕ → StoredHead → SubBox → ℕ → List Ranged → Result (List StoredCell) Fault
slots_of_tile frame attrs places head leaf count ranges =
    and_then (vals_of_tile places count ranges 0 attrs) (λ vals.
    let rows = rows_in count vals in
    and_then (slot_origins_if head.consolidated (length head.origins) places attrs count rows ranges) (λ origins.
    Ok (cells_from (coords_in_order frame.cell leaf) origins rows)))
