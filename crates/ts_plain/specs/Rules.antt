-- The rules of the fields of a plain fragment.
use Rattle.std.specs.Prelude.{ℕ, ◌+◌, ◌-◌, ◌*◌, ◌^◌, min, ℤ, Bool, true, not, ◌&&◌, ◌||◌, if◌then◌else◌, nat_eq, nat_le, nat_lt, int_le, List, [], ◌∷◌, length, slice_get, Option, Some, None}
use Rattle.std.specs.Ordering.{is_gt}
use Rattle.ts_base.specs.declared.keys.Key.{Key}
use Rattle.ts_base.specs.declared.keys.FragKey.{FragKey}
use Rattle.ts_base.specs.Keys.{key_eq, key_lt}
use Rattle.ts_base.specs.Coords.{coords_eq}
use Rattle.ts_domain.specs.declared.dims.Dim.{Dim}
use Rattle.ts_domain.specs.Bounds.{count_between}
use Rattle.ts_order.specs.Orders.{global_cmp}
use Rattle.ts_schema.specs.declared.frames.Frame.{Frame}
use Rattle.ts_plain.specs.declared.stored.Side.{Side}
use Rattle.ts_plain.specs.declared.stored.StoredCell.{StoredCell}

-- ---- before the cells

-- the coordinate lies on the side
abbrev pub is_on_side : Side → ℤ → Bool
is_on_side side x = int_le side.low x && int_le x side.high

-- the coordinates of a dimension
abbrev pub side_of : Dim → Side
side_of d = record { low = d.low; high = d.high }

-- the coordinates of a side from one of them on
abbrev pub from_on : Side → ℤ → Side
from_on side x = record { low = x; high = side.high }

-- how many cells lie between the sides
abbrev pub volume : List Side → ℕ
volume [] = 1
volume (side ∷ sides) = count_between side.low side.high * volume sides

-- how many cells a head tells of: of a dense fragment those of its hull, 2^64 - 1 at most; it is `cells_told` of the model, over sides
abbrev pub counted : Bool → List Side → ℕ → ℕ
counted dense hull many = if dense then min (volume hull) (2 ^ 64 - 1) else many

-- a fragment that is not consolidated has one timestamp
abbrev pub may_span : FragKey → Bool → Bool
may_span frag consolidated = consolidated || nat_eq frag.t1 frag.t2

-- a fragment of a dense array that is not consolidated has each cell of its hull
abbrev pub is_full : Bool → Bool → Bool
is_full dense consolidated = dense && not consolidated

-- a fragment has each cell of its hull: any one, or one of a dense array that is not consolidated
abbrev pub full_by : Bool → Bool → Bool → Bool
full_by any dense consolidated = any || is_full dense consolidated

-- a full fragment has as many cells as its hull, another has one or more
abbrev pub may_hold : Bool → List Side → ℕ → Bool
may_hold full hull cells = if full then nat_eq cells (volume hull) else nat_le 1 cells

-- a consolidated fragment has an origin or more, another has one
abbrev pub may_count : Bool → ℕ → Bool
may_count consolidated count = if consolidated then nat_le 1 count else nat_eq count 1

-- the key of the write that an ordinary fragment holds
abbrev pub own_key : FragKey → Key
own_key frag = record { t = frag.t1; id = frag.id }

-- the last one, if there is one
abbrev pub last_of : {X : Type 0} → List X → Option X
last_of xs = slice_get xs (length xs - 1)

-- the first origin has the least timestamp of the fragment, and each other one is above the one before it
abbrev pub rises_from : FragKey → Option Key → Key → Bool
rises_from frag None key = nat_eq key.t frag.t1
rises_from frag (Some before) key = key_lt before key

-- the last origin has the greatest timestamp of the fragment
abbrev pub may_end : FragKey → Bool → Key → Bool
may_end frag is_last key = not is_last || nat_eq key.t frag.t2

-- of so many origins, this one may stand behind those before it
abbrev pub may_be_origin : FragKey → Bool → ℕ → List Key → Key → Bool
may_be_origin frag consolidated count front key =
    if consolidated then rises_from frag (last_of front) key && may_end frag (nat_eq (length front + 1) count) key else key_eq key (own_key frag)

-- ---- cells

-- the coordinates are not below those of the cell before, in global order
abbrev pub coords_rise : Frame → Option StoredCell → List ℤ → Bool
coords_rise frame None coords = true
coords_rise frame (Some before) coords = not (is_gt (global_cmp frame.domain frame.tile frame.cell before.coords coords))

-- where the cell before has the same coordinates, the origin is above its origin, and the array is sparse: a dense fragment has a cell once
abbrev pub origin_rises : Bool → Option StoredCell → List ℤ → ℕ → Bool
origin_rises dense None coords origin = true
origin_rises dense (Some before) coords origin = not (coords_eq before.coords coords) || (not dense && nat_lt before.origin origin)
