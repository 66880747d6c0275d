-- What is laid of the space tiles that a fetch reads, and what is taken of the slots of those that it got.
use Rattle.std.specs.Prelude.{◌≡◌, ⊤, ℕ, ◌+◌, ◌*◌, ◌-◌, ◌^◌, ◌<◌, ◌≤◌, Bool, not, ◌&&◌, nat_eq, if◌then◌else◌, List, [], ◌++◌, length, map, filter, take, get_or, Result, Ok}
use Rattle.std.specs.List.{All, sum, range_with_len}
use Rattle.ts_base.specs.declared.heads.Version.{Version}
use Rattle.ts_base.specs.declared.values.Val.{Val}
use Rattle.ts_base.specs.declared.values.Val.TheVariants.{Null}
use Rattle.ts_base.specs.Keys.{is_within}
use Rattle.ts_domain.specs.declared.boxes.SubBox.{SubBox}
use Rattle.ts_domain.specs.Boxes.{IsBox, is_in_box, cells_of}
use Rattle.ts_domain.specs.Rects.{places_meeting}
use Rattle.ts_order.specs.Orders.{coords_in_order}
use Rattle.ts_table.specs.declared.origins.Origin.{Origin}
use Rattle.ts_schema.specs.declared.frames.Frame.{Frame}
use Rattle.ts_schema.specs.Wants.{taken}
use Rattle.ts_plain.specs.declared.stored.StoredCell.{StoredCell}
use Rattle.ts_plain.specs.Pieces.{origin_key}
use Rattle.ts_footer.specs.declared.columns.ColumnForm.{ColumnForm}
use Rattle.ts_footer.specs.declared.columns.ColumnForm.TheVariants.{Fixed, Var}
use Rattle.ts_footer.specs.declared.columns.ColumnSize.{ColumnSize}
use Rattle.ts_dense.specs.Slots.{no_origin, tiles_over, versions_of}
use Rattle.ts_sparse_read.specs.declared.opened.Span.{Span}
use Rattle.ts_sparse_read.specs.declared.opened.UsedColumn.{UsedColumn}
use Rattle.ts_sparse_read.specs.declared.opened.WantedTile.{WantedTile}
use Rattle.ts_sparse_read.specs.Faults.{Fault, and_then, Ranged}
use Rattle.ts_sparse_read.specs.TileReads.{rows_in, cells_from, vals_of_tile}
use Rattle.ts_sparse_read.specs.Opens.{no_box, is_box_in}
use Rattle.ts_sparse_read.specs.Judges.{ranged}
use Rattle.ts_dense_read.specs.declared.opened.Opened.{Opened}
use Rattle.ts_dense_read.specs.declared.slots.TileSlots.{TileSlots}
use Rattle.ts_dense_read.specs.SlotReads.{slot_origins_if, slots_of_tile}
use Rattle.ts_dense_read.specs.SpaceOpens.{span_from}
use Rattle.ts_dense_read.specs.SpaceJudges.{slots_of_tiles}

-- ---- spans

-- an object with as many bytes for each cell is long enough for so many
abbrev pub HasLengthFor : ℕ → ColumnForm → ColumnSize → Type 0
HasLengthFor cells (Fixed width) size = 14 + width * cells ≤ size.length
HasLengthFor cells Var size = ⊤

-- the object is long enough for so many cells
abbrev pub HasRoom : ℕ → UsedColumn → Type 0
HasRoom cells column = HasLengthFor cells column.form column.size

-- where the tile at a place stands in an object, where so many cells stand before it, and it has so many
abbrev pub span_behind : ℕ → ℕ → ℕ → UsedColumn → Span
span_behind before cells i column = span_from column.form before cells i column.part column.size

-- ---- tiles

-- the tile at a place with this box, where so many cells stand before it, and it has so many
abbrev pub tile_behind : ℕ → ℕ → ℕ → SubBox → List UsedColumn → WantedTile
tile_behind before cells i leaf used = record { cells = cells; leaf = leaf; spans = map (span_behind before cells i) used }

-- the tile at a place, of those with these boxes
abbrev pub tile_among : List SubBox → List UsedColumn → ℕ → WantedTile
tile_among boxes used i = tile_behind (sum (take i (map cells_of boxes))) (get_or (map cells_of boxes) i 0) i (get_or boxes i no_box) used

-- the space tiles of a hull that meet the box, where it is one of the array
abbrev pub tiles_met : Frame → SubBox → List UsedColumn → SubBox → List WantedTile
tiles_met frame hull used sub = map (tile_among (tiles_over frame hull) used) (if is_box_in frame.domain sub then places_meeting sub (tiles_over frame hull) else [])

-- the box has so many cells, which memory has room to count
pub record IsCounted (leaf : SubBox) (count : ℕ) : Type 0 where
  pub valid : IsBox leaf
  pub cells : count ≡ cells_of leaf
  pub few : count < 2 ^ 64 - 1

-- ---- slots

-- the values that columns hold at a place
abbrev pub row_there : List (List Val) → ℕ → List Val
row_there vals k = map (λ column. get_or column k Null) vals

-- so many slots of these origins and values
abbrev pub slots_of : ℕ → List ℕ → List (List Val) → TileSlots
slots_of count origins vals = record { count = count; origins = origins; vals = vals }

-- what is read of a tile of so many slots: what is broken first among its values, and then among its origins
abbrev pub read_of_tile : Opened → ℕ → List Ranged → Result TileSlots Fault
read_of_tile opened count ranges =
    and_then (vals_of_tile (opened.want).attrs count ranges 0 opened.attrs) (λ vals.
    and_then (slot_origins_if (opened.head).consolidated (length (opened.head).origins) (opened.want).attrs opened.attrs count (rows_in count vals) ranges) (λ origins.
    Ok (slots_of count origins vals)))

-- all columns are of so many values
pub record AreWhole (s : TileSlots) : Type 0 where
  pub origins : length s.origins ≡ s.count
  pub vals : All (λ (column : List Val). length column ≡ s.count) s.vals

-- the slots of a space tile
abbrev pub slots_in : Opened → SubBox → TileSlots → List StoredCell
slots_in opened leaf s = cells_from (coords_in_order (opened.frame).cell leaf) s.origins (rows_in s.count s.vals)

-- the slot at a place of a space tile
abbrev pub slot_at : Opened → SubBox → TileSlots → ℕ → StoredCell
slot_at opened leaf s k = record { coords = get_or (coords_in_order (opened.frame).cell leaf) k []; origin = get_or s.origins k 0; row = row_there s.vals k }

-- ---- which slots are wanted

-- a slot with this origin has a cell, of a write that is stamped in the interval
abbrev pub is_origin_wanted : Opened → ℕ → Bool
is_origin_wanted opened origin = not (nat_eq origin no_origin) && is_within (opened.want).a (opened.want).b (origin_key (opened.head).origins origin)

-- the write at a place among the origins
abbrev pub write_of : Opened → ℕ → Origin
write_of opened origin = record { key = origin_key (opened.head).origins origin; schema = (opened.head).schema }

-- the slot at a place, of those with these origins, has a cell that is wanted
abbrev pub is_slot_wanted : Opened → SubBox → List ℕ → ℕ → Bool
is_slot_wanted opened leaf origins k = is_origin_wanted opened (get_or origins k 0) && is_in_box (opened.want).sub (get_or (coords_in_order (opened.frame).cell leaf) k [])

-- the places of the slots with these origins that have a cell which is wanted, ascending
abbrev pub rows_wanted : Opened → SubBox → List ℕ → List ℕ
rows_wanted opened leaf origins = filter (is_slot_wanted opened leaf origins) (range_with_len 0 (length origins))

-- ---- what is taken

-- what is wanted of the cells that slots have
abbrev pub taken_of : Opened → List StoredCell → List Version
taken_of opened slots = taken opened.want (versions_of opened.head slots)

-- what was taken so far before what is taken then
abbrev pub behind : List Version → Result (List Version) Fault → Result (List Version) Fault
behind found r = and_then r (λ more. Ok (found ++ more))

-- what is taken of a tile, from what was got of each part
abbrev pub part_taken : Opened → SubBox → ℕ → List Ranged → Result (List Version) Fault
part_taken opened leaf count ranges =
    and_then (slots_of_tile opened.frame opened.attrs (opened.want).attrs opened.head leaf count ranges) (λ slots. Ok (taken_of opened slots))

-- so of a tile, from what was got of its spans
abbrev pub tile_taken : Opened → WantedTile → List (List ℕ) → Result (List Version) Fault
tile_taken opened t got = part_taken opened t.leaf t.cells (ranged t.spans got)

-- so of tiles whose spans were got one after another
abbrev pub tiles_taken : Opened → List WantedTile → List (List ℕ) → Result (List Version) Fault
tiles_taken opened tiles got =
    and_then (slots_of_tiles opened.frame opened.attrs (opened.want).attrs opened.head tiles got) (λ slots. Ok (taken_of opened slots))
