-- How a fetch of a sparse fragment begins: the tiles that it reads, and the calls of its plan.
use Rattle.std.specs.Prelude.{ℕ, nat_le, nat_eq, ◌&&◌, Bool, if◌then◌else◌, List, [], ◌++◌, length, map, get_or, Result, Ok}
use Rattle.std.specs.List.{flat_map, list_all}
use Rattle.ts_base.specs.declared.keys.FragKey.{FragKey}
use Rattle.ts_base.specs.Values.{is_integer}
use Rattle.ts_domain.specs.declared.dims.Dim.{Dim}
use Rattle.ts_domain.specs.declared.boxes.SubBox.{SubBox}
use Rattle.ts_domain.specs.Bounds.{are_bounds}
use Rattle.ts_domain.specs.Rects.{places_meeting}
use Rattle.ts_wire.specs.Place.{◌>>=◌}
use Rattle.ts_schema.specs.declared.attrs.Attr.{Attr}
use Rattle.ts_schema.specs.declared.frames.Frame.{Frame}
use Rattle.ts_schema.specs.declared.schemas.Schema.{Schema}
use Rattle.ts_schema.specs.declared.wants.Want.{Want}
use Rattle.ts_footer.specs.declared.footers.Footer.{Footer}
use Rattle.ts_footer.specs.Columns.{column_forms}
use Rattle.ts_footer.specs.Footers.{footer_stored, leaves_in}
use Rattle.ts_fetch.specs.declared.planned.Planned.{Planned}
use Rattle.ts_fetch.specs.declared.planned.Planned.TheVariants.{SizeOf, Range}
use Rattle.ts_fetch.specs.Plans.{Going, begun}
use Rattle.ts_sparse_read.specs.declared.opened.Opened.{Opened}
use Rattle.ts_sparse_read.specs.declared.opened.Span.{Span}
use Rattle.ts_sparse_read.specs.declared.opened.UsedColumn.{UsedColumn}
use Rattle.ts_sparse_read.specs.declared.opened.WantedTile.{WantedTile}
use Rattle.ts_sparse_read.specs.Used.{column_parts, columns_told, used_among, tile_size, cells_at, span_of}

-- the box that was used where none is told
abbrev pub no_box : SubBox
no_box = record { low = []; high = [] }

-- the objects that a fetch reads of a fragment with this metadata, where it reads the attributes at these places
unfoldable pub used_in : Frame → List Attr → Footer → List ℕ → List UsedColumn
used_in frame attrs footer places =
    used_among places (columns_told (column_parts frame.domain attrs footer.head.consolidated) (column_forms frame.domain attrs footer.head.consolidated) footer.sizes)

-- the tile at a place, with its spans in these objects
abbrev pub tile_at : Frame → Footer → List UsedColumn → ℕ → WantedTile
tile_at frame footer used i = record {
  cells = cells_at (tile_size frame.capacity) footer.head.cells i;
  leaf = get_or (leaves_in footer.tree) i no_box;
  spans = map (span_of (tile_size frame.capacity) footer.head.cells i) used;
}

-- the tiles at these places
abbrev pub tiles_at : Frame → Footer → List UsedColumn → List ℕ → List WantedTile
tiles_at frame footer used tiles = map (tile_at frame footer used) tiles

-- there is a dimension, and each has an integer type
abbrev pub are_readable : List Dim → Bool
are_readable dims = nat_le 1 (length dims) && list_all (λ d. is_integer d.ty) dims

-- the bounds are those of a box in an array with these dimensions
abbrev pub is_box_in : List Dim → SubBox → Bool
is_box_in dims sub = are_readable dims && (nat_eq (length sub.low) (length dims) && are_bounds sub.low sub.high)

-- the places of the tiles that a fetch reads: those whose leaves meet the box that is wanted
abbrev pub places_for : Frame → SubBox → Footer → List ℕ
places_for frame sub footer = if is_box_in frame.domain sub then places_meeting sub (leaves_in footer.tree) else []

-- ---- the plan

-- the size of an object is asked
abbrev pub size_call : UsedColumn → Planned
size_call column = SizeOf column.part column.size.length

-- a span is got
abbrev pub span_call : Span → Planned
span_call span = Range span.part span.from span.count

-- the spans of a tile are got
abbrev pub tile_calls : WantedTile → List Planned
tile_calls tile = map span_call tile.spans

-- first the size of each object is asked, then tile by tile its spans are got
abbrev pub calls_for : List UsedColumn → List WantedTile → List Planned
calls_for used tiles = map size_call used ++ flat_map tile_calls tiles

-- ---- beginning

-- what is known of the fragment with this metadata
abbrev pub opened_for : Frame → List Attr → Want → Footer → List UsedColumn → Opened
opened_for frame attrs want footer used = record { frame = frame; attrs = attrs; want = want; head = footer.head; tiles = tiles_at frame footer used (places_for frame want.sub footer) }

-- a fetch of what is wanted
abbrev pub fetch_for : Frame → List Attr → FragKey → Want → Footer → List UsedColumn → Going Opened
fetch_for frame attrs frag want footer used =
    begun (opened_for frame attrs want footer used) frag (calls_for used (tiles_at frame footer used (places_for frame want.sub footer)))

-- a fetch of what is wanted of a fragment, from the object of its metadata on; or the offset at which that is broken first
unfoldable pub sparse_opens : Frame → Schema → FragKey → List ℕ → Want → Result (Going Opened) ℕ
sparse_opens frame s frag object want = footer_stored frame s.attrs frag object >>= λ footer. Ok (fetch_for frame s.attrs frag want footer (used_in frame s.attrs footer want.attrs))
