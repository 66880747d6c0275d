-- How a fetch of a dense fragment begins: the space tiles that it reads, and the calls of its plan.
use Rattle.std.specs.Prelude.{ℕ, ◌*◌, if◌then◌else◌, List, [], map, take, get_or, Result, Ok, Err}
use Rattle.std.specs.List.{sum}
use Rattle.ts_base.specs.declared.keys.FragKey.{FragKey}
use Rattle.ts_base.specs.declared.names.Part.{Part}
use Rattle.ts_domain.specs.declared.boxes.SubBox.{SubBox}
use Rattle.ts_domain.specs.Rects.{places_meeting}
use Rattle.ts_wire.specs.Place.{◌>>=◌}
use Rattle.ts_schema.specs.declared.attrs.Attr.{Attr}
use Rattle.ts_schema.specs.declared.frames.Frame.{Frame}
use Rattle.ts_schema.specs.declared.schemas.Schema.{Schema}
use Rattle.ts_schema.specs.declared.wants.Want.{Want}
use Rattle.ts_plain.specs.Writes.{box_of}
use Rattle.ts_footer.specs.declared.columns.ColumnForm.{ColumnForm}
use Rattle.ts_footer.specs.declared.columns.ColumnForm.TheVariants.{Fixed, Var}
use Rattle.ts_footer.specs.declared.columns.ColumnSize.{ColumnSize}
use Rattle.ts_footer.specs.declared.footers.Footer.{Footer}
use Rattle.ts_footer.specs.Columns.{column_forms, fixed_length}
use Rattle.ts_footer.specs.Footers.{dense_footer_stored}
use Rattle.ts_fetch.specs.Plans.{Going, begun}
use Rattle.ts_dense.specs.Slots.{tiles_over, counts_over}
use Rattle.ts_sparse_read.specs.declared.opened.Span.{Span}
use Rattle.ts_sparse_read.specs.declared.opened.UsedColumn.{UsedColumn}
use Rattle.ts_sparse_read.specs.declared.opened.WantedTile.{WantedTile}
use Rattle.ts_sparse_read.specs.Used.{column_parts, columns_told, used_among, span_by}
use Rattle.ts_sparse_read.specs.Opens.{no_box, is_box_in, calls_for}
use Rattle.ts_dense_read.specs.declared.opened.Opened.{Opened}

-- ---- what is read

-- the objects that a fetch reads of a fragment with this metadata, where it reads the attributes at these places: coordinates have none
unfoldable pub space_used : List Attr → Footer → List ℕ → List UsedColumn
space_used attrs footer places =
    used_among places (columns_told (column_parts [] attrs footer.head.consolidated) (column_forms [] attrs footer.head.consolidated) footer.sizes)

-- where the tile at a place stands in an object, where so many cells stand before it, and it has so many
abbrev pub span_from : ColumnForm → ℕ → ℕ → ℕ → Part → ColumnSize → Span
span_from (Fixed width) first count i p size = record { part = p; from = fixed_length width first; count = width * count }
span_from Var first count i p size = span_by Var 0 0 i p size

-- the box of the fragment with this metadata
abbrev pub hull_in : Footer → SubBox
hull_in footer = box_of footer.head.hull

-- how many cells stand before the tile at a place
abbrev pub cells_before : Frame → Footer → ℕ → ℕ
cells_before frame footer i = sum (take i (counts_over frame (hull_in footer)))

-- how many cells the tile at a place has
abbrev pub cells_there : Frame → Footer → ℕ → ℕ
cells_there frame footer i = get_or (counts_over frame (hull_in footer)) i 0

-- where the tile at a place stands in an object
abbrev pub space_span : Frame → Footer → ℕ → UsedColumn → Span
space_span frame footer i column = span_from column.form (cells_before frame footer i) (cells_there frame footer i) i column.part column.size

-- the tile at a place, with its spans in these objects
abbrev pub space_tile : Frame → Footer → List UsedColumn → ℕ → WantedTile
space_tile frame footer used i = record {
  cells = cells_there frame footer i;
  leaf = get_or (tiles_over frame (hull_in footer)) i no_box;
  spans = map (space_span frame footer i) used;
}

-- the tiles at these places
abbrev pub space_tiles : Frame → Footer → List UsedColumn → List ℕ → List WantedTile
space_tiles frame footer used tiles = map (space_tile frame footer used) tiles

-- the places of the tiles that a fetch reads: those that meet the box that is wanted
abbrev pub space_places : Frame → SubBox → Footer → List ℕ
space_places frame sub footer = if is_box_in frame.domain sub then places_meeting sub (tiles_over frame (hull_in footer)) else []

-- ---- beginning

-- what is known of the fragment with this metadata
abbrev pub space_opened : Frame → List Attr → Want → Footer → List UsedColumn → Opened
space_opened frame attrs want footer used =
    record { frame = frame; attrs = attrs; want = want; head = footer.head; tiles = space_tiles frame footer used (space_places frame want.sub footer) }

-- a fetch of what is wanted
abbrev pub space_fetch : Frame → List Attr → FragKey → Want → Footer → List UsedColumn → Going Opened
space_fetch frame attrs frag want footer used =
    begun (space_opened frame attrs want footer used) frag (calls_for used (space_tiles frame footer used (space_places frame want.sub footer)))

-- a fetch of what is wanted of a fragment, from the object of its metadata on; or the offset at which that is broken first; in a sparse array that is 0
unfoldable pub space_opens : Frame → Schema → FragKey → List ℕ → Want → Result (Going Opened) ℕ
space_opens frame s frag object want =
    if frame.dense then (dense_footer_stored frame s.attrs frag object >>= λ footer. Ok (space_fetch frame s.attrs frag want footer (space_used s.attrs footer want.attrs))) else Err 0
