-- The spans of a tile of a stored piece are read as its cells.
use Rattle.std.proofs.Common.{◌≡◌, ℕ, zero, suc, ◌^◌, ◌<◌, ◌≤◌, ℤ, true, List, [], ◌∷◌, ◌++◌, length, map, get_or, Option, Result, Ok, refl, sym, ap, ◌∙◌, subst, arith}
use Rattle.std.specs.List.{flat_map, All}
use Rattle.std.proofs.lemmas.List.Elements.{All-nil, All-weaker}
use Rattle.ts_base.specs.declared.keys.FragKey.{FragKey}
use Rattle.ts_base.specs.declared.names.Part.{Part}
use Rattle.ts_base.specs.declared.names.Part.TheVariants as part
use Rattle.ts_base.specs.declared.names.PartBytes.{PartBytes}
use Rattle.ts_base.specs.declared.values.Val.{Val}
use Rattle.ts_wire.specs.Exact.{EachFits}
use Rattle.ts_wire.proofs.Laws.{EachFits-length}
use Rattle.ts_schema.specs.Parts.{Look}
use Rattle.ts_schema.specs.declared.attrs.Attr.{Attr}
use Rattle.ts_schema.specs.declared.frames.Frame.{Frame}
use Rattle.ts_plain.specs.declared.stored.StoredCell.{StoredCell}
use Rattle.ts_plain.specs.declared.stored.StoredPiece.{StoredPiece}
use Rattle.ts_plain.specs.Plain.{FitsValue, FitsCell}
use Rattle.ts_footer.specs.Columns.{column_forms}
use Rattle.ts_fetch.specs.Plans.{ranges_of}
use Rattle.ts_sparse.specs.Tilings.{tiles_of}
use Rattle.ts_sparse.specs.Sparse.{origin_column, leaf_of, objects_of, column_part, meta_part, parts_of, FitsTypes, FitsSparse, IsThere}
use Rattle.ts_sparse.specs.Told.{size_of, footer_of}
use Rattle.ts_sparse.specs.Cuts.{Rise}
use Rattle.ts_sparse.proofs.Shapes.{all_parts, all_tiles}
use Rattle.ts_sparse.proofs.OnePiece.{in_turn_all}
use Rattle.ts_sparse_read.specs.declared.opened.WantedTile.{WantedTile}
use Rattle.ts_sparse_read.specs.Faults.{Fault, Ranged, bytes_of, and_then}
use Rattle.ts_sparse_read.specs.TileReads.{rows_in, cells_from, coords_of_tile, vals_of_tile, origins_if, order_fault, unless, cells_of_tile}
use Rattle.ts_sparse_read.specs.Used.{columns_told, is_used, used_among, tile_size, cells_at}
use Rattle.ts_sparse_read.specs.Opens.{no_box, used_in, tile_at, tile_calls}
use Rattle.ts_sparse_read.specs.Judges.{ranged}
use Rattle.ts_sparse_read.specs.Blanks.{blanked}
use Rattle.ts_sparse_read.specs.FoundBytes.{tile_counted, tile_some, size_is}
use Rattle.ts_sparse_read.specs.FoundParts.{dim_found, attr_found, origin_found, tile_found_of, FoundAll, parts_match, piece_found, bytes_at, ranges_for, told_of, read_found, short_found}
use Rattle.ts_sparse_read.specs.FoundRows.{columns_by, row_by, rows_by, coord_functions, value_functions, cells_back, order_kept, origins_known}
use Rattle.ts_sparse_read.specs.FoundReads.{passed, dims_none, attrs_none, coords_read, vals_read, origins_read}

-- the cells of the tile at a place
abbrev pub cells_there : Frame → StoredPiece → ℕ → List StoredCell
cells_there frame s i = get_or (tiles_of frame.capacity s.cells) i []

-- the tile at a place, as a fetch reads it that reads the attributes at these places
abbrev pub tile_there : Frame → List Attr → StoredPiece → List ℕ → ℕ → WantedTile
tile_there frame attrs s places i = tile_at frame (footer_of frame attrs s) (used_in frame attrs (footer_of frame attrs s) places) i

-- what is there of a tile is read as its cells, behind a cell that they may stand behind
abbrev pub TileFound : Type 0
TileFound = (frame : Frame) (attrs : List Attr) (frag : FragKey) (s : StoredPiece) (look : Look) (places : List ℕ) (i : ℕ) (before : Option StoredCell) (rest : List (List ℕ))
    → FitsSparse frame attrs frag s → All (IsThere look) (parts_of frame attrs s) → i < length (tiles_of frame.capacity s.cells) → Rise frame s.head before (cells_there frame s i)
    → cells_of_tile frame attrs places s.head before (tile_there frame attrs s places i).leaf (tile_there frame attrs s places i).cells
    (ranged (tile_there frame attrs s places i).spans (ranges_of look (tile_calls (tile_there frame attrs s places i)) ++ rest))
    ≡ Ok (map (blanked attrs places) (cells_there frame s i))

-- ---- what holds of all cells holds of those of a tile

all_in_tile : (P : StoredCell → Type 0) (tiles : List (List StoredCell)) (i : ℕ) → All P (flat_map (λ t. t) tiles) → All P (get_or tiles i [])
all_in_tile P [] zero all = All-nil P
all_in_tile P [] (suc i) all = All-nil P
all_in_tile P (t ∷ tiles) zero all = (all_parts P t (flat_map (λ t. t) tiles) all).0
all_in_tile P (t ∷ tiles) (suc i) all = all_in_tile P tiles i (all_parts P t (flat_map (λ t. t) tiles) all).1

all_there : (P : StoredCell → Type 0) (frame : Frame) (s : StoredPiece) (i : ℕ) → All P s.cells → All P (cells_there frame s i)
all_there P frame s i all = all_in_tile P (tiles_of frame.capacity s.cells) i (subst (All P) (sym (all_tiles frame.capacity s.cells)) all)

-- ---- the leaf and the number of cells

leaf_at : (tiles : List (List StoredCell)) (i : ℕ) → get_or (map leaf_of tiles) i no_box ≡ leaf_of (get_or tiles i [])
leaf_at [] zero = refl
leaf_at [] (suc i) = refl
leaf_at (t ∷ tiles) zero = refl
leaf_at (t ∷ tiles) (suc i) = leaf_at tiles i

-- the leaf that the metadata has at the place of a tile is the hull of the tile's cells
pub leaf_is : (frame : Frame) (attrs : List Attr) (s : StoredPiece) (places : List ℕ) (i : ℕ) → (tile_there frame attrs s places i).leaf ≡ leaf_of (cells_there frame s i)
leaf_is frame attrs s places i = leaf_at (tiles_of frame.capacity s.cells) i

counted : (n i : ℕ) (cells : List StoredCell) → 1 ≤ n → length (get_or (tiles_of n cells) i []) ≡ cells_at n (length cells) i
counted zero i cells some = absurd (omega arith)
counted (suc rest) i cells some = tile_counted rest i cells

-- and the number of cells that it tells of the tile is theirs
pub count_is : (frame : Frame) (attrs : List Attr) (frag : FragKey) (s : StoredPiece) (places : List ℕ) (i : ℕ) → FitsSparse frame attrs frag s → length (cells_there frame s i) ≡ (tile_there frame attrs s places i).cells
count_is frame attrs frag s places i fits =
    counted frame.capacity i s.cells fits.capacity ∙ ap (λ m. cells_at frame.capacity m i) (fits.plain).count ∙ ap (λ n. cells_at n (s.head).cells i) (sym (size_is frame.capacity fits.capacity))

some_there : (n i : ℕ) (cells : List StoredCell) → 1 ≤ n → i < length (tiles_of n cells) → 1 ≤ length (get_or (tiles_of n cells) i [])
some_there zero i cells some within = absurd (omega arith)
some_there (suc rest) i cells some within = tile_some rest i cells within

-- ---- the parts that are read

module _ (frame : Frame) (attrs : List Attr) (frag : FragKey) (s : StoredPiece) (look : Look) (places : List ℕ) (i : ℕ) (rest : List (List ℕ))
    (fits : FitsSparse frame attrs frag s) (there : All (IsThere look) (parts_of frame attrs s)) (within : i < length (tiles_of frame.capacity s.cells)) where
  -- the cells of the tile
  abbrev tile : List StoredCell
  tile = cells_there frame s i

  -- what was got of it
  abbrev ranges : List Ranged
  ranges = ranged (tile_there frame attrs s places i).spans (ranges_of look (tile_calls (tile_there frame attrs s places i)) ++ rest)

  -- what it has of each part
  abbrev found : List PartBytes
  found = tile_found_of frame.domain attrs s.head.consolidated tile

  objects_there : All (IsThere look) (map column_part (objects_of frame attrs s))
  unfolding parts_of
  objects_there = (all_parts (IsThere look) (map column_part (objects_of frame attrs s)) (meta_part frame attrs s ∷ []) there).0

  used_is : used_in frame attrs (footer_of frame attrs s) places ≡ used_among places (told_of look places (tile_size frame.capacity) (s.head).cells i rest (objects_of frame attrs s) (column_forms frame.domain attrs s.head.consolidated))
  unfolding used_in
  used_is = ap (λ ps. used_among places (columns_told ps (column_forms frame.domain attrs s.head.consolidated) (map size_of (objects_of frame attrs s)))) (sym (parts_match frame attrs s))

  found_all : FoundAll (tile_size frame.capacity) (s.head).cells i (objects_of frame attrs s) (column_forms frame.domain attrs s.head.consolidated) found
  found_all =
      let F : ℕ → ℕ → Type 0 = λ n m. FoundAll n m i (objects_of frame attrs s) (column_forms frame.domain attrs s.head.consolidated) found in
      subst (λ n. F n (s.head).cells) (sym (size_is frame.capacity fits.capacity)) (subst (λ m. F frame.capacity m) (fits.plain).count (piece_found frame attrs s i fits.capacity within))

  ranges_are : (p : Part) → is_used places p ≡ true → bytes_of ranges p ≡ bytes_at found p
  ranges_are p used =
      ap (λ us. bytes_of (ranges_for look places (tile_size frame.capacity) (s.head).cells i rest us) p) used_is
      ∙ read_found look places (tile_size frame.capacity) (s.head).cells i rest (objects_of frame attrs s) (column_forms frame.domain attrs s.head.consolidated) found found_all objects_there p used

  ranges_short : (p : Part) → is_used places p ≡ true → length (bytes_of ranges p) < 2 ^ 64
  ranges_short p used =
      subst (λ bytes. length bytes < 2 ^ 64) (sym (ranges_are p used))
      (short_found look places (tile_size frame.capacity) (s.head).cells i rest (objects_of frame attrs s) (column_forms frame.domain attrs s.head.consolidated) found found_all objects_there p)

  many : length tile ≡ (tile_there frame attrs s places i).cells
  many = count_is frame attrs frag s places i fits

  some : 1 ≤ length tile
  some = some_there frame.capacity i s.cells fits.capacity within

  coords_are : coords_of_tile (leaf_of tile) (tile_there frame attrs s places i).cells ranges 0 frame.domain ≡ Ok (columns_by (coord_functions 0 frame.domain) tile)
  coords_are =
      coords_read places ranges tile (tile_there frame attrs s places i).cells many 0 frame.domain (attr_found 0 attrs tile ++ origin_found s.head.consolidated tile) some
      (λ p from used. ranges_are p used) fits.ints (all_there (FitsTypes frame.domain) frame s i fits.typed)

  rows_fit : All (λ (c : StoredCell). EachFits FitsValue attrs c.row) s.cells
  rows_fit = in_turn_all (FitsCell frame attrs s.head) (λ (c : StoredCell). EachFits FitsValue attrs c.row) (λ front c f. f.row) [] s.cells (fits.plain).cells

  vals_are : vals_of_tile places (tile_there frame attrs s places i).cells ranges 0 attrs ≡ Ok (columns_by (value_functions places 0 attrs) tile)
  vals_are =
      vals_read places ranges tile (tile_there frame attrs s places i).cells many 0 attrs s.head.consolidated
      (λ p from used. ranges_are p used ∙ passed p (dim_found 0 frame.domain tile) (attr_found 0 attrs tile ++ origin_found s.head.consolidated tile) (dims_none tile p 0 frame.domain from.0))
      ranges_short (all_there (λ (c : StoredCell). EachFits FitsValue attrs c.row) frame s i rows_fit)

  origins_are : (before : Option StoredCell) → Rise frame s.head before tile → origins_if s.head.consolidated (length s.head.origins) (tile_there frame attrs s places i).cells ranges ≡ Ok (origin_column tile)
  origins_are before rise =
      let others = attr_found 0 attrs tile in
      let origins = origin_found s.head.consolidated tile in
      let here : bytes_of ranges part.Origin ≡ bytes_at origins part.Origin =
      ranges_are part.Origin refl ∙ passed part.Origin (dim_found 0 frame.domain tile) (others ++ origins) (dims_none tile part.Origin 0 frame.domain (λ j. refl))
      ∙ passed part.Origin others origins (attrs_none tile part.Origin 0 attrs (λ j h. record { attr = refl; var = refl; validity = refl })) in
      origins_read places ranges tile (tile_there frame attrs s places i).cells many s.head.consolidated (length s.head.origins) here (fits.plain).head.some_origin (fits.plain).head.few_origins
      (origins_known frame s.head before tile rise)

  long : All (λ (c : StoredCell). length c.coords ≡ length frame.domain) tile
  long =
      All-weaker (FitsTypes frame.domain) (λ (c : StoredCell). length c.coords ≡ length frame.domain) (λ c f. EachFits-length _ frame.domain c.coords f) tile (all_there (FitsTypes frame.domain) frame s i fits.typed)

  cells_are : (before : Option StoredCell) → Rise frame s.head before tile
      → cells_of_tile frame attrs places s.head before (leaf_of tile) (tile_there frame attrs s places i).cells ranges ≡ Ok (map (blanked attrs places) tile)
  unfolding cells_of_tile
  cells_are before rise =
      let n = (tile_there frame attrs s places i).cells in
      let coords = columns_by (coord_functions 0 frame.domain) tile in
      let vals = columns_by (value_functions places 0 attrs) tile in
      let finish : List (List ℤ) → List ℕ → List (List Val) → Result (List StoredCell) Fault = λ cs os vs.
      unless (cells_from (rows_in n cs) os (rows_in n vs)) (order_fault frame s.head.consolidated ranges 0 before (cells_from (rows_in n cs) os (rows_in n vs))) in
      let made : cells_from (rows_in n coords) (origin_column tile) (rows_in n vals) ≡ map (blanked attrs places) tile =
      ap (λ m. cells_from (rows_in m coords) (origin_column tile) (rows_in m vals)) (sym many)
      ∙ ap (λ rows. cells_from rows (origin_column tile) (rows_in (length tile) vals)) (rows_by (coord_functions 0 frame.domain) tile)
      ∙ ap (λ rows. cells_from (map (row_by (coord_functions 0 frame.domain)) tile) (origin_column tile) rows) (rows_by (value_functions places 0 attrs) tile)
      ∙ cells_back frame.domain attrs places tile long in
      ap (λ r. and_then r (λ cs. and_then (vals_of_tile places n ranges 0 attrs) (λ vs. and_then (origins_if s.head.consolidated (length s.head.origins) n ranges) (λ os. finish cs os vs)))) coords_are
      ∙ ap (λ r. and_then r (λ vs. and_then (origins_if s.head.consolidated (length s.head.origins) n ranges) (λ os. finish coords os vs))) vals_are
      ∙ ap (λ r. and_then r (λ os. finish coords os vals)) (origins_are before rise)
      ∙ ap (λ cells. unless cells (order_fault frame s.head.consolidated ranges 0 before cells)) made
      ∙ ap (unless (map (blanked attrs places) tile)) (order_kept frame s.head attrs places ranges before tile 0 s.head.consolidated rise)

-- the spans of a tile are read as its cells
pub tile_found : TileFound
tile_found frame attrs frag s look places i before rest fits there within rise =
    ap (λ leaf. cells_of_tile frame attrs places s.head before leaf (tile_there frame attrs s places i).cells (ranged (tile_there frame attrs s places i).spans (ranges_of look (tile_calls (tile_there frame attrs s places i)) ++ rest)))
    (leaf_is frame attrs s places i)
    ∙ cells_are frame attrs frag s look places i rest fits there within before rise
