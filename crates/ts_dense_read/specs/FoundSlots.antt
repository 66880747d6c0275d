-- The spans of a space tile of a stored piece are read as its slots.
use Rattle.std.specs.Prelude.{if◌then◌else◌}
use Rattle.std.proofs.Common.{◌≡◌, ℕ, zero, suc, ◌^◌, ◌<◌, inl, inr, Bool, true, false, ◌&&◌, nat_eq, nat_lt, List, [], ◌∷◌, ◌++◌, length, map, get_or, Ok, refl, sym, ap, ◌∙◌, subst, arith}
use Rattle.std.specs.List.{flat_map, All}
use Rattle.std.proofs.lemmas.Bool.{true≢false, eqb-true, or_left, or_right, and_from, lt-ltb}
use Rattle.std.proofs.lemmas.List.{length-map}
use Rattle.std.proofs.lemmas.List.Elements.{All-nil, All-cons, All-head, All-tail}
use Rattle.std.proofs.lemmas.Option.{slice_get-get_or}
use Rattle.ts_base.specs.declared.keys.FragKey.{FragKey}
use Rattle.ts_base.specs.declared.names.Part.{Part}
use Rattle.ts_base.specs.declared.names.Part.TheVariants as part
use Rattle.ts_base.specs.declared.names.PartBytes.{PartBytes}
use Rattle.ts_base.specs.declared.values.Val.{Val}
use Rattle.ts_base.specs.declared.values.Val.TheVariants.{Null}
use Rattle.ts_domain.specs.declared.boxes.SubBox.{SubBox}
use Rattle.ts_domain.specs.Boxes.{cells_of}
use Rattle.ts_order.specs.Orders.{coords_in_order}
use Rattle.ts_wire.specs.Exact.{EachFits, Exact}
use Rattle.ts_wire.specs.Numbers.{number_bytes}
use Rattle.ts_wire.proofs.Laws.{ruled_exact, whole_only, each_exact}
use Rattle.ts_wire.proofs.Numbers.{number_exact}
use Rattle.ts_schema.specs.Parts.{Look}
use Rattle.ts_schema.specs.declared.attrs.Attr.{Attr}
use Rattle.ts_schema.specs.declared.frames.Frame.{Frame}
use Rattle.ts_plain.specs.declared.stored.StoredCell.{StoredCell}
use Rattle.ts_plain.specs.declared.stored.StoredPiece.{StoredPiece}
use Rattle.ts_plain.specs.Rules.{may_count}
use Rattle.ts_plain.specs.Writes.{box_of}
use Rattle.ts_footer.specs.Columns.{column_forms}
use Rattle.ts_fetch.specs.Plans.{ranges_of}
use Rattle.ts_sparse.specs.Sparse.{origin_column, column_part, IsThere}
use Rattle.ts_sparse.specs.Told.{size_of}
use Rattle.ts_sparse.proofs.Shapes.{all_parts}
use Rattle.ts_dense.specs.Slots.{tiles_over, counts_over, no_origin, is_hole, slots_of, slot_tiles}
use Rattle.ts_dense.specs.Dense.{objects_of, meta_part, parts_of, FitsDense}
use Rattle.ts_dense.proofs.SlotLaws.{slots_full}
use Rattle.ts_dense.proofs.SpaceTiles.{coords_of, slots_in_tiles, tile_stands}
use Rattle.ts_sparse_read.specs.declared.opened.WantedTile.{WantedTile}
use Rattle.ts_sparse_read.specs.Faults.{Ranged, bytes_of, and_then, in_part}
use Rattle.ts_sparse_read.specs.TileReads.{is_among, rows_in, cells_from, vals_of_tile}
use Rattle.ts_sparse_read.specs.Used.{columns_told, is_used, used_among}
use Rattle.ts_sparse_read.specs.Opens.{no_box, tile_calls}
use Rattle.ts_sparse_read.specs.Judges.{ranged}
use Rattle.ts_sparse_read.specs.Blanks.{blanked_row, blanked}
use Rattle.ts_sparse_read.specs.FoundParts.{attr_found, origin_found, bytes_at}
use Rattle.ts_sparse_read.specs.FoundRows.{columns_by, row_by, rows_by, value_functions}
use Rattle.ts_sparse_read.specs.FoundReads.{passed, attrs_none, vals_read, origins_read}
use Rattle.ts_dense_read.specs.SlotReads.{are_of_hole, may_be_slot, slot_origin_at, slot_origins_in, slot_origins_if, slots_of_tile}
use Rattle.ts_dense_read.specs.SpaceOpens.{space_used, space_tile}
use Rattle.ts_dense_read.specs.Told.{footer_of}
use Rattle.ts_dense_read.specs.FilledSlots.{hole_row, filled, IsSlot, slots_are, hole_read, found_filled, all_fit}
use Rattle.ts_dense_read.specs.FoundSpans.{tile_many, parts_match, told_of, FoundAll, span_in, span_kept, slots_long, piece_found, ranges_for, read_found, short_found}

-- ---- origins

-- an origin that can be spelled, and that a slot with these values may have
abbrev pub FitsOrigin : ℕ → List ℕ → List Attr → List Val → ℕ → Type 0
FitsOrigin entries places attrs row origin = (origin < 256 ^ 4) × (may_be_slot entries places attrs row origin ≡ true)

-- the origin of a slot is read exactly
origin_exact : (entries : ℕ) (places : List ℕ) (attrs : List Attr) (row : List Val) → Exact (FitsOrigin entries places attrs row) (number_bytes 4) (slot_origin_at entries places attrs row)
unfolding slot_origin_at
origin_exact entries places attrs row = ruled_exact (may_be_slot entries places attrs row) (number_exact 4)

-- origins that are spelled are read
pub origins_back : (entries : ℕ) (places : List ℕ) (attrs : List Attr) (rows : List (List Val)) (origins : List ℕ) → EachFits (FitsOrigin entries places attrs) rows origins
    → slot_origins_in entries places attrs rows (flat_map (number_bytes 4) origins) ≡ Ok origins
unfolding slot_origins_in
origins_back entries places attrs rows origins fits = whole_only (each_exact (origin_exact entries places attrs) rows) origins 0 fits

-- what is read of a cell is its row, of which some values are blanked
values_there : (places : List ℕ) (k : ℕ) (attrs : List Attr) (c : StoredCell) → row_by (value_functions places k attrs) c ≡ blanked_row places k attrs c.row
values_there places k [] c = refl
values_there places k (a ∷ attrs) c = ap (λ more. (if is_among places k then get_or c.row k Null else Null) ∷ more) (values_there places (suc k) attrs c)

module _ (places : List ℕ) (attrs : List Attr) where
  -- what is read of each slot
  abbrev rows_read : List StoredCell → List (List Val)
  rows_read tile = map (row_by (value_functions places 0 attrs)) (map (filled attrs) tile)

  -- what is read of a hole is that of a hole
  hole_is : (slot : StoredCell) → is_hole slot ≡ true → are_of_hole places 0 attrs (row_by (value_functions places 0 attrs) (filled attrs slot)) ≡ true
  hole_is slot none =
      ap (are_of_hole places 0 attrs) (values_there places 0 attrs (filled attrs slot) ∙ ap (λ (b : Bool). blanked_row places 0 attrs (if b then hole_row attrs else slot.row)) none) ∙ hole_read places attrs 0 attrs refl

  -- a slot has an origin that it may have
  may_be : (entries : ℕ) → entries < 256 ^ 4 → (slot : StoredCell) → IsSlot attrs entries slot → FitsOrigin entries places attrs (row_by (value_functions places 0 attrs) (filled attrs slot)) slot.origin
  may_be entries few slot (inl none) =
      let row = row_by (value_functions places 0 attrs) (filled attrs slot) in
      let is : slot.origin ≡ no_origin = eqb-true slot.origin no_origin none.0 in
      (omega (arith, is), or_right (nat_lt slot.origin entries) (nat_eq slot.origin no_origin && are_of_hole places 0 attrs row) (and_from (nat_eq slot.origin no_origin) (are_of_hole places 0 attrs row) none.0 (hole_is slot none.0)))
  may_be entries few slot (inr some) =
      let row = row_by (value_functions places 0 attrs) (filled attrs slot) in
      let below = some.2 in
      (omega (arith, below, few), or_left (nat_lt slot.origin entries) (nat_eq slot.origin no_origin && are_of_hole places 0 attrs row) (lt-ltb slot.origin entries below))

  -- the origins of slots are those that they may have
  pub each_may : (entries : ℕ) → entries < 256 ^ 4 → (tile : List StoredCell) → All (IsSlot attrs entries) tile → EachFits (FitsOrigin entries places attrs) (rows_read tile) (origin_column tile)
  each_may entries few [] are = tt
  each_may entries few (slot ∷ tile) are =
      (may_be entries few slot (All-head (IsSlot attrs entries) slot tile are), each_may entries few tile (All-tail (IsSlot attrs entries) slot tile are))

  -- the slots with these coordinates, origins and values
  slots_made : (tile : List StoredCell) → cells_from (coords_of tile) (origin_column tile) (rows_read tile) ≡ map (blanked attrs places) (map (filled attrs) tile)
  slots_made [] = refl
  slots_made (slot ∷ tile) =
      let row = values_there places 0 attrs (filled attrs slot) in
      let others = slots_made tile in
      λ i. record { coords = slot.coords; origin = slot.origin; row = row i } ∷ others i

-- filled slots have the same origins
origins_same : (attrs : List Attr) (tile : List StoredCell) → origin_column tile ≡ origin_column (map (filled attrs) tile)
origins_same attrs [] = refl
origins_same attrs (slot ∷ tile) = ap (λ os. slot.origin ∷ os) (origins_same attrs tile)

-- and the same part of origins
origin_same : (b : Bool) (attrs : List Attr) (tile : List StoredCell) → origin_found b tile ≡ origin_found b (map (filled attrs) tile)
origin_same true attrs tile = ap (λ os. record { part = part.Origin; bytes = flat_map (number_bytes 4) os } ∷ []) (origins_same attrs tile)
origin_same false attrs tile = refl

-- where no slot is a hole each is of a write that is known
origins_known : (attrs : List Attr) (entries : ℕ) (tile : List StoredCell) → All (λ slot. is_hole slot ≡ false) tile → All (IsSlot attrs entries) tile → All (λ i. i < entries) (origin_column tile)
origins_known attrs entries [] full are = All-nil (λ i. i < entries)
origins_known attrs entries (slot ∷ tile) full are =
    All-cons (λ i. i < entries) slot.origin (origin_column tile) (by (All-head (IsSlot attrs entries) slot tile are))
    (origins_known attrs entries tile (All-tail (λ slot. is_hole slot ≡ false) slot tile full) (All-tail (IsSlot attrs entries) slot tile are))
  where
    by : IsSlot attrs entries slot → slot.origin < entries
    by (inl none) = absurd (true≢false (sym none.0 ∙ All-head (λ slot. is_hole slot ≡ false) slot tile full))
    by (inr some) = some.2

-- ---- what holds of all slots holds of those of a tile

-- what holds of all slots of tiles holds of those of each tile
pub all_in_tile : (P : StoredCell → Type 0) (tiles : List (List StoredCell)) (i : ℕ) → All P (flat_map (λ t. t) tiles) → All P (get_or tiles i [])
all_in_tile P [] zero all = All-nil P
all_in_tile P [] (suc i) all = All-nil P
all_in_tile P (t ∷ tiles) zero all = (all_parts P t (flat_map (λ t. t) tiles) all).0
all_in_tile P (t ∷ tiles) (suc i) all = all_in_tile P tiles i (all_parts P t (flat_map (λ t. t) tiles) all).1

-- the slots of the tile at a place
abbrev pub slots_there : Frame → StoredPiece → ℕ → List StoredCell
slots_there frame s i = get_or (slot_tiles frame s) i []

-- the tile at a place, as a fetch reads it that reads the attributes at these places
abbrev pub tile_there : Frame → List Attr → StoredPiece → List ℕ → ℕ → WantedTile
tile_there frame attrs s places i = space_tile frame (footer_of frame attrs s) (space_used attrs (footer_of frame attrs s) places) i

-- what was got of it, and of others behind it
abbrev pub ranges_there : Frame → List Attr → StoredPiece → Look → List ℕ → ℕ → List (List ℕ) → List Ranged
ranges_there frame attrs s look places i rest = ranged (tile_there frame attrs s places i).spans (ranges_of look (tile_calls (tile_there frame attrs s places i)) ++ rest)

-- what holds of the slots of a piece holds of those of each tile
pub all_there : (frame : Frame) (attrs : List Attr) (frag : FragKey) (s : StoredPiece) (P : StoredCell → Type 0) (i : ℕ) → FitsDense frame attrs frag s → All P (slots_of frame s) → All P (slots_there frame s i)
all_there frame attrs frag s P i fits all = all_in_tile P (slot_tiles frame s) i (subst (All P) (sym (slots_in_tiles frame attrs frag s fits)) all)

-- ---- the parts that are read

module _ (frame : Frame) (attrs : List Attr) (frag : FragKey) (s : StoredPiece) (look : Look) (places : List ℕ) (i : ℕ) (rest : List (List ℕ))
    (fits : FitsDense frame attrs frag s) (there : All (IsThere look) (parts_of frame attrs s)) (within : i < length (tiles_over frame (box_of s.head.hull))) where
  -- how many slots each tile has
  abbrev counts : List ℕ
  counts = counts_over frame (box_of s.head.hull)

  -- the slots of the tile
  abbrev tile : List StoredCell
  tile = slots_there frame s i

  -- where holes have values
  abbrev full : List StoredCell
  full = map (filled attrs) tile

  -- how many there are
  abbrev many : ℕ
  many = get_or counts i 0

  -- what was got of the tile
  abbrev ranges : List Ranged
  ranges = ranged (tile_there frame attrs s places i).spans (ranges_of look (tile_calls (tile_there frame attrs s places i)) ++ rest)

  -- what it has of each part
  abbrev found : List PartBytes
  found = attr_found 0 attrs tile ++ origin_found s.head.consolidated tile

  -- the tile has a size
  inside : i < length counts
  inside = omega (arith, within, length-map (tiles_over frame (box_of s.head.hull)) cells_of)

  -- its slots are holes without values, or cells that are stored
  are : All (IsSlot attrs (length s.head.origins)) tile
  are = all_there frame attrs frag s (IsSlot attrs (length s.head.origins)) i fits (slots_are frame attrs frag s fits)

  -- the objects of columns are there
  objects_there : All (IsThere look) (map column_part (objects_of frame attrs s))
  unfolding parts_of
  objects_there = (all_parts (IsThere look) (map column_part (objects_of frame attrs s)) (meta_part frame attrs s ∷ []) there).0

  -- the objects that are read are among those of the piece
  used_is : space_used attrs (footer_of frame attrs s) places ≡ used_among places (told_of (objects_of frame attrs s) (column_forms [] attrs s.head.consolidated))
  unfolding space_used
  used_is = ap (λ ps. used_among places (columns_told ps (column_forms [] attrs s.head.consolidated) (map size_of (objects_of frame attrs s)))) (sym (parts_match frame attrs s))

  -- at the spans of the tile stands what it has of each part
  found_all : FoundAll (span_in counts i) (objects_of frame attrs s) (column_forms [] attrs s.head.consolidated) found
  found_all = piece_found frame attrs frag s i fits inside

  -- each part that is read has what the tile has of it
  ranges_found : (p : Part) → is_used places p ≡ true → bytes_of ranges p ≡ bytes_at found p
  ranges_found p used =
      ap (λ us. bytes_of (ranges_for look places (span_in counts i) (span_kept counts i) rest us) p) used_is
      ∙ read_found look places (span_in counts i) (span_kept counts i) rest (objects_of frame attrs s) (column_forms [] attrs s.head.consolidated) found found_all objects_there p used

  -- the same as of the filled slots
  ranges_are : (p : Part) → is_used places p ≡ true → bytes_of ranges p ≡ bytes_at (attr_found 0 attrs full ++ origin_found s.head.consolidated full) p
  ranges_are p used =
      ranges_found p used ∙ ap (λ front. bytes_at (front ++ origin_found s.head.consolidated tile) p) (found_filled attrs (length s.head.origins) 0 attrs refl tile are)
      ∙ ap (λ behind. bytes_at (attr_found 0 attrs full ++ behind) p) (origin_same s.head.consolidated attrs tile)

  -- and is no longer than a length can say
  ranges_short : (p : Part) → is_used places p ≡ true → length (bytes_of ranges p) < 2 ^ 64
  ranges_short p used =
      subst (λ bytes. length bytes < 2 ^ 64) (sym (ranges_found p used))
      (short_found look places (span_in counts i) (span_kept counts i) rest (objects_of frame attrs s) (column_forms [] attrs s.head.consolidated) found found_all objects_there p)

  -- the tile has as many slots as its size says
  tile_long : length tile ≡ many
  tile_long = tile_many counts i (slots_of frame s) (slots_long frame attrs frag s fits)

  -- so has the filled one
  full_long : length full ≡ many
  full_long = length-map tile (filled attrs) ∙ tile_long

  -- its values are read
  vals_are : vals_of_tile places many ranges 0 attrs ≡ Ok (columns_by (value_functions places 0 attrs) full)
  vals_are = vals_read places ranges full many full_long 0 attrs s.head.consolidated (λ p from used. ranges_are p used) ranges_short (all_fit attrs (length s.head.origins) tile are)

  -- as rows
  rows_are : rows_in many (columns_by (value_functions places 0 attrs) full) ≡ rows_read places attrs tile
  rows_are = ap (λ n. rows_in n (columns_by (value_functions places 0 attrs) full)) (sym full_long) ∙ rows_by (value_functions places 0 attrs) full

  -- its origins are found
  origin_there : bytes_of ranges part.Origin ≡ bytes_at (origin_found s.head.consolidated tile) part.Origin
  origin_there =
      ranges_found part.Origin refl
      ∙ passed part.Origin (attr_found 0 attrs tile) (origin_found s.head.consolidated tile) (attrs_none tile part.Origin 0 attrs (λ j h. record { attr = refl; var = refl; validity = refl }))

  -- and read, of a consolidated fragment and of another one
  origins_by : (b : Bool) → s.head.consolidated ≡ b → bytes_of ranges part.Origin ≡ bytes_at (origin_found b tile) part.Origin
      → slot_origins_if b (length s.head.origins) places attrs many (rows_read places attrs tile) ranges ≡ Ok (origin_column tile)
  origins_by true is spelled =
      ap (λ bytes. in_part ranges part.Origin (slot_origins_in (length s.head.origins) places attrs (rows_read places attrs tile) bytes)) spelled
      ∙ ap (in_part ranges part.Origin)
      (origins_back (length s.head.origins) places attrs (rows_read places attrs tile) (origin_column tile) (each_may places attrs (length s.head.origins) (fits.head).few_origins tile are))
  origins_by false is spelled =
      let none = all_there frame attrs frag s (λ slot. is_hole slot ≡ false) i fits (slots_full frame attrs frag s fits is) in
      origins_read places ranges tile many tile_long false (length s.head.origins) spelled (subst (λ b. may_count b (length s.head.origins) ≡ true) is (fits.head).some_origin) (fits.head).few_origins
      (origins_known attrs (length s.head.origins) tile none are)

  -- so its origins are read
  origins_are : slot_origins_if s.head.consolidated (length s.head.origins) places attrs many (rows_read places attrs tile) ranges ≡ Ok (origin_column tile)
  origins_are = origins_by s.head.consolidated refl origin_there

  -- the box that the plan has at the place of the tile
  abbrev leaf : SubBox
  leaf = get_or (tiles_over frame (box_of s.head.hull)) i no_box

  -- its slots stand at the cells of its box
  coords_are : coords_in_order frame.cell leaf ≡ coords_of tile
  coords_are = sym (tile_stands frame attrs frag s fits i leaf (slice_get-get_or (tiles_over frame (box_of s.head.hull)) i no_box within))

  -- the spans of a tile are read as its slots, where holes have values
  pub tile_found : slots_of_tile frame attrs places s.head leaf many ranges ≡ Ok (map (blanked attrs places) full)
  unfolding slots_of_tile
  tile_found =
      let coords = coords_in_order frame.cell leaf in
      let rows = rows_read places attrs tile in
      let entries = length s.head.origins in
      ap (λ r. and_then r (λ vals. and_then (slot_origins_if s.head.consolidated entries places attrs many (rows_in many vals) ranges) (λ origins. Ok (cells_from coords origins (rows_in many vals))))) vals_are
      ∙ ap (λ rs. and_then (slot_origins_if s.head.consolidated entries places attrs many rs ranges) (λ origins. Ok (cells_from coords origins rs))) rows_are
      ∙ ap (λ r. and_then r (λ origins. Ok (cells_from coords origins rows))) origins_are
      ∙ ap (λ cs. Ok (cells_from cs (origin_column tile) rows)) coords_are
      ∙ ap Ok (slots_made places attrs tile)
