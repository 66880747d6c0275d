-- Where all is wanted, a slot is read for each cell of the hull, with a value for each attribute.
use Rattle.std.proofs.Common.{◌≡◌, ℕ, zero, suc, ◌+◌, ◌*◌, ◌^◌, ◌<◌, ◌≤◌, ℤ, Bool, true, false, cond, nat_le, List, [], ◌∷◌, ◌++◌, length, map, filter, drop, get_or, refl, sym, ap, ◌∙◌, subst, arith}
use Rattle.std.specs.Prelude.{IsTrue, if◌then◌else◌}
use Rattle.std.specs.List.{flat_map, sum, All, AllByRecursion}
use Rattle.std.proofs.Math.Nat.{mul-le-mul_left}
use Rattle.std.proofs.lemmas.Bool.{and_parts, leb-true, eqb-true}
use Rattle.std.proofs.lemmas.List.{get_or-map, map-append}
use Rattle.std.proofs.lemmas.List.Elements.{All-head, All-tail, All-nil, All-cons, All-weaker, All-append, All-filter, All-drop, All-from_recursion}
use Rattle.std.proofs.lemmas.List.Sums.{sum_by-cons}
use Rattle.ts_base.specs.declared.keys.FragKey.{FragKey}
use Rattle.ts_base.specs.declared.names.Part.{Part}
use Rattle.ts_base.specs.declared.values.Val.{Val}
use Rattle.ts_domain.specs.declared.boxes.SubBox.{SubBox}
use Rattle.ts_domain.specs.Boxes.{IsBox, cells_of, do_boxes_meet}
use Rattle.ts_domain.specs.Dims.{IsSoundDim, IsDomain}
use Rattle.ts_domain.specs.Domains.{whole_domain}
use Rattle.ts_domain.specs.Rects.{places_from, places_meeting}
use Rattle.ts_domain.proofs.Between.{is_between-low}
use Rattle.ts_domain.proofs.BoxLemmas.{do_boxes_meet-ShareCell}
use Rattle.ts_domain.proofs.DomainLemmas.{All-IsDomain}
use Rattle.ts_order.specs.Orders.{coords_in_order}
use Rattle.ts_order.specs.Tiles.{AreTiles}
use Rattle.ts_order.proofs.InOrder.{all_from_places}
use Rattle.ts_order.proofs.OrderedCoords.{length-coords_in_order}
use Rattle.ts_order.proofs.TilesLemmas.{AreTiles-tiles_in}
use Rattle.ts_wire.specs.Exact.{IsBytes, InTurn, EachFits}
use Rattle.ts_schema.specs.declared.attrs.Attr.{Attr}
use Rattle.ts_schema.specs.declared.frames.Frame.{Frame}
use Rattle.ts_plain.specs.declared.stored.StoredHead.{StoredHead}
use Rattle.ts_plain.specs.declared.stored.StoredCell.{StoredCell}
use Rattle.ts_plain.specs.Rules.{volume, may_count}
use Rattle.ts_plain.specs.Plain.{FitsValue}
use Rattle.ts_plain.specs.Writes.{box_of}
use Rattle.ts_footer.specs.declared.columns.ColumnForm.{ColumnForm}
use Rattle.ts_footer.specs.declared.columns.ColumnForm.TheVariants.{Fixed, Var}
use Rattle.ts_footer.specs.declared.columns.ColumnSize.{ColumnSize}
use Rattle.ts_footer.specs.declared.footers.Footer.{Footer}
use Rattle.ts_footer.specs.Columns.{column_forms, FitsStart, FitsSize}
use Rattle.ts_footer.specs.Footers.{FitsDenseFooter}
use Rattle.ts_fetch.specs.Plans.{AreRanges}
use Rattle.ts_dense.specs.Slots.{tiles_over, counts_over, coords_over}
use Rattle.ts_dense.proofs.HullOrder.{hull_box, coords_many, counts_many, tiles_over_valid}
use Rattle.ts_dense.proofs.SpaceTiles.{coords_of}
use Rattle.ts_sparse_read.specs.declared.opened.Span.{Span}
use Rattle.ts_sparse_read.specs.declared.opened.UsedColumn.{UsedColumn}
use Rattle.ts_sparse_read.specs.Faults.{Ranged}
use Rattle.ts_sparse_read.specs.TileReads.{is_among, rows_in, cells_from}
use Rattle.ts_sparse_read.specs.Judges.{ranged}
use Rattle.ts_sparse_read.specs.Used.{column_parts, columns_told, is_used}
use Rattle.ts_sparse_read.specs.Opens.{no_box, is_box_in, size_call, span_call, tile_calls, calls_for}
use Rattle.ts_sparse_read.specs.ReadRows.{rows_fit, cells_all}
use Rattle.ts_sparse_read.specs.ReadColumns.{vals_fit}
use Rattle.ts_sparse_read.specs.ReadCells.{IsGot, IsShortCall, ranges_got}
use Rattle.ts_sparse_read.specs.SoundTiles.{IsTold}
use Rattle.ts_sparse_read.specs.WholeTiles.{whole_is_box, in_domain}
use Rattle.ts_dense_read.specs.SpaceOpens.{space_used, span_from, cells_there, space_span, space_tile, space_tiles, space_places}
use Rattle.ts_dense_read.specs.ReadSlots.{IsReadTile, AreRead}
use Rattle.ts_dense_read.specs.KnownOrigins.{IsKnown, origins_known, origins_first}
use Rattle.ts_dense_read.specs.InOrder.{leaf_at, boxes_meeting}

-- ---- lists

-- where all pass, those that pass are all
all_pass : {X : Type 0} (p : X → Bool) (xs : List X) → AllByRecursion (λ (x : X). p x ≡ true) xs → filter p xs ≡ xs
all_pass p [] all = refl
all_pass p (x ∷ xs) all = ap (λ b. cond b (x ∷ filter p xs) (filter p xs)) all.0 ∙ ap (λ ys. x ∷ ys) (all_pass p xs all.1)

-- no number is above the sum
part_below : (counts : List ℕ) (i : ℕ) → get_or counts i 0 ≤ sum counts
part_below [] i = omega arith
part_below (n ∷ counts) zero = omega (arith, sum_by-cons (λ (x : ℕ). x) n counts)
part_below (n ∷ counts) (suc i) = omega (arith, part_below counts i, sum_by-cons (λ (x : ℕ). x) n counts)

-- the places of the boxes that meet a box are places
places_below : (sub : SubBox) (at end : ℕ) (boxes : List SubBox) → at + length boxes ≤ end → All (λ (i : ℕ). i < end) (places_from sub at boxes)
places_below sub at end [] room = All-nil (λ (i : ℕ). i < end)
places_below sub at end (b ∷ bs) room = by (places_below sub (at + 1) end bs (omega (arith, room))) (do_boxes_meet b sub)
  where
    by : All (λ (i : ℕ). i < end) (places_from sub (at + 1) bs) → (t : Bool) → All (λ (i : ℕ). i < end) (if t then at ∷ places_from sub (at + 1) bs else places_from sub (at + 1) bs)
    by rest true = All-cons (λ (i : ℕ). i < end) at (places_from sub (at + 1) bs) (omega (arith, room)) rest
    by rest false = rest

-- ---- spans

-- no tile starts behind the end of its object
starts_within : (end : ℕ) (front starts : List ℕ) (i : ℕ) → InTurn (FitsStart end) front starts → get_or starts i end ≤ end
starts_within end front [] i fits = omega arith
starts_within end front (start ∷ starts) zero fits = leb-true start end (and_parts _ (nat_le start end) fits.0).1
starts_within end front (start ∷ starts) (suc i) fits = starts_within end (front ++ start ∷ []) starts i fits.1

-- the span of a tile is no longer than its object
span_short : (form : ColumnForm) (cells tiles first count i : ℕ) (p : Part) (size : ColumnSize) → count ≤ cells → FitsSize cells tiles form size → (span_from form first count i p size).count < 2 ^ 64
span_short (Fixed width) cells tiles first count i p size few fits =
    let more : width * count ≤ width * cells = mul-le-mul_left width few in
    let long : size.length ≡ 14 + width * cells = fits.keeps.0 in
    let room : size.length < 256 ^ 8 = fits.room in
    omega (arith, more, long, room)
span_short Var cells tiles first count i p size few fits =
    let end : get_or size.starts (suc i) size.length ≤ size.length = starts_within size.length [] size.starts (suc i) (fits.keeps).each in
    let room : size.length < 256 ^ 8 = fits.room in
    omega (arith, end, room)

-- what is told of the columns fits their forms
told_each : (cells tiles : ℕ) (parts : List Part) (forms : List ColumnForm) (sizes : List ColumnSize) → EachFits (FitsSize cells tiles) forms sizes → All (IsTold cells tiles) (columns_told parts forms sizes)
told_each cells tiles [] forms sizes fits = All-nil (IsTold cells tiles)
told_each cells tiles (p ∷ parts) [] sizes fits = All-nil (IsTold cells tiles)
told_each cells tiles (p ∷ parts) (f ∷ forms) [] fits = absurd fits
told_each cells tiles (p ∷ parts) (f ∷ forms) (s ∷ sizes) fits =
    All-cons (IsTold cells tiles) (record { part = p; form = f; size = s }) (columns_told parts forms sizes) fits.0 (told_each cells tiles parts forms sizes fits.1)

-- to ask for sizes takes no bytes
sizes_short : (used : List UsedColumn) → All IsShortCall (map size_call used)
sizes_short [] = All-nil IsShortCall
sizes_short (c ∷ used) = All-cons IsShortCall (size_call c) (map size_call used) tt (sizes_short used)

-- no bytes are such
none_got : IsGot []
none_got = ((λ i. omega arith), omega arith)

-- what was got of spans is bytes, and not too long
ranged_got : (spans : List Span) (got : List (List ℕ)) → All IsGot got → All (λ (r : Ranged). IsGot r.bytes) (ranged spans got)
ranged_got [] got all = All-nil (λ (r : Ranged). IsGot r.bytes)
ranged_got (s ∷ spans) [] all =
    All-cons (λ (r : Ranged). IsGot r.bytes) (record { part = s.part; from = s.from; bytes = [] }) (ranged spans []) none_got (ranged_got spans [] all)
ranged_got (s ∷ spans) (bytes ∷ got) all =
    All-cons (λ (r : Ranged). IsGot r.bytes) (record { part = s.part; from = s.from; bytes = bytes }) (ranged spans got) (All-head IsGot bytes got all) (ranged_got spans got (All-tail IsGot bytes got all))

-- ---- slots with their values

-- the slots are made at all coordinates, where there are as many origins and rows
cells_at_all : (coords : List (List ℤ)) (origins : List ℕ) (rows : List (List Val)) → length origins ≡ length coords → length rows ≡ length coords → coords_of (cells_from coords origins rows) ≡ coords
cells_at_all [] origins rows as_many same = refl
cells_at_all (c ∷ coords) [] rows as_many same = absurd (omega (arith, as_many))
cells_at_all (c ∷ coords) (o ∷ origins) [] as_many same = absurd (omega (arith, same))
cells_at_all (c ∷ coords) (o ∷ origins) (r ∷ rows) as_many same = ap (λ (cs : List (List ℤ)). c ∷ cs) (cells_at_all coords origins rows (omega (arith, as_many)) (omega (arith, same)))

-- what holds of every item
always : {X : Type 0} (xs : List X) → All (λ _. Unit {0}) xs
always [] = All-nil (λ _. Unit {0})
always (x ∷ xs) = All-cons (λ _. Unit {0}) x xs tt (always xs)

module _ (attrs : List Attr) (head : StoredHead) where
  -- a value for each attribute, and an origin that is known or that of a hole; in an ordinary fragment the first one
  pub record IsRead (slot : StoredCell) : Type 0 where
    pub row : EachFits FitsValue attrs slot.row
    pub known : IsKnown (length head.origins) slot.origin
    pub first : head.consolidated ≡ false → slot.origin ≡ 0

-- slots at these coordinates, each with its values
pub record AreWhole (attrs : List Attr) (head : StoredHead) (coords : List (List ℤ)) (slots : List StoredCell) : Type 0 where
  pub stands : coords_of slots ≡ coords
  pub each : All (IsRead attrs head) slots

module _ (frame : Frame) (attrs : List Attr) (places : List ℕ) (head : StoredHead) (among : (k : ℕ) → k < length attrs → is_among places k ≡ true) (some : 1 ≤ length head.origins) where
  -- the slots of a tile of which all attributes were read
  tile_whole : (leaf : SubBox) (count : ℕ) (ranges : List Ranged) (slots : List StoredCell) → length (coords_in_order frame.cell leaf) ≡ count → All (λ (r : Ranged). IsGot r.bytes) ranges
      → IsReadTile frame attrs places head leaf count ranges slots → AreWhole attrs head (coords_in_order frame.cell leaf) slots
  tile_whole leaf count ranges slots long got is =
      let coords = coords_in_order frame.cell leaf in
      let bytes = All-weaker (λ (r : Ranged). IsGot r.bytes) (λ (r : Ranged). IsBytes r.bytes) (λ r g. g.0) ranges got in
      let short = All-weaker (λ (r : Ranged). IsGot r.bytes) (λ (r : Ranged). length r.bytes < 2 ^ 64) (λ r g. g.1) ranges got in
      let rows = rows_fit FitsValue count attrs is.vals (vals_fit places count ranges bytes short attrs is.vals among is.vals_are) in
      let origins = origins_known head.consolidated (length head.origins) places attrs count (rows_in count is.vals) ranges is.origins some rows.many is.origins_are in
      let first : head.consolidated ≡ false → All (λ (o : ℕ). o ≡ 0) is.origins = λ plain. origins_first head.consolidated (length head.origins) places attrs count (rows_in count is.vals) ranges is.origins plain is.origins_are in
      let both : All (λ (o : ℕ). IsKnown (length head.origins) o × (head.consolidated ≡ false → o ≡ 0)) is.origins = λ k d within. (origins.fits k d within, λ plain. first plain k d within) in
      subst (AreWhole attrs head coords) is.made
      (record {
        stands = cells_at_all coords is.origins (rows_in count is.vals) (origins.many ∙ sym long) (rows.many ∙ sym long);
        each = cells_all (IsRead attrs head) (λ _. Unit {0}) (λ (o : ℕ). IsKnown (length head.origins) o × (head.consolidated ≡ false → o ≡ 0)) (EachFits FitsValue attrs)
            (λ c o r _ known row. record { row = row; known = known.0; first = known.1 }) coords is.origins (rows_in count is.vals) (always coords) both rows.fits;
      })

-- ---- all tiles

module _ (frame : Frame) (attrs : List Attr) (frag : FragKey) (footer : Footer) (fits : FitsDenseFooter frame attrs frag footer) (domain : IsDomain frame.domain) where
  -- the box of the hull
  abbrev hull : SubBox
  hull = box_of footer.head.hull

  -- its dimensions are sound
  sound : All IsSoundDim frame.domain
  sound = All-IsDomain frame.domain domain

  -- the metadata counts the cells of the hull
  pub counts_hull : (footer.head).cells ≡ volume (footer.head).hull
  counts_hull = eqb-true (footer.head).cells (volume (footer.head).hull) (fits.head).as_many

  -- no tile has more cells
  few_there : (i : ℕ) → cells_there frame footer i ≤ (footer.head).cells
  few_there i =
      let below = part_below (counts_over frame hull) i in
      let many = counts_many frame (footer.head).hull sound (fits.head).hull in
      let all = coords_many frame (footer.head).hull sound (fits.head).hull in
      omega (arith, below, many, all, counts_hull)

  -- there is an origin
  some_origin : 1 ≤ length (footer.head).origins
  some_origin = by (footer.head).consolidated (fits.head).some_origin
    where
      by : (b : Bool) → IsTrue (may_count b (length (footer.head).origins)) → 1 ≤ length (footer.head).origins
      by true e = leb-true 1 (length (footer.head).origins) e
      by false e = let one = eqb-true (length (footer.head).origins) 1 e in omega (arith, one)

  -- the spans of a tile are short
  spans_short : (i : ℕ) (used : List UsedColumn) → All (IsTold (footer.head).cells footer.tiles) used → All IsShortCall (map span_call (map (space_span frame footer i) used))
  spans_short i [] told = All-nil IsShortCall
  spans_short i (c ∷ used) told =
      let T = IsTold (footer.head).cells footer.tiles in
      All-cons IsShortCall (span_call (space_span frame footer i c)) (map span_call (map (space_span frame footer i) used))
      (span_short c.form (footer.head).cells footer.tiles _ (cells_there frame footer i) i c.part c.size (few_there i) (All-head T c used told)) (spans_short i used (All-tail T c used told))

  -- so are those of all tiles
  tiles_short : (used : List UsedColumn) → All (IsTold (footer.head).cells footer.tiles) used → (tiles : List ℕ) → All IsShortCall (flat_map tile_calls (space_tiles frame footer used tiles))
  tiles_short used told [] = All-nil IsShortCall
  tiles_short used told (i ∷ tiles) =
      All-append IsShortCall (tile_calls (space_tile frame footer used i)) (flat_map tile_calls (space_tiles frame footer used tiles)) (spans_short i used told) (tiles_short used told tiles)

  -- what is told of the objects that are read fits
  told_used : (places : List ℕ) → All (IsTold (footer.head).cells footer.tiles) (space_used attrs footer places)
  unfolding space_used
  told_used places =
      All-filter (λ (c : UsedColumn). is_used places c.part) (IsTold (footer.head).cells footer.tiles) _
      (told_each (footer.head).cells footer.tiles (column_parts [] attrs (footer.head).consolidated) (column_forms [] attrs (footer.head).consolidated) footer.sizes fits.sizes)

  -- no call of the plan asks for too many bytes
  calls_short : (places tiles : List ℕ) → All IsShortCall (calls_for (space_used attrs footer places) (space_tiles frame footer (space_used attrs footer places) tiles))
  calls_short places tiles =
      let used = space_used attrs footer places in
      All-append IsShortCall (map size_call used) (flat_map tile_calls (space_tiles frame footer used tiles)) (sizes_short used) (tiles_short used (told_used places) tiles)

  -- ---- which are read

  -- the box of the tile at a place
  abbrev leaf : ℕ → SubBox
  leaf i = leaf_at frame footer i

  -- the space tiles divide the hull
  are : AreTiles frame.domain frame.tile hull (tiles_over frame hull)
  are = let box = hull_box frame.domain (footer.head).hull (fits.head).hull in AreTiles-tiles_in frame.domain frame.tile hull sound box.0 box.1

  -- each space tile meets the whole domain
  tiles_meet : AllByRecursion (λ (t : SubBox). do_boxes_meet t (whole_domain frame.domain) ≡ true) (tiles_over frame hull)
  tiles_meet =
      all_from_places (λ (t : SubBox). do_boxes_meet t (whole_domain frame.domain) ≡ true) (tiles_over frame hull) (λ i t at.
      let own = is_between-low t.low t.high (are.valid i t at) in
      do_boxes_meet-ShareCell t (whole_domain frame.domain) (t.low, own, in_domain frame.domain (footer.head).hull t.low (fits.head).hull (are.within t.low i t at own)))

  -- so the boxes of the tiles that are read are all
  leaves_whole : map leaf (space_places frame (whole_domain frame.domain) footer) ≡ tiles_over frame hull
  leaves_whole =
      ap (λ (b : Bool). map leaf (if b then places_meeting (whole_domain frame.domain) (tiles_over frame hull) else [])) (whole_is_box frame.domain domain)
      ∙ boxes_meeting (whole_domain frame.domain) (tiles_over frame hull) ∙ all_pass (λ (b : SubBox). do_boxes_meet b (whole_domain frame.domain)) (tiles_over frame hull) tiles_meet

  -- each place that is read is that of a space tile
  places_there : All (λ (i : ℕ). i < length (tiles_over frame hull)) (space_places frame (whole_domain frame.domain) footer)
  places_there = by (is_box_in frame.domain (whole_domain frame.domain))
    where
      by : (b : Bool) → All (λ (i : ℕ). i < length (tiles_over frame hull)) (if b then places_meeting (whole_domain frame.domain) (tiles_over frame hull) else [])
      by true = places_below (whole_domain frame.domain) 0 (length (tiles_over frame hull)) (tiles_over frame hull) (omega arith)
      by false = All-nil (λ (i : ℕ). i < length (tiles_over frame hull))

  -- a tile has as many coordinates as cells
  tile_long : (i : ℕ) → i < length (tiles_over frame hull) → length (coords_in_order frame.cell (leaf i)) ≡ cells_there frame footer i
  tile_long i within =
      let box = All-from_recursion IsBox (tiles_over frame hull) (tiles_over_valid frame (footer.head).hull sound (fits.head).hull) i no_box within in
      length-coords_in_order frame.cell (leaf i) box ∙ sym (get_or-map cells_of (tiles_over frame hull) i no_box 0 within)

  module _ (places : List ℕ) (among : (k : ℕ) → k < length attrs → is_among places k ≡ true) (used : List UsedColumn) where
    -- the slots of these tiles stand at the coordinates of their boxes
    tiles_whole : (tiles : List ℕ) (got : List (List ℕ)) (parts : List (List StoredCell)) → All (λ (i : ℕ). i < length (tiles_over frame hull)) tiles → All IsGot got
        → AreRead frame attrs places footer.head (space_tiles frame footer used tiles) got parts
        → AreWhole attrs footer.head (flat_map (coords_in_order frame.cell) (map leaf tiles)) (flat_map (λ (t : List StoredCell). t) parts)
    tiles_whole [] got [] there all read = record { stands = refl; each = All-nil (IsRead attrs footer.head) }
    tiles_whole [] got (slots ∷ parts) there all read = absurd read
    tiles_whole (i ∷ tiles) got [] there all read = absurd read
    tiles_whole (i ∷ tiles) got (slots ∷ parts) there all read =
        let T = λ (i : ℕ). i < length (tiles_over frame hull) in
        let tile = space_tile frame footer used i in
        let first = tile_whole frame attrs places footer.head among some_origin (leaf i) (cells_there frame footer i) (ranged tile.spans got) slots (tile_long i (All-head T i tiles there)) (ranged_got tile.spans got all) read.0 in
        let rest = tiles_whole tiles (drop (length tile.spans) got) parts (All-tail T i tiles there) (All-drop IsGot (length tile.spans) got all) read.1 in
        let others = flat_map (λ (t : List StoredCell). t) parts in
        record {
          stands = map-append (λ (c : StoredCell). c.coords) slots others ∙ ap (λ (cs : List (List ℤ)). cs ++ coords_of others) first.stands
              ∙ ap (λ (cs : List (List ℤ)). coords_in_order frame.cell (leaf i) ++ cs) rest.stands;
          each = All-append (IsRead attrs footer.head) slots others first.each rest.each;
        }

  -- where all is wanted, a slot was read for each cell of the hull
  pub slots_whole : (places : List ℕ) → ((k : ℕ) → k < length attrs → is_among places k ≡ true) → (got : List (List ℕ)) (parts : List (List StoredCell))
      → AreRanges (calls_for (space_used attrs footer places) (space_tiles frame footer (space_used attrs footer places) (space_places frame (whole_domain frame.domain) footer))) got
      → AreRead frame attrs places footer.head (space_tiles frame footer (space_used attrs footer places) (space_places frame (whole_domain frame.domain) footer)) got parts
      → AreWhole attrs footer.head (coords_over frame (box_of footer.head.hull)) (flat_map (λ (t : List StoredCell). t) parts)
  unfolding coords_over
  slots_whole places among got parts ranges read =
      let used = space_used attrs footer places in
      let tiles = space_places frame (whole_domain frame.domain) footer in
      let all = ranges_got (calls_for used (space_tiles frame footer used tiles)) got (calls_short places tiles) ranges in
      subst (λ (boxes : List SubBox). AreWhole attrs footer.head (flat_map (coords_in_order frame.cell) boxes) (flat_map (λ (t : List StoredCell). t) parts)) leaves_whole
      (tiles_whole places among used tiles got parts places_there all read)
