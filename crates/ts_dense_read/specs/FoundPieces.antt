-- A fetch over the parts of a stored dense piece finds what is wanted of it.
use Rattle.std.specs.Prelude.{cond, filter, if◌then◌else◌}
use Rattle.std.proofs.Common.{◌≡◌, ℕ, zero, suc, ◌+◌, ◌<◌, inl, inr, ℤ, Bool, true, false, not, ◌&&◌, nat_le, nat_eq, int_le, List, [], ◌∷◌, ◌++◌, length, map, get_or, drop, Result, Ok, refl, sym, ap, ◌∙◌, arith}
use Rattle.std.specs.List.{All, flat_map, list_all}
use Rattle.std.proofs.lemmas.Bool.{true≢false, and_parts, and_from, le-leb, eq-eqb}
use Rattle.std.proofs.lemmas.Int.{ints}
use Rattle.std.proofs.lemmas.List.{drop_at, map-append}
use Rattle.std.proofs.lemmas.List.Elements.{All-head, All-tail, All-nil, All-cons, filter-append}
use Rattle.ts_base.specs.declared.heads.Version.{Version}
use Rattle.ts_base.specs.declared.keys.FragKey.{FragKey}
use Rattle.ts_base.specs.Keys.{is_within}
use Rattle.ts_base.specs.Values.{is_integer}
use Rattle.ts_domain.specs.declared.dims.Dim.{Dim}
use Rattle.ts_domain.specs.declared.boxes.SubBox.{SubBox}
use Rattle.ts_domain.specs.Dims.{IsDim}
use Rattle.ts_domain.specs.Bounds.{are_bounds, is_between}
use Rattle.ts_domain.specs.Boxes.{is_in_box, do_boxes_meet}
use Rattle.ts_domain.specs.Rects.{places_from, places_meeting}
use Rattle.ts_wire.proofs.Laws.{EachFits-length}
use Rattle.ts_store.specs.Calls.{part_of}
use Rattle.ts_schema.specs.declared.attrs.Attr.{Attr}
use Rattle.ts_schema.specs.declared.frames.Frame.{Frame}
use Rattle.ts_schema.specs.declared.wants.Want.{Want}
use Rattle.ts_schema.specs.Parts.{Look}
use Rattle.ts_schema.specs.Wants.{is_wanted, cut, taken}
use Rattle.ts_plain.specs.declared.stored.StoredCell.{StoredCell}
use Rattle.ts_plain.specs.declared.stored.StoredPiece.{StoredPiece}
use Rattle.ts_plain.specs.Plain.{FitsValue, FitsCoord, FitsSide, FitsCell}
use Rattle.ts_plain.specs.Pieces.{version_in}
use Rattle.ts_plain.specs.Writes.{box_of}
use Rattle.ts_fetch.specs.declared.planned.Planned.{Planned}
use Rattle.ts_fetch.specs.declared.judging.Verdict.TheVariants.{Whole}
use Rattle.ts_fetch.specs.Plans.{bytes_in, ranges_of}
use Rattle.ts_sparse.specs.Sparse.{IsThere}
use Rattle.ts_sparse.specs.Cuts.{taken_at}
use Rattle.ts_sparse.proofs.OnePiece.{in_turn_all}
use Rattle.ts_dense.specs.Slots.{tiles_over, is_hole, slot_tiles, cells_in, versions_of}
use Rattle.ts_dense.specs.Dense.{parts_of, FitsDense}
use Rattle.ts_dense.proofs.SpaceTiles.{dense_suffices}
use Rattle.ts_sparse_read.specs.declared.opened.Span.{Span}
use Rattle.ts_sparse_read.specs.declared.opened.UsedColumn.{UsedColumn}
use Rattle.ts_sparse_read.specs.Faults.{Fault, and_then}
use Rattle.ts_sparse_read.specs.Opens.{is_box_in, are_readable, size_call, span_call, tile_calls, calls_for}
use Rattle.ts_sparse_read.specs.Blanks.{blanked}
use Rattle.ts_sparse_read.specs.BlankCuts.{blanked_taken}
use Rattle.ts_dense_read.specs.SpaceOpens.{space_used, space_tiles, space_places, space_opened}
use Rattle.ts_dense_read.specs.SpaceJudges.{slots_of_tiles, verdict_on, space_judge}
use Rattle.ts_dense_read.specs.Told.{footer_of}
use Rattle.ts_dense_read.specs.FilledSlots.{hole_row, filled, IsSlot, slots_are}
use Rattle.ts_dense_read.specs.FoundSlots.{slots_there, tile_there, all_there, tile_found}

-- ---- the ranges of a plan

module _ (look : Look) where
  -- sizes have none
  sizes_none : (used : List UsedColumn) (plan : List Planned) → ranges_of look (map size_call used ++ plan) ≡ ranges_of look plan
  sizes_none [] plan = refl
  sizes_none (c ∷ used) plan = sizes_none used plan

  -- the ranges of a tile stand before those behind it
  ranges_join : (spans : List Span) (plan : List Planned) → ranges_of look (map span_call spans ++ plan) ≡ ranges_of look (map span_call spans) ++ ranges_of look plan
  ranges_join [] plan = refl
  ranges_join (s ∷ spans) plan = ap (λ more. part_of s.from s.count (bytes_in (look s.part)) ∷ more) (ranges_join spans plan)

  -- there are as many as spans
  ranges_many : (spans : List Span) → length (ranges_of look (map span_call spans)) ≡ length spans
  ranges_many [] = refl
  ranges_many (s ∷ spans) = ap suc (ranges_many spans)

-- places of so many boxes
places_are : (sub : SubBox) (many at : ℕ) (boxes : List SubBox) → at + length boxes ≡ many → All (λ i. i < many) (places_from sub at boxes)
places_are sub many at [] is = All-nil (λ i. i < many)
places_are sub many at (b ∷ boxes) is = by (do_boxes_meet b sub) (places_are sub many (at + 1) boxes (omega (arith, is)))
  where
    by : (m : Bool) → All (λ i. i < many) (places_from sub (at + 1) boxes) → All (λ i. i < many) (if m then at ∷ places_from sub (at + 1) boxes else places_from sub (at + 1) boxes)
    by true others = All-cons (λ i. i < many) at (places_from sub (at + 1) boxes) (omega (arith, is)) others
    by false others = others

-- ---- the cells of slots that are read

module _ (attrs : List Attr) (places : List ℕ) where
  -- the cells of slots that are read are those of the slots, of which some attributes are read
  pub cells_read : (tile : List StoredCell) → cells_in (map (blanked attrs places) (map (filled attrs) tile)) ≡ map (blanked attrs places) (cells_in tile)
  cells_read [] = refl
  cells_read (slot ∷ tile) = by (is_hole slot) (cells_read tile)
    where
      by : (b : Bool) → cells_in (map (blanked attrs places) (map (filled attrs) tile)) ≡ map (blanked attrs places) (cells_in tile)
          → cond (not b) (blanked attrs places (record { coords = slot.coords; origin = slot.origin; row = if b then hole_row attrs else slot.row }) ∷ cells_in (map (blanked attrs places) (map (filled attrs) tile)))
          (cells_in (map (blanked attrs places) (map (filled attrs) tile)))
          ≡ map (blanked attrs places) (cond (not b) (slot ∷ cells_in tile) (cells_in tile))
      by true others = others
      by false others = ap (λ cs. blanked attrs places slot ∷ cs) others

-- the cells of slots have a value for each attribute
rows_long : (attrs : List Attr) (entries : ℕ) (tile : List StoredCell) → All (IsSlot attrs entries) tile → All (λ (c : StoredCell). length c.row ≡ length attrs) (cells_in tile)
rows_long attrs entries [] are = All-nil (λ (c : StoredCell). length c.row ≡ length attrs)
rows_long attrs entries (slot ∷ tile) are = by (is_hole slot) refl (All-head (IsSlot attrs entries) slot tile are) (rows_long attrs entries tile (All-tail (IsSlot attrs entries) slot tile are))
  where
    by : (b : Bool) → is_hole slot ≡ b → IsSlot attrs entries slot → All (λ (c : StoredCell). length c.row ≡ length attrs) (cells_in tile)
        → All (λ (c : StoredCell). length c.row ≡ length attrs) (cond (not b) (slot ∷ cells_in tile) (cells_in tile))
    by true e is others = others
    by false e (inl none) others = absurd (true≢false (sym none.0 ∙ e))
    by false e (inr some) others = All-cons (λ (c : StoredCell). length c.row ≡ length attrs) slot (cells_in tile) (EachFits-length FitsValue attrs slot.row some.1) others

-- ---- tile by tile

module _ (frame : Frame) (attrs : List Attr) (frag : FragKey) (s : StoredPiece) (look : Look) (fits : FitsDense frame attrs frag s) (there : All (IsThere look) (parts_of frame attrs s)) where
  -- how many tiles there are
  abbrev many : ℕ
  many = length (tiles_over frame (box_of s.head.hull))

  -- the slots of the tile at a place, as they are read
  abbrev read_there : List ℕ → ℕ → List StoredCell
  read_there places i = map (blanked attrs places) (map (filled attrs) (slots_there frame s i))

  -- the slots of tiles are read
  walk : (places tiles : List ℕ) → All (λ i. i < many) tiles
      → slots_of_tiles frame attrs places s.head (map (tile_there frame attrs s places) tiles) (ranges_of look (flat_map tile_calls (map (tile_there frame attrs s places) tiles))) ≡ Ok (flat_map (read_there places) tiles)
  walk places [] are = refl
  walk places (i ∷ tiles) are =
      let tile = tile_there frame attrs s places i in
      let slots = read_there places i in
      let others = map (tile_there frame attrs s places) tiles in
      let here = ranges_of look (map span_call tile.spans) in
      let more = ranges_of look (flat_map tile_calls others) in
      let next : List (List ℕ) → List StoredCell → Result (List StoredCell) Fault = λ got first.
      and_then (slots_of_tiles frame attrs places s.head others (drop (length tile.spans) got)) (λ rest. Ok (first ++ rest)) in
      ap (slots_of_tiles frame attrs places s.head (tile ∷ others)) (ranges_join look tile.spans (flat_map tile_calls others))
      ∙ ap (λ r. and_then r (next (here ++ more))) (tile_found frame attrs frag s look places i more fits there (All-head (λ i. i < many) i tiles are))
      ∙ ap (λ got. and_then (slots_of_tiles frame attrs places s.head others got) (λ rest. Ok (slots ++ rest))) (drop_at here more (length tile.spans) (ranges_many look tile.spans))
      ∙ ap (λ r. and_then r (λ rest. Ok (slots ++ rest))) (walk places tiles (All-tail (λ i. i < many) i tiles are))

  -- ---- what is wanted of the cells

  -- a hull has a side for each dimension
  hull_long : length s.head.hull ≡ length frame.domain
  hull_long = EachFits-length FitsSide frame.domain s.head.hull (fits.head).hull

  -- a cell has a coordinate along each dimension
  coords_long : All (λ (c : StoredCell). length c.coords ≡ length frame.domain) s.cells
  coords_long =
      in_turn_all (FitsCell frame attrs s.head) (λ (c : StoredCell). length c.coords ≡ length frame.domain) (λ front c f. EachFits-length FitsCoord s.head.hull c.coords f.coords ∙ hull_long) [] s.cells fits.cells

  module _ (want : Want) where
    -- what is wanted of two lists
    taken-append : (xs ys : List Version) → taken want (xs ++ ys) ≡ taken want xs ++ taken want ys
    taken-append xs ys = ap (map (cut want)) (filter-append (is_wanted want) xs ys) ∙ map-append (cut want) (filter (is_wanted want) xs) (filter (is_wanted want) ys)

    -- the versions that two lists of slots hold
    versions-append : (xs ys : List StoredCell) → versions_of s.head (xs ++ ys) ≡ versions_of s.head xs ++ versions_of s.head ys
    versions-append xs ys = ap (map (version_in s.head)) (filter-append (λ (slot : StoredCell). not (is_hole slot)) xs ys) ∙ map-append (version_in s.head) (cells_in xs) (cells_in ys)

    -- the versions of the tile at a place
    versions_at : (tiles : List (List StoredCell)) (i : ℕ) → get_or (map (versions_of s.head) tiles) i [] ≡ versions_of s.head (get_or tiles i [])
    versions_at [] zero = refl
    versions_at [] (suc i) = refl
    versions_at (t ∷ tiles) zero = refl
    versions_at (t ∷ tiles) (suc i) = versions_at tiles i

    -- what is wanted of a tile as it is read is wanted of it
    taken_tile : (i : ℕ) → taken want (versions_of s.head (read_there want.attrs i)) ≡ taken want (versions_of s.head (slots_there frame s i))
    taken_tile i =
        let tile = slots_there frame s i in
        let are = all_there frame attrs frag s (IsSlot attrs (length s.head.origins)) i fits (slots_are frame attrs frag s fits) in
        ap (λ cells. taken want (map (version_in s.head) cells)) (cells_read attrs want.attrs tile) ∙ blanked_taken attrs want s.head (cells_in tile) (rows_long attrs (length s.head.origins) tile are)

    -- what is wanted of tiles as they are read is wanted of them
    taken_tiles : (tiles : List ℕ) → taken want (versions_of s.head (flat_map (read_there want.attrs) tiles)) ≡ taken_at want (map (versions_of s.head) (slot_tiles frame s)) tiles
    taken_tiles [] = refl
    taken_tiles (i ∷ tiles) =
        let here = read_there want.attrs i in
        let others = flat_map (read_there want.attrs) tiles in
        let parts = map (versions_of s.head) (slot_tiles frame s) in
        ap (taken want) (versions-append here others) ∙ taken-append (versions_of s.head here) (versions_of s.head others)
        ∙ ap (λ vs. vs ++ taken want (versions_of s.head others)) (taken_tile i ∙ ap (taken want) (sym (versions_at (slot_tiles frame s) i)))
        ∙ ap (λ vs. taken want (get_or parts i []) ++ vs) (taken_tiles tiles)

    -- ---- a box that is none in the array

    -- bounds that have coordinates between them are those of a box with as many sides
    between_box : (ls hs xs : List ℤ) → is_between ls hs xs ≡ true → (length ls ≡ length xs) × (are_bounds ls hs ≡ true)
    between_box [] [] [] e = (refl, refl)
    between_box [] [] (x ∷ xs) e = absurd (cc)
    between_box [] (h ∷ hs) xs e = absurd (cc)
    between_box (l ∷ ls) [] xs e = absurd (cc)
    between_box (l ∷ ls) (h ∷ hs) [] e = absurd (cc)
    between_box (l ∷ ls) (h ∷ hs) (x ∷ xs) e =
        let parts = and_parts (int_le l x && int_le x h) (is_between ls hs xs) e in
        let both = and_parts (int_le l x) (int_le x h) parts.0 in
        let others = between_box ls hs xs parts.1 in
        (ap suc others.0, and_from (int_le l h) (are_bounds ls hs) (through l x h both.0 both.1) others.1)
      where
        through : (a b c : ℤ) → int_le a b ≡ true → int_le b c ≡ true → int_le a c ≡ true
        through a b c e f = grind (arith, ints)

    -- each dimension has an integer type
    ints_all : (dims : List Dim) → All IsDim dims → list_all (λ d. is_integer d.ty) dims ≡ true
    ints_all [] all = refl
    ints_all (d ∷ dims) all = and_from (is_integer d.ty) (list_all (λ d. is_integer d.ty) dims) (All-head IsDim d dims all).integer (ints_all dims (All-tail IsDim d dims all))

    -- a box that has a cell is one in the array
    is_box : (coords : List ℤ) → length coords ≡ length frame.domain → is_in_box want.sub coords ≡ true → is_box_in frame.domain want.sub ≡ true
    is_box coords long e =
        let box = between_box want.sub.low want.sub.high coords e in
        let domain = (fits.sound).domain in
        and_from (are_readable frame.domain) (nat_eq (length want.sub.low) (length frame.domain) && are_bounds want.sub.low want.sub.high)
        (and_from (nat_le 1 (length frame.domain)) (list_all (λ d. is_integer d.ty) frame.domain) (le-leb 1 (length frame.domain) domain.some) (ints_all frame.domain domain.valid))
        (and_from (nat_eq (length want.sub.low) (length frame.domain)) (are_bounds want.sub.low want.sub.high) (eq-eqb (length want.sub.low) (length frame.domain) (box.0 ∙ long)) box.1)

    -- no cell lies in it
    none_wanted : (cells : List StoredCell) → is_box_in frame.domain want.sub ≡ false → All (λ (c : StoredCell). length c.coords ≡ length frame.domain) cells → taken want (map (version_in s.head) cells) ≡ []
    none_wanted [] none long = refl
    none_wanted (c ∷ cells) none long =
        by (is_wanted want (version_in s.head c)) refl (none_wanted cells none (All-tail (λ (c : StoredCell). length c.coords ≡ length frame.domain) c cells long))
      where
        others : List Version
        others = filter (is_wanted want) (map (version_in s.head) cells)

        by : (b : Bool) → is_wanted want (version_in s.head c) ≡ b → map (cut want) others ≡ [] → map (cut want) (cond b (version_in s.head c ∷ others) others) ≡ []
        by false e rest = rest
        by true e rest =
            let inside = and_parts (is_within want.a want.b (version_in s.head c).key) (is_in_box want.sub c.coords) e in
            absurd (true≢false (sym (is_box c.coords (All-head (λ (c : StoredCell). length c.coords ≡ length frame.domain) c cells long) inside.1) ∙ none))

    -- what is wanted of the tiles that are read is all that is wanted
    all_found : taken want (versions_of s.head (flat_map (read_there want.attrs) (space_places frame want.sub (footer_of frame attrs s)))) ≡ taken want (map (version_in s.head) s.cells)
    all_found = by (is_box_in frame.domain want.sub) refl
      where
        by : (b : Bool) → is_box_in frame.domain want.sub ≡ b
            → taken want (versions_of s.head (flat_map (read_there want.attrs) (if b then places_meeting want.sub (tiles_over frame (box_of s.head.hull)) else []))) ≡ taken want (map (version_in s.head) s.cells)
        by true e = taken_tiles (places_meeting want.sub (tiles_over frame (box_of s.head.hull))) ∙ dense_suffices frame attrs frag s want fits
        by false e = sym (none_wanted s.cells e coords_long)

    -- the tiles that are read are tiles of the hull
    pub places_fit : All (λ i. i < many) (space_places frame want.sub (footer_of frame attrs s))
    places_fit = by (is_box_in frame.domain want.sub)
      where
        by : (b : Bool) → All (λ i. i < many) (if b then places_meeting want.sub (tiles_over frame (box_of s.head.hull)) else [])
        by true = places_are want.sub many 0 (tiles_over frame (box_of s.head.hull)) (omega arith)
        by false = All-nil (λ i. i < many)

    -- ---- the verdict

    -- over the parts of the piece the judge finds what is wanted of it
    pub judge_finds : space_judge (space_opened frame attrs want (footer_of frame attrs s) (space_used attrs (footer_of frame attrs s) want.attrs))
        (ranges_of look (calls_for (space_used attrs (footer_of frame attrs s) want.attrs)
        (space_tiles frame (footer_of frame attrs s) (space_used attrs (footer_of frame attrs s) want.attrs) (space_places frame want.sub (footer_of frame attrs s)))))
        ≡ Whole (taken want (map (version_in s.head) s.cells))
    unfolding space_judge
    judge_finds =
        let footer = footer_of frame attrs s in
        let used = space_used attrs footer want.attrs in
        let places = space_places frame want.sub footer in
        let tiles = space_tiles frame footer used places in
        let opened = space_opened frame attrs want footer used in
        ap (λ got. verdict_on opened (slots_of_tiles frame attrs want.attrs s.head tiles got)) (sizes_none look used (flat_map tile_calls tiles))
        ∙ ap (verdict_on opened) (walk want.attrs places places_fit)
        ∙ ap Whole all_found
