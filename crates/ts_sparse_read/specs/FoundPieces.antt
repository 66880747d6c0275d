-- A fetch over the parts of a stored piece finds what is wanted of it.
use Rattle.std.proofs.Common.{◌≡◌, ℕ, zero, suc, ◌+◌, ◌<◌, ◌≤◌, ℤ, Bool, true, false, ◌&&◌, nat_le, nat_eq, int_le, List, [], ◌∷◌, ◌++◌, length, map, get_or, drop, Option, None, Result, Ok, refl, sym, ap, ◌∙◌, subst, arith}
use Rattle.std.specs.Prelude.{cond, filter, if◌then◌else◌}
use Rattle.std.specs.List.{All, flat_map, list_all}
use Rattle.std.proofs.lemmas.Bool.{true≢false, and_parts, and_from, le-leb, eq-eqb}
use Rattle.std.proofs.lemmas.Int.{ints}
use Rattle.std.proofs.lemmas.List.{drop_at, length-map, map-append}
use Rattle.std.proofs.lemmas.List.Elements.{All-head, All-tail, All-nil, All-weaker, filter-append}
use Rattle.ts_base.specs.declared.heads.Version.{Version}
use Rattle.ts_base.specs.declared.keys.FragKey.{FragKey}
use Rattle.ts_base.specs.Keys.{is_within}
use Rattle.ts_base.specs.Values.{is_integer}
use Rattle.ts_domain.specs.declared.dims.Dim.{Dim}
use Rattle.ts_domain.specs.declared.boxes.SubBox.{SubBox}
use Rattle.ts_domain.specs.Bounds.{are_bounds, is_between}
use Rattle.ts_domain.specs.Boxes.{is_in_box, do_boxes_meet}
use Rattle.ts_domain.specs.Rects.{places_from, places_meeting}
use Rattle.ts_wire.proofs.Laws.{EachFits-length}
use Rattle.ts_store.specs.Calls.{part_of}
use Rattle.ts_schema.specs.declared.attrs.Attr.{Attr}
use Rattle.ts_schema.specs.declared.frames.Frame.{Frame}
use Rattle.ts_schema.specs.declared.wants.Want.{Want}
use Rattle.ts_schema.specs.Parts.{Look}
use Rattle.ts_schema.specs.Wants.{is_wanted, cut, taken}
use Rattle.ts_plain.specs.declared.stored.StoredCell.{StoredCell}
use Rattle.ts_plain.specs.declared.stored.StoredPiece.{StoredPiece}
use Rattle.ts_plain.specs.Plain.{FitsValue, FitsCell}
use Rattle.ts_plain.specs.Pieces.{version_in}
use Rattle.ts_fetch.specs.declared.planned.Planned.{Planned}
use Rattle.ts_fetch.specs.declared.judging.Verdict.TheVariants.{Whole}
use Rattle.ts_fetch.specs.Plans.{bytes_in, ranges_of}
use Rattle.ts_sparse.specs.Tilings.{tiles_of}
use Rattle.ts_sparse.specs.Sparse.{leaf_of, leaves_of, parts_of, FitsTypes, FitsSparse, IsThere}
use Rattle.ts_sparse.specs.Told.{footer_of}
use Rattle.ts_sparse.specs.Cuts.{taken_at, Rise, last_or, TilesRise}
use Rattle.ts_sparse.proofs.Shapes.{all_parts, all_tiles}
use Rattle.ts_sparse.proofs.OnePiece.{in_turn_all}
use Rattle.ts_sparse.proofs.OrderLaws.{order_by_tiles, in_turn_rises}
use Rattle.ts_sparse.proofs.CutLaws.{all_suffice}
use Rattle.ts_sparse_read.specs.declared.opened.Span.{Span}
use Rattle.ts_sparse_read.specs.declared.opened.UsedColumn.{UsedColumn}
use Rattle.ts_sparse_read.specs.Faults.{Fault, and_then}
use Rattle.ts_sparse_read.specs.Opens.{used_in, tiles_at, is_box_in, are_readable, places_for, size_call, span_call, tile_calls, calls_for, opened_for}
use Rattle.ts_sparse_read.specs.Judges.{cells_of_tiles, verdict_on, sparse_judge}
use Rattle.ts_sparse_read.specs.Blanks.{blanked}
use Rattle.ts_sparse_read.specs.FoundTiles.{cells_there, tile_there, TileFound}
use Rattle.ts_sparse_read.specs.FarCells.{past_tiles, far_behind, blank_behind}
use Rattle.ts_sparse_read.specs.BlankCuts.{blanked_taken}

-- ---- the ranges of a plan

module _ (look : Look) where
  -- sizes have none
  sizes_none : (used : List UsedColumn) (plan : List Planned) → ranges_of look (map size_call used ++ plan) ≡ ranges_of look plan
  sizes_none [] plan = refl
  sizes_none (c ∷ used) plan = sizes_none used plan

  ranges_join : (spans : List Span) (plan : List Planned) → ranges_of look (map span_call spans ++ plan) ≡ ranges_of look (map span_call spans) ++ ranges_of look plan
  ranges_join [] plan = refl
  ranges_join (s ∷ spans) plan = ap (λ more. part_of s.from s.count (bytes_in (look s.part)) ∷ more) (ranges_join spans plan)

  ranges_many : (spans : List Span) → length (ranges_of look (map span_call spans)) ≡ length spans
  ranges_many [] = refl
  ranges_many (s ∷ spans) = ap suc (ranges_many spans)

-- ---- ascending places

-- places from one on, each behind the one before it, of so many tiles
abbrev ArePlaces : ℕ → ℕ → List ℕ → Type 0
ArePlaces many at [] = Unit {0}
ArePlaces many at (i ∷ places) = ((at ≤ i) × (i < many)) × ArePlaces many (suc i) places

from_before : (many at next : ℕ) (places : List ℕ) → at ≤ next → ArePlaces many next places → ArePlaces many at places
from_before many at next [] le are = tt
from_before many at next (i ∷ places) le are = let low = are.0.0 in ((omega (arith, le, low), are.0.1), are.1)

places_are : (sub : SubBox) (many at : ℕ) (boxes : List SubBox) → at + length boxes ≡ many → ArePlaces many at (places_from sub at boxes)
places_are sub many at [] is = tt
places_are sub many at (b ∷ boxes) is = by (do_boxes_meet b sub) (places_are sub many (at + 1) boxes (omega (arith, is)))
  where
    by : (m : Bool) → ArePlaces many (at + 1) (places_from sub (at + 1) boxes) → ArePlaces many at (if m then at ∷ places_from sub (at + 1) boxes else places_from sub (at + 1) boxes)
    by true others = let next : at + 1 ≡ suc at = omega arith in ((omega arith, omega (arith, is)), subst (λ n. ArePlaces many n (places_from sub (at + 1) boxes)) next others)
    by false others = from_before many at (at + 1) (places_from sub (at + 1) boxes) (omega arith) others

-- ---- tile by tile

all_in_tile : (P : StoredCell → Type 0) (tiles : List (List StoredCell)) (i : ℕ) → All P (flat_map (λ t. t) tiles) → All P (get_or tiles i [])
all_in_tile P [] zero all = All-nil P
all_in_tile P [] (suc i) all = All-nil P
all_in_tile P (t ∷ tiles) zero all = (all_parts P t (flat_map (λ t. t) tiles) all).0
all_in_tile P (t ∷ tiles) (suc i) all = all_in_tile P tiles i (all_parts P t (flat_map (λ t. t) tiles) all).1

module _ (found : TileFound) (frame : Frame) (attrs : List Attr) (frag : FragKey) (s : StoredPiece) (look : Look) (fits : FitsSparse frame attrs frag s) (there : All (IsThere look) (parts_of frame attrs s)) where
  tiles_rise : TilesRise frame s.head None (tiles_of frame.capacity s.cells)
  tiles_rise = order_by_tiles frame s.head frame.capacity s.cells (in_turn_rises frame s.head attrs [] s.cells (fits.plain).cells).0

  -- the tiles from a place on rise behind a cell
  abbrev IsOpen : ℕ → Option StoredCell → Type 0
  IsOpen at before = (j : ℕ) → at ≤ j → j < length (tiles_of frame.capacity s.cells) → Rise frame s.head before (cells_there frame s j)

  -- the cells of tiles at ascending places are read
  walk : (places tiles : List ℕ) (at : ℕ) (before : Option StoredCell) → ArePlaces (length (tiles_of frame.capacity s.cells)) at tiles → IsOpen at before
      → cells_of_tiles frame attrs places s.head before (map (tile_there frame attrs s places) tiles) (ranges_of look (flat_map tile_calls (map (tile_there frame attrs s places) tiles)))
      ≡ Ok (flat_map (λ i. map (blanked attrs places) (cells_there frame s i)) tiles)
  walk places [] at before are opened = refl
  walk places (i ∷ tiles) at before are opened =
      let tile = tile_there frame attrs s places i in
      let cells = map (blanked attrs places) (cells_there frame s i) in
      let others = map (tile_there frame attrs s places) tiles in
      let here = ranges_of look (map span_call tile.spans) in
      let more = ranges_of look (flat_map tile_calls others) in
      let low = are.0.0 in
      let next : List (List ℕ) → List StoredCell → Result (List StoredCell) Fault = λ got first.
      and_then (cells_of_tiles frame attrs places s.head (last_or before first) others (drop (length tile.spans) got)) (λ rest. Ok (first ++ rest)) in
      let behind : IsOpen (suc i) (last_or before cells) = λ j above within.
      blank_behind frame s.head attrs places before (cells_there frame s i) (cells_there frame s j)
      (far_behind frame s.head None before (tiles_of frame.capacity s.cells) i j tiles_rise (opened j (omega (arith, low, above)) within) above within) in
      ap (cells_of_tiles frame attrs places s.head before (tile ∷ others)) (ranges_join look tile.spans (flat_map tile_calls others))
      ∙ ap (λ r. and_then r (next (here ++ more))) (found frame attrs frag s look places i before more fits there are.0.1 (opened i low are.0.1))
      ∙ ap (λ got. and_then (cells_of_tiles frame attrs places s.head (last_or before cells) others got) (λ rest. Ok (cells ++ rest))) (drop_at here more (length tile.spans) (ranges_many look tile.spans))
      ∙ ap (λ r. and_then r (λ rest. Ok (cells ++ rest))) (walk places tiles (suc i) (last_or before cells) are.1 behind)

  rows_long : All (λ (c : StoredCell). length c.row ≡ length attrs) s.cells
  rows_long = in_turn_all (FitsCell frame attrs s.head) (λ (c : StoredCell). length c.row ≡ length attrs) (λ front c f. EachFits-length FitsValue attrs c.row f.row) [] s.cells (fits.plain).cells

  coords_long : All (λ (c : StoredCell). length c.coords ≡ length frame.domain) s.cells
  coords_long = All-weaker (FitsTypes frame.domain) (λ (c : StoredCell). length c.coords ≡ length frame.domain) (λ c f. EachFits-length _ frame.domain c.coords f) s.cells fits.typed

  -- ---- what is wanted of the cells

  module _ (want : Want) where
    taken-append : (xs ys : List Version) → taken want (xs ++ ys) ≡ taken want xs ++ taken want ys
    taken-append xs ys = ap (map (cut want)) (filter-append (is_wanted want) xs ys) ∙ map-append (cut want) (filter (is_wanted want) xs) (filter (is_wanted want) ys)

    versions_at : (tiles : List (List StoredCell)) (i : ℕ) → get_or (map (map (version_in s.head)) tiles) i [] ≡ map (version_in s.head) (get_or tiles i [])
    versions_at [] zero = refl
    versions_at [] (suc i) = refl
    versions_at (t ∷ tiles) zero = refl
    versions_at (t ∷ tiles) (suc i) = versions_at tiles i

    taken_tiles : (tiles : List ℕ) → taken want (map (version_in s.head) (flat_map (λ i. map (blanked attrs want.attrs) (cells_there frame s i)) tiles))
        ≡ taken_at want (map (map (version_in s.head)) (tiles_of frame.capacity s.cells)) tiles
    taken_tiles [] = refl
    taken_tiles (i ∷ tiles) =
        let cells = cells_there frame s i in
        let blank = map (blanked attrs want.attrs) cells in
        let others = flat_map (λ i. map (blanked attrs want.attrs) (cells_there frame s i)) tiles in
        let parts = map (map (version_in s.head)) (tiles_of frame.capacity s.cells) in
        let long = all_in_tile (λ (c : StoredCell). length c.row ≡ length attrs) (tiles_of frame.capacity s.cells) i (subst (All (λ (c : StoredCell). length c.row ≡ length attrs)) (sym (all_tiles frame.capacity s.cells)) rows_long) in
        ap (taken want) (map-append (version_in s.head) blank others) ∙ taken-append (map (version_in s.head) blank) (map (version_in s.head) others)
        ∙ ap (λ vs. vs ++ taken want (map (version_in s.head) others)) (blanked_taken attrs want s.head cells long ∙ ap (taken want) (sym (versions_at (tiles_of frame.capacity s.cells) i)))
        ∙ ap (λ vs. taken want (get_or parts i []) ++ vs) (taken_tiles tiles)

    -- ---- a box that is none in the array

    between_box : (ls hs xs : List ℤ) → is_between ls hs xs ≡ true → (length ls ≡ length xs) × (are_bounds ls hs ≡ true)
    between_box [] [] [] e = (refl, refl)
    between_box [] [] (x ∷ xs) e = absurd (cc)
    between_box [] (h ∷ hs) xs e = absurd (cc)
    between_box (l ∷ ls) [] xs e = absurd (cc)
    between_box (l ∷ ls) (h ∷ hs) [] e = absurd (cc)
    between_box (l ∷ ls) (h ∷ hs) (x ∷ xs) e =
        let parts = and_parts (int_le l x && int_le x h) (is_between ls hs xs) e in
        let both = and_parts (int_le l x) (int_le x h) parts.0 in
        let others = between_box ls hs xs parts.1 in
        (ap suc others.0, and_from (int_le l h) (are_bounds ls hs) (through l x h both.0 both.1) others.1)
      where
        through : (a b c : ℤ) → int_le a b ≡ true → int_le b c ≡ true → int_le a c ≡ true
        through a b c e f = grind (arith, ints)

    ints_all : (dims : List Dim) → All (λ (d : Dim). is_integer d.ty ≡ true) dims → list_all (λ d. is_integer d.ty) dims ≡ true
    ints_all [] all = refl
    ints_all (d ∷ dims) all =
        and_from (is_integer d.ty) (list_all (λ d. is_integer d.ty) dims) (All-head (λ (d : Dim). is_integer d.ty ≡ true) d dims all) (ints_all dims (All-tail (λ (d : Dim). is_integer d.ty ≡ true) d dims all))

    module _ (some_dim : 1 ≤ length frame.domain) where
      is_box : (coords : List ℤ) → length coords ≡ length frame.domain → is_in_box want.sub coords ≡ true → is_box_in frame.domain want.sub ≡ true
      is_box coords long e =
          let box = between_box want.sub.low want.sub.high coords e in
          and_from (are_readable frame.domain) (nat_eq (length want.sub.low) (length frame.domain) && are_bounds want.sub.low want.sub.high)
          (and_from (nat_le 1 (length frame.domain)) (list_all (λ d. is_integer d.ty) frame.domain) (le-leb 1 (length frame.domain) some_dim) (ints_all frame.domain fits.ints))
          (and_from (nat_eq (length want.sub.low) (length frame.domain)) (are_bounds want.sub.low want.sub.high) (eq-eqb (length want.sub.low) (length frame.domain) (box.0 ∙ long)) box.1)

      -- no cell lies in it
      none_wanted : (cells : List StoredCell) → is_box_in frame.domain want.sub ≡ false → All (λ (c : StoredCell). length c.coords ≡ length frame.domain) cells → taken want (map (version_in s.head) cells) ≡ []
      none_wanted [] none long = refl
      none_wanted (c ∷ cells) none long =
          by (is_wanted want (version_in s.head c)) refl (none_wanted cells none (All-tail (λ (c : StoredCell). length c.coords ≡ length frame.domain) c cells long))
        where
          others : List Version
          others = filter (is_wanted want) (map (version_in s.head) cells)

          by : (b : Bool) → is_wanted want (version_in s.head c) ≡ b → map (cut want) others ≡ [] → map (cut want) (cond b (version_in s.head c ∷ others) others) ≡ []
          by false e rest = rest
          by true e rest =
              let inside = and_parts (is_within want.a want.b (version_in s.head c).key) (is_in_box want.sub c.coords) e in
              absurd (true≢false (sym (is_box c.coords (All-head (λ (c : StoredCell). length c.coords ≡ length frame.domain) c cells long) inside.1) ∙ none))

      all_found : taken want (map (version_in s.head) (flat_map (λ i. map (blanked attrs want.attrs) (cells_there frame s i)) (places_for frame want.sub (footer_of frame attrs s)))) ≡ taken want (map (version_in s.head) s.cells)
      all_found = by (is_box_in frame.domain want.sub) refl
        where
          by : (b : Bool) → is_box_in frame.domain want.sub ≡ b
              → taken want (map (version_in s.head) (flat_map (λ i. map (blanked attrs want.attrs) (cells_there frame s i)) (if b then places_meeting want.sub (leaves_of frame.capacity s.cells) else [])))
              ≡ taken want (map (version_in s.head) s.cells)
          by true e = taken_tiles (places_meeting want.sub (leaves_of frame.capacity s.cells)) ∙ all_suffice frame attrs frag s want fits
          by false e = sym (none_wanted s.cells e coords_long)

      places_fit : ArePlaces (length (tiles_of frame.capacity s.cells)) 0 (places_for frame want.sub (footer_of frame attrs s))
      places_fit = by (is_box_in frame.domain want.sub)
        where
          by : (b : Bool) → ArePlaces (length (tiles_of frame.capacity s.cells)) 0 (if b then places_meeting want.sub (leaves_of frame.capacity s.cells) else [])
          by true =
              let long : length (leaves_of frame.capacity s.cells) ≡ length (tiles_of frame.capacity s.cells) = length-map (tiles_of frame.capacity s.cells) leaf_of in
              places_are want.sub (length (tiles_of frame.capacity s.cells)) 0 (leaves_of frame.capacity s.cells) (omega (arith, long))
          by false = tt

      -- ---- the verdict

      -- over the parts of the piece the judge finds what is wanted of it
      pub judge_finds : sparse_judge (opened_for frame attrs want (footer_of frame attrs s) (used_in frame attrs (footer_of frame attrs s) want.attrs))
          (ranges_of look (calls_for (used_in frame attrs (footer_of frame attrs s) want.attrs) (tiles_at frame (footer_of frame attrs s) (used_in frame attrs (footer_of frame attrs s) want.attrs) (places_for frame want.sub (footer_of frame attrs s)))))
          ≡ Whole (taken want (map (version_in s.head) s.cells))
      unfolding sparse_judge
      judge_finds =
          let footer = footer_of frame attrs s in
          let used = used_in frame attrs footer want.attrs in
          let places = places_for frame want.sub footer in
          let tiles = tiles_at frame footer used places in
          let opened = opened_for frame attrs want footer used in
          let start : IsOpen 0 None = λ j above within. past_tiles frame s.head None (tiles_of frame.capacity s.cells) j tiles_rise within in
          ap (λ got. verdict_on opened (cells_of_tiles frame attrs want.attrs s.head None tiles got)) (sizes_none look used (flat_map tile_calls tiles))
          ∙ ap (verdict_on opened) (walk want.attrs places 0 None places_fit start)
          ∙ ap Whole all_found
