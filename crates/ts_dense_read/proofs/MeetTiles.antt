-- The space tiles that meet a box, found by their numbers.
use Rattle.std.proofs.Common.{◌≡◌, ℕ, ◌+◌, ◌-◌, ◌^◌, ◌<◌, ◌≤◌, min, true, false, ℤ, List, [], ◌++◌, ◌∷◌, length, map, get_or, take, Some, sym, ap, subst, ◌∙◌, arith}
use Rattle.std.specs.Prelude.{if◌then◌else◌, IsTrue, slice_get, Result, Ok, Err, IfOk}
use Rattle.std.specs.List.{All, sum}
use Rattle.std.proofs.lemmas.List.{length-map, get_or-map, map-append, take_all}
use Rattle.std.proofs.lemmas.Option.{get_or_from_slice_get, slice_get_within}
use Rattle.ts_domain.specs.declared.boxes.SubBox.{SubBox}
use Rattle.ts_domain.specs.Boxes.{IsBox, is_in_box, cells_of, do_boxes_meet}
use Rattle.ts_domain.specs.Dims.{IsSoundDim}
use Rattle.ts_domain.specs.Domains.{LiesInDomain}
use Rattle.ts_domain.specs.Rects.{places_meeting}
use Rattle.ts_domain.proofs.Between.{length-are_bounds, length-is_between, is_between-low, is_between-high}
use Rattle.ts_order.specs.Orders.{turned, coords_in_order}
use Rattle.ts_order.specs.Tiles.{cut_box, tile_box}
use Rattle.ts_order.proofs.OrderLemmas.{length-is_in_domain, length-tile_numbers}
use Rattle.ts_order.proofs.OrderedCoords.{place_of-only}
use Rattle.ts_order.proofs.TileSteps.{take_more_get}
use Rattle.ts_order.proofs.TileLaws.{is_between-cut}
use Rattle.ts_order.proofs.TilesLemmas.{IsBox-cut_box}
use Rattle.ts_order.proofs.TurnedLemmas.{are_bounds-turned, cells_between-turned, is_between-turned}
use Rattle.ts_schema.specs.declared.frames.Frame.{Frame}
use Rattle.ts_dense.specs.Slots.{tiles_over}
use Rattle.ts_sparse_read.specs.declared.opened.Span.{Span}
use Rattle.ts_sparse_read.specs.declared.opened.UsedColumn.{UsedColumn}
use Rattle.ts_sparse_read.specs.declared.opened.WantedTile.{WantedTile}
use Rattle.ts_sparse_read.specs.Opens.{no_box, is_box_in}
use Rattle.ts_sparse_read.proofs.TileLaws.{box_dims, box_valid}
use Rattle.ts_dense_read.specs.SpaceTakes.{span_behind, tile_behind, tile_among, tiles_met}
use Rattle.ts_dense_read.specs.TileRanges.{range_of, cells_before, tile_of}
use Rattle.ts_dense_read.proofs.BeforeLaws.{part_fits}
use Rattle.ts_dense_read.proofs.TurnedTiles.{before_is, range_made, apart_none}

-- ---- which are read

pub tiles_none : (frame : Frame) (hull : SubBox) (used : List UsedColumn) (sub : SubBox) → is_box_in frame.domain sub ≡ false → tiles_met frame hull used sub ≡ []
tiles_none frame hull used sub is = ap (λ b. map (tile_among (tiles_over frame hull) used) (if b then places_meeting sub (tiles_over frame hull) else [])) is

tiles_all : (frame : Frame) (hull : SubBox) (used : List UsedColumn) (sub : SubBox) → is_box_in frame.domain sub ≡ true → tiles_met frame hull used sub ≡ map (tile_among (tiles_over frame hull) used) (places_meeting sub (tiles_over frame hull))
tiles_all frame hull used sub is = ap (λ b. map (tile_among (tiles_over frame hull) used) (if b then places_meeting sub (tiles_over frame hull) else [])) is

-- a tile of so many cells
abbrev record_of : ℕ → SubBox → List Span → WantedTile
record_of cells leaf spans = record { cells = cells; leaf = leaf; spans = spans }

-- ---- one after another

-- one tile more
pub laying_more : {X W : Type 0} (made : X → W) (all : List X) (tiles more : List W) (k : ℕ) (n : X) (tile : W) → tiles ≡ map made (take k all) → slice_get all k ≡ Some n → tile ≡ made n → more ≡ tiles ++ tile ∷ [] → more ≡ map made (take (k + 1) all)
laying_more made all tiles more k n tile so at is push =
    push ∙ (λ i. so i ++ is i ∷ []) ∙ sym (map-append made (take k all) (n ∷ [])) ∙ ap (map made) (sym (take_more_get all k n at))

-- behind the last place there are all tiles
pub laying_all : {X W : Type 0} (made : X → W) (all : List X) (tiles : List W) (k : ℕ) → tiles ≡ map made (take k all) → length all ≤ k → tiles ≡ map made all
laying_all made all tiles k so over = so ∙ ap (map made) (take_all k all over)

module _ (frame : Frame) (hull : SubBox) (sound : All IsSoundDim frame.domain) (box : IsBox hull) (inside : LiesInDomain frame.domain hull) where
  lows : length hull.low ≡ length frame.domain
  lows = length-is_in_domain frame.domain hull.low inside.0

  highs : length hull.high ≡ length frame.domain
  highs = length-is_in_domain frame.domain hull.high inside.1

  -- where the box does not meet the hull no tile is read
  pub tiles_apart : (used : List UsedColumn) (sub : SubBox) → is_box_in frame.domain sub ≡ true → do_boxes_meet hull sub ≡ false → tiles_met frame hull used sub ≡ []
  tiles_apart used sub is apart =
      let sub_lows = box_dims frame.domain sub is in
      let sub_highs = length-are_bounds sub.low sub.high (box_valid frame.domain sub is) ∙ sub_lows in
      tiles_all frame hull used sub is ∙ ap (map (tile_among (tiles_over frame hull) used)) (apart_none frame.domain frame.tile hull sub sound box inside sub_lows sub_highs apart)

  -- a box of the array has as many dimensions as the hull
  pub as_many : (sub : SubBox) → is_box_in frame.domain sub ≡ true → length sub.low ≡ length hull.low
  as_many sub is = box_dims frame.domain sub is ∙ sym lows

  -- ---- one tile

  module _ (n : List ℤ) (reached : IsTrue (is_in_box (tile_box frame.domain hull) n)) where
    -- its part of the hull
    abbrev leaf : SubBox
    leaf = cut_box frame.domain hull n

    pub leaf_valid : IsBox leaf
    leaf_valid = IsBox-cut_box frame.domain frame.tile hull sound box inside n reached

    long : length n ≡ length frame.domain
    long = sym (length-is_between (tile_box frame.domain hull).low (tile_box frame.domain hull).high n reached).0 ∙ length-tile_numbers frame.domain hull.low lows

    pub leaf_low : IsTrue (is_in_box hull leaf.low)
    leaf_low = (is_between-cut frame.domain n hull.low hull.high leaf.low sound inside.0 highs long (is_between-low leaf.low leaf.high leaf_valid)).0

    pub leaf_high : IsTrue (is_in_box hull leaf.high)
    leaf_high = (is_between-cut frame.domain n hull.low hull.high leaf.high sound inside.0 highs long (is_between-high leaf.low leaf.high leaf_valid)).0

    -- it and the cells before it are no more than the hull has
    pub leaf_fits : cells_before (turned frame.tile hull.low) (turned frame.tile hull.high) (turned frame.tile leaf.low) (turned frame.tile leaf.high) + cells_of leaf ≤ cells_of hull
    leaf_fits =
        let fits = part_fits (turned frame.tile hull.low) (turned frame.tile hull.high) (turned frame.tile leaf.low) (turned frame.tile leaf.high)
        (is_between-turned frame.tile hull.low hull.high leaf.low leaf_low) (is_between-turned frame.tile hull.low hull.high leaf.high leaf_high) (are_bounds-turned frame.tile leaf.low leaf.high leaf_valid) in
        let all = cells_between-turned frame.tile hull.low hull.high (length-are_bounds hull.low hull.high box) in
        let part = cells_between-turned frame.tile leaf.low leaf.high (length-are_bounds leaf.low leaf.high leaf_valid) in
        omega (arith, fits, all, part)

    -- so are they as the code counts them
    pub tile_room : (leaf : SubBox) (cells before : ℕ) → leaf ≡ cut_box frame.domain hull n → cells ≡ min (cells_of leaf) (2 ^ 64 - 1) → before ≡ cells_before (turned frame.tile hull.low) (turned frame.tile hull.high) (turned frame.tile leaf.low) (turned frame.tile leaf.high)
        → before + cells ≤ cells_of hull
    tile_room part cells before is capped count =
        let fits = subst (λ (b : SubBox). cells_before (turned frame.tile hull.low) (turned frame.tile hull.high) (turned frame.tile b.low) (turned frame.tile b.high) + cells_of b ≤ cells_of hull) (sym is) leaf_fits in
        omega (arith, fits, capped, count)

    -- the tile that the code makes
    pub tile_made : (used : List UsedColumn) (numbers leaf : SubBox) (cells before place : ℕ) (spans : List Span) → cells_of hull < 2 ^ 64 - 1 → numbers ≡ tile_box frame.domain hull → leaf ≡ cut_box frame.domain hull n → cells ≡ min (cells_of leaf) (2 ^ 64 - 1)
        → before ≡ cells_before (turned frame.tile hull.low) (turned frame.tile hull.high) (turned frame.tile leaf.low) (turned frame.tile leaf.high) → slice_get (coords_in_order frame.tile numbers) place ≡ Some n
        → spans ≡ map (span_behind before cells place) used → record_of cells leaf spans ≡ tile_of frame hull used n
    tile_made used numbers part cells before place spans few known is capped count at laid =
        let fits = subst (λ (b : SubBox). cells_before (turned frame.tile hull.low) (turned frame.tile hull.high) (turned frame.tile b.low) (turned frame.tile b.high) + cells_of b ≤ cells_of hull) (sym is) leaf_fits in
        let exact : cells ≡ cells_of part = omega (arith, fits, capped, few) in
        let sized = exact ∙ ap cells_of is in
        let counted = count ∙ ap (λ (b : SubBox). cells_before (turned frame.tile hull.low) (turned frame.tile hull.high) (turned frame.tile b.low) (turned frame.tile b.high)) is in
        let there = subst (λ (b : SubBox). slice_get (coords_in_order frame.tile b) place ≡ Some n) known at in
        let placed = place_of-only frame.tile (tile_box frame.domain hull) n reached place there in
        let first : record_of cells part spans ≡ record_of cells part (map (span_behind before cells place) used) = ap (record_of cells part) laid in
        first ∙ (λ j. tile_behind (counted j) (sized j) (placed j) (is j) used)

    -- the tile at a place with these numbers is the one that they count
    tile_there : (used : List UsedColumn) (i : ℕ) → slice_get (coords_in_order frame.tile (tile_box frame.domain hull)) i ≡ Some n → tile_of frame hull used n ≡ tile_among (tiles_over frame hull) used i
    tile_there used i at =
        let numbers = coords_in_order frame.tile (tile_box frame.domain hull) in
        let cut = cut_box frame.domain hull in
        let boxes = tiles_over frame hull in
        let within : i < length numbers = slice_get_within numbers i n at in
        let below : i < length (map cut numbers) = omega (arith, within, length-map numbers cut) in
        let place = place_of-only frame.tile (tile_box frame.domain hull) n reached i at in
        let box_there : get_or boxes i no_box ≡ cut n = get_or-map cut numbers i [] no_box within ∙ ap cut (get_or_from_slice_get numbers i n [] at) in
        let count_there : get_or (map cells_of boxes) i 0 ≡ cells_of (cut n) = get_or-map cells_of boxes i no_box 0 below ∙ ap cells_of box_there in
        let before_there : sum (take i (map cells_of boxes)) ≡ cells_before (turned frame.tile hull.low) (turned frame.tile hull.high) (turned frame.tile (cut n).low) (turned frame.tile (cut n).high) =
        ap (λ k. sum (take k (map cells_of boxes))) place ∙ before_is frame.domain frame.tile hull sound box inside n reached in
        sym (λ j. tile_behind (before_there j) (count_there j) (place j) (box_there j) used)

  -- ---- all tiles

  -- the tiles from the first to the last along each dimension are those that meet the box
  pub tiles_laid : (used : List UsedColumn) (sub : SubBox) (tiles : List WantedTile) → is_box_in frame.domain sub ≡ true → do_boxes_meet hull sub ≡ true → tiles ≡ map (tile_of frame hull used) (coords_in_order frame.tile (range_of frame.domain hull sub))
      → tiles ≡ tiles_met frame hull used sub
  tiles_laid used sub tiles is meet laid =
      laid ∙ range_made frame.domain hull sub sound box inside (box_valid frame.domain sub is) (as_many sub is) meet frame.tile (tile_of frame hull used) (tile_among (tiles_over frame hull) used) (λ i n at reached. tile_there n reached used i at)
      ∙ sym (tiles_all frame hull used sub is)

  -- so of the answer
  pub tiles_answer : {E : Type 0} (used : List UsedColumn) (sub : SubBox) (r : Result (List WantedTile) E) → is_box_in frame.domain sub ≡ true → do_boxes_meet hull sub ≡ true → IfOk r (λ tiles. tiles ≡ map (tile_of frame hull used) (coords_in_order frame.tile (range_of frame.domain hull sub)))
      → IfOk r (λ tiles. tiles ≡ tiles_met frame hull used sub)
  tiles_answer used sub (Ok tiles) is meet laid = tiles_laid used sub tiles is meet laid
  tiles_answer used sub (Err e) is meet laid = tt

pub ruleset meeting_steps = (tiles_none, tiles_apart, as_many)
