-- The cells of a box, space tile by space tile: they ascend in global order, and are all cells of the box.
use Rattle.std.proofs.Common.{◌≡◌, ℕ, List, map, length, Some, refl, sym, ap, ◌∙◌, arith, ℤ}
use Rattle.std.specs.Prelude.{IsTrue, slice_get}
use Rattle.std.specs.List.{flat_map, sum, All, AllByRecursion}
use Rattle.std.specs.Ordering.{ordering_then}
use Rattle.std.specs.declared.cmp.Ordering.TheVariants.{Less, Equal}
use Rattle.ts_domain.specs.declared.orders.Order.{Order}
use Rattle.ts_domain.specs.declared.orders.Order.TheVariants.{Row}
use Rattle.ts_domain.specs.declared.boxes.SubBox.{SubBox}
use Rattle.ts_domain.specs.declared.dims.Dim.{Dim}
use Rattle.ts_domain.specs.Boxes.{IsBox, is_in_box, cells_of}
use Rattle.ts_domain.specs.Dims.{IsSoundDim}
use Rattle.ts_domain.specs.Domains.{LiesInDomain}
use Rattle.ts_order.specs.Orders.{turned, order_cmp, tile_numbers, global_cmp, coords_in_order, Ascends}
use Rattle.ts_order.specs.Places.{place_of}
use Rattle.ts_order.specs.Tiles.{tiles_in, AreTiles}
use Rattle.ts_order.proofs.OrderLemmas.{order_cmp-same, global_cmp-same}
use Rattle.ts_order.proofs.OrderedCoords.{length-coords_in_order, is_in_box-slice_get, Ascends-coords_in_order, slice_get-place_of}
use Rattle.ts_order.proofs.TilesLemmas.{AreTiles-tiles_in}
use Rattle.ts_order.proofs.InOrder.{InOrder, IsAmong, NoneTwice, all_from_places, all_weaker, among_at, no_more, in_order, ascends, none_twice, all_flat, among_flat, length_flat, IsPart, in_order_flat}

-- the cells of a box, space tile by space tile, those of each tile in cell order
abbrev pub cells_by_tiles : List Dim → Order → Order → SubBox → List (List ℤ)
cells_by_tiles dims tile cell sub = flat_map (coords_in_order cell) (tiles_in dims tile sub)

-- nothing comes before itself
pub order_strict : (order : Order) (x : List ℤ) → order_cmp order x x ≡ Less → ⊥
order_strict order x less = let same = order_cmp-same order x x refl in cc

pub global_strict : (dims : List Dim) (tile cell : Order) (x : List ℤ) → global_cmp dims tile cell x x ≡ Less → ⊥
global_strict dims tile cell x less = let same = global_cmp-same dims tile cell x x refl in cc

-- ---- one box

-- what lies in a box is among its coordinates, and nothing else is
pub among_coords : (order : Order) (sub : SubBox) (x : List ℤ) → IsTrue (is_in_box sub x) → IsAmong (coords_in_order order sub) x
among_coords order sub x inside =
    among_at (coords_in_order order sub) (place_of (turned order sub.low) (turned order sub.high) (turned order x)) x (slice_get-place_of order sub x inside)

pub coords_inside : (order : Order) (sub : SubBox) → IsBox sub → AllByRecursion (λ x. IsTrue (is_in_box sub x)) (coords_in_order order sub)
coords_inside order sub box = all_from_places (λ x. IsTrue (is_in_box sub x)) (coords_in_order order sub) (is_in_box-slice_get order sub box)

-- ---- the box in tiles

module _ (dims : List Dim) (tile cell : Order) (sub : SubBox) (sound : All IsSoundDim dims) (box : IsBox sub) (inside : LiesInDomain dims sub) where
  are : AreTiles dims tile sub (tiles_in dims tile sub)
  are = AreTiles-tiles_in dims tile sub sound box inside

  pub tiles_valid : AllByRecursion IsBox (tiles_in dims tile sub)
  tiles_valid = all_from_places IsBox (tiles_in dims tile sub) are.valid

  -- each tile has as many coordinates as cells
  pub tiles_counted : AllByRecursion (λ t. length (coords_in_order cell t) ≡ cells_of t) (tiles_in dims tile sub)
  tiles_counted = all_weaker IsBox (λ t. length (coords_in_order cell t) ≡ cells_of t) (tiles_in dims tile sub) (λ t valid. length-coords_in_order cell t valid) tiles_valid

  -- coordinates of the space tile of a box
  abbrev Has : SubBox → List ℤ → Type 0
  Has t x = tile_numbers dims x ≡ tile_numbers dims t.low

  apart : (t u : SubBox) (x y : List ℤ) → order_cmp tile (tile_numbers dims t.low) (tile_numbers dims u.low) ≡ Less → Has t x → Has u y → global_cmp dims tile cell x y ≡ Less
  apart t u x y less in_t in_u =
      let numbers : order_cmp tile (tile_numbers dims x) (tile_numbers dims y) ≡ Less = rw (in_t, in_u) less in
      ap (λ o. ordering_then o (order_cmp cell x y)) numbers

  part : (i : ℕ) (t : SubBox) → slice_get (tiles_in dims tile sub) i ≡ Some t → IsPart (coords_in_order cell) (global_cmp dims tile cell) Has t
  part i t at =
      let valid = are.valid i t at in
      let number = λ (k : ℕ) (x : List ℤ) (at_k : slice_get (coords_in_order cell t) k ≡ Some x). are.single x i t at (is_in_box-slice_get cell t valid k x at_k) in
      record {
        up = in_order (global_cmp dims tile cell) (coords_in_order cell t) (λ j k x y later at_j at_k.
            let tie : order_cmp tile (tile_numbers dims x) (tile_numbers dims y) ≡ Equal = order_cmp-same tile (tile_numbers dims x) (tile_numbers dims y) (number j x at_j ∙ sym (number k y at_k)) in
            ap (λ o. ordering_then o (order_cmp cell x y)) tie ∙ Ascends-coords_in_order cell t valid j k x y later at_j at_k);
        has = all_from_places (Has t) (coords_in_order cell t) number;
      }

  -- the cells ascend in global order
  pub cells_in_order : InOrder (global_cmp dims tile cell) (cells_by_tiles dims tile cell sub)
  cells_in_order =
      let ahead = λ (t u : SubBox). order_cmp tile (tile_numbers dims t.low) (tile_numbers dims u.low) in
      in_order_flat (coords_in_order cell) (global_cmp dims tile cell) ahead Has apart (tiles_in dims tile sub) (in_order ahead (tiles_in dims tile sub) are.ascending)
      (all_from_places (IsPart (coords_in_order cell) (global_cmp dims tile cell) Has) (tiles_in dims tile sub) part)

  pub cells_ascend : Ascends (global_cmp dims tile cell) (cells_by_tiles dims tile cell sub)
  cells_ascend = ascends (global_cmp dims tile cell) (cells_by_tiles dims tile cell sub) cells_in_order

  pub cells_once : NoneTwice (cells_by_tiles dims tile cell sub)
  cells_once = none_twice (global_cmp dims tile cell) (global_strict dims tile cell) (cells_by_tiles dims tile cell sub) cells_in_order

  -- each cell of the box is among them
  pub cells_covered : (x : List ℤ) → IsTrue (is_in_box sub x) → IsAmong (cells_by_tiles dims tile cell sub) x
  cells_covered x in_box =
      let covered = are.covered x in_box in
      among_flat (coords_in_order cell) (tiles_in dims tile sub) covered.1 x (among_at (tiles_in dims tile sub) covered.0 covered.1 covered.2) (among_coords cell covered.1 x covered.3)

  -- and each of them is a cell of the box
  pub cells_inside : AllByRecursion (λ x. IsTrue (is_in_box sub x)) (cells_by_tiles dims tile cell sub)
  cells_inside =
      all_flat (coords_in_order cell) (λ x. IsTrue (is_in_box sub x)) (tiles_in dims tile sub)
      (all_from_places (λ t. AllByRecursion (λ x. IsTrue (is_in_box sub x)) (coords_in_order cell t)) (tiles_in dims tile sub)
      (λ i t at. all_weaker (λ x. IsTrue (is_in_box t x)) (λ x. IsTrue (is_in_box sub x)) (coords_in_order cell t) (λ x in_t. are.within x i t at in_t) (coords_inside cell t (are.valid i t at))))

  -- there are as many as the box has cells
  pub cells_many : length (cells_by_tiles dims tile cell sub) ≡ cells_of sub
  cells_many =
      let by_tiles = cells_by_tiles dims tile cell sub in
      let by_rows = coords_in_order Row sub in
      let rows_once = none_twice (order_cmp Row) (order_strict Row) by_rows (in_order (order_cmp Row) by_rows (Ascends-coords_in_order Row sub box)) in
      let all_rows = all_weaker (λ x. IsTrue (is_in_box sub x)) (IsAmong by_rows) by_tiles (among_coords Row sub) cells_inside in
      let all_tiles = all_weaker (λ x. IsTrue (is_in_box sub x)) (IsAmong by_tiles) by_rows cells_covered (coords_inside Row sub box) in
      let above = no_more by_tiles by_rows cells_once all_rows in
      let below = no_more by_rows by_tiles rows_once all_tiles in
      omega (arith, above, below, length-coords_in_order Row sub box)

  -- and the tiles have as many together
  pub counts_many : sum (map cells_of (tiles_in dims tile sub)) ≡ cells_of sub
  counts_many = sym (length_flat (coords_in_order cell) cells_of (tiles_in dims tile sub) tiles_counted) ∙ cells_many
