-- The space tiles that meet a box divide it.
use Rattle.std.proofs.Common.{◌≡◌, ℕ, ◌+◌, ◌≤◌, List, [], ◌∷◌, ◌++◌, map, length, take, Option, Some, None, refl, sym, ap, subst, ◌∙◌, ℤ}
use Rattle.std.specs.Prelude.{IsTrue, slice_get}
use Rattle.std.specs.List.{All}
use Rattle.std.specs.Option.{option_map}
use Rattle.std.proofs.lemmas.List.{length-map, take_all}
use Rattle.std.proofs.lemmas.Option.{slice_get-map}
use Rattle.ts_domain.specs.declared.orders.Order.{Order}
use Rattle.ts_domain.specs.declared.boxes.SubBox.{SubBox}
use Rattle.ts_domain.specs.declared.dims.Dim.{Dim}
use Rattle.ts_domain.specs.Boxes.{IsBox, is_in_box, cells_of}
use Rattle.ts_domain.specs.Dims.{IsSoundDim}
use Rattle.ts_domain.specs.Domains.{LiesInDomain}
use Rattle.ts_domain.proofs.Between.{is_between-low, are_bounds-is_between, length-is_between}
use Rattle.ts_order.specs.Orders.{turned, tile_numbers, coords_in_order}
use Rattle.ts_order.specs.Places.{place_of}
use Rattle.ts_order.specs.Tiles.{cut_box, tile_box, tiles_in, AreTiles}
use Rattle.ts_order.proofs.OrderLemmas.{length-is_in_domain, length-tile_numbers}
use Rattle.ts_order.proofs.OrderedCoords.{length-coords_in_order, is_in_box-slice_get, Ascends-coords_in_order, slice_get-place_of, place_of-only}
use Rattle.ts_order.proofs.TileSteps.{take_more_get}
use Rattle.ts_order.proofs.TileLaws.{is_between-cut, cut-is_between, are_bounds-cut, is_between-tile_numbers, cells_between-tile_numbers}

-- what stands in a mapped list is the image of what stands there
mapped_at : {A B : Type 0} (f : A → B) → (xs : List A) (i : ℕ) (y : B) → slice_get (map f xs) i ≡ Some y → (x : A) × (slice_get xs i ≡ Some x) × (f x ≡ y)
mapped_at {A = A} {B = B} f xs i y e = by (slice_get xs i) refl (sym (slice_get-map f xs i) ∙ e)
  where
    by : (o : Option A) → slice_get xs i ≡ o → option_map f o ≡ Some y → (x : A) × (slice_get xs i ≡ Some x) × (f x ≡ y)
    by None at e = cc
    by (Some x) at e = (x, at, cc)

module _ (dims : List Dim) (tile : Order) (sub : SubBox) (sound : All IsSoundDim dims) (box : IsBox sub) (inside : LiesInDomain dims sub) where
  pub IsBox-tile_box : IsBox (tile_box dims sub)
  IsBox-tile_box =
      are_bounds-is_between (tile_numbers dims sub.low) (tile_numbers dims sub.high) (tile_numbers dims sub.low) (is_between-tile_numbers dims sub.low sub.high sub.low sound inside.0 (is_between-low sub.low sub.high box))

  pub cells_of-tile_box : cells_of (tile_box dims sub) ≤ cells_of sub
  cells_of-tile_box = cells_between-tile_numbers dims sub.low sub.high sound inside.0 box

  -- a cut box, with the numbers of its tile
  at_place : (i : ℕ) (t : SubBox) → slice_get (tiles_in dims tile sub) i ≡ Some t
      → (n : List ℤ) × (slice_get (coords_in_order tile (tile_box dims sub)) i ≡ Some n) × (cut_box dims sub n ≡ t)
  at_place i t e = mapped_at (cut_box dims sub) (coords_in_order tile (tile_box dims sub)) i t e

  numbers_inside : (i : ℕ) (n : List ℤ) → slice_get (coords_in_order tile (tile_box dims sub)) i ≡ Some n → IsTrue (is_in_box (tile_box dims sub) n)
  numbers_inside i n e = is_in_box-slice_get tile (tile_box dims sub) IsBox-tile_box i n e

  pub IsBox-cut_box : (n : List ℤ) → IsTrue (is_in_box (tile_box dims sub) n) → IsBox (cut_box dims sub n)
  IsBox-cut_box n within = are_bounds-cut dims n sub.low sub.high sound inside.0 box within

  in_tile : (n coords : List ℤ) → IsTrue (is_in_box (tile_box dims sub) n) → IsTrue (is_in_box (cut_box dims sub n) coords) → IsTrue (is_in_box sub coords) × (tile_numbers dims coords ≡ n)
  in_tile n coords within t =
      let long : length n ≡ length dims = sym (length-is_between (tile_numbers dims sub.low) (tile_numbers dims sub.high) n within).0 ∙ length-tile_numbers dims sub.low (length-is_in_domain dims sub.low inside.0) in
      is_between-cut dims n sub.low sub.high coords sound inside.0 (length-is_in_domain dims sub.high inside.1) long t

  low_number : (n : List ℤ) → IsTrue (is_in_box (tile_box dims sub) n) → tile_numbers dims (cut_box dims sub n).low ≡ n
  low_number n within = (in_tile n (cut_box dims sub n).low within (is_between-low (cut_box dims sub n).low (cut_box dims sub n).high (IsBox-cut_box n within))).1

  pub AreTiles-tiles_in : AreTiles dims tile sub (tiles_in dims tile sub)
  AreTiles-tiles_in = record {
    covered = λ coords t.
        let within = is_between-tile_numbers dims sub.low sub.high coords sound inside.0 t in
        let n = tile_numbers dims coords in
        let at = slice_get-place_of tile (tile_box dims sub) n within in
        let i = place_of (turned tile (tile_box dims sub).low) (turned tile (tile_box dims sub).high) (turned tile n) in (
          i,
          cut_box dims sub n,
          slice_get-map (cut_box dims sub) (coords_in_order tile (tile_box dims sub)) i ∙ ap (option_map (cut_box dims sub)) at,
          cut-is_between dims sub.low sub.high coords sound inside.0 t,
        );
    once = λ coords i j t u at_i at_j in_t in_u.
        let first = at_place i t at_i in
        let second = at_place j u at_j in
        let n = first.0 in
        let m = second.0 in
        let within = numbers_inside i n first.1 in
        let of_first = (in_tile n coords within (subst (λ (b : SubBox). IsTrue (is_in_box b coords)) (sym first.2) in_t)).1 in
        let of_second = (in_tile m coords (numbers_inside j m second.1) (subst (λ (b : SubBox). IsTrue (is_in_box b coords)) (sym second.2) in_u)).1 in
        let same : m ≡ n = sym of_second ∙ of_first in
        place_of-only tile (tile_box dims sub) n within i first.1 ∙ sym (place_of-only tile (tile_box dims sub) n within j (second.1 ∙ ap Some same));
    valid = λ i t at_i.
        let first = at_place i t at_i in
        subst IsBox first.2 (IsBox-cut_box first.0 (numbers_inside i first.0 first.1));
    within = λ coords i t at_i in_t.
        let first = at_place i t at_i in
        (in_tile first.0 coords (numbers_inside i first.0 first.1) (subst (λ (b : SubBox). IsTrue (is_in_box b coords)) (sym first.2) in_t)).0;
    single = λ coords i t at_i in_t.
        let first = at_place i t at_i in
        let within = numbers_inside i first.0 first.1 in
        (in_tile first.0 coords within (subst (λ (b : SubBox). IsTrue (is_in_box b coords)) (sym first.2) in_t)).1 ∙ sym (low_number first.0 within) ∙ ap (λ b. tile_numbers dims b.low) first.2;
    ascending = λ i j t u later at_i at_j.
        let first = at_place i t at_i in
        let second = at_place j u at_j in
        let low_i = sym (ap (λ b. tile_numbers dims b.low) first.2) ∙ low_number first.0 (numbers_inside i first.0 first.1) in
        let low_j = sym (ap (λ b. tile_numbers dims b.low) second.2) ∙ low_number second.0 (numbers_inside j second.0 second.1) in
        rw (low_i, low_j) (Ascends-coords_in_order tile (tile_box dims sub) IsBox-tile_box i j first.0 second.0 later first.1 second.1);
  }

-- ---- the list of the tiles

module _ (dims : List Dim) (tile : Order) (sub : SubBox) (sound : All IsSoundDim dims) (box : IsBox sub) (inside : LiesInDomain dims sub) where
  pub length-tiles_in : length (tiles_in dims tile sub) ≡ cells_of (tile_box dims sub)
  length-tiles_in =
      length-map (coords_in_order tile (tile_box dims sub)) (cut_box dims sub) ∙ length-coords_in_order tile (tile_box dims sub) (IsBox-tile_box dims tile sub sound box inside)

  -- the tiles up to a place, and one more
  pub tiles_more : (place : ℕ) (n : List ℤ) (tiles : List SubBox) → slice_get (coords_in_order tile (tile_box dims sub)) place ≡ Some n → tiles ≡ take place (tiles_in dims tile sub)
      → tiles ++ cut_box dims sub n ∷ [] ≡ take (place + 1) (tiles_in dims tile sub)
  tiles_more place n tiles at before =
      let here = slice_get-map (cut_box dims sub) (coords_in_order tile (tile_box dims sub)) place ∙ ap (option_map (cut_box dims sub)) at in
      ap (λ xs. xs ++ cut_box dims sub n ∷ []) before ∙ sym (take_more_get (tiles_in dims tile sub) place (cut_box dims sub n) here)

  pub tiles_all : (place : ℕ) (tiles : List SubBox) → cells_of (tile_box dims sub) ≤ place → tiles ≡ take place (tiles_in dims tile sub) → tiles ≡ tiles_in dims tile sub
  tiles_all place tiles done before = before ∙ take_all place (tiles_in dims tile sub) (rw length-tiles_in done)
