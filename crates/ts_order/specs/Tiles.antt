-- The space tiles that meet a box, each cut to the box.
use Rattle.std.specs.Prelude.{◌≡◌, ℕ, List, [], ◌∷◌, map, ℤ, Some, IsTrue, slice_get}
use Rattle.std.specs.List.{All}
use Rattle.std.specs.Int.{int_min, int_max}
use Rattle.ts_domain.specs.declared.orders.Order.{Order}
use Rattle.ts_domain.specs.declared.boxes.SubBox.{SubBox}
use Rattle.ts_domain.specs.declared.dims.Dim.{Dim}
use Rattle.ts_domain.specs.Boxes.{IsBox, is_in_box}
use Rattle.ts_domain.specs.Dims.{IsSoundDim, tile_start, tile_end}
use Rattle.ts_domain.specs.Domains.{LiesInDomain}
use Rattle.ts_order.specs.Orders.{order_cmp, tile_numbers, coords_in_order, Ascends}

-- the low bounds of a box, raised to where the tiles of these numbers begin
abbrev pub cut_low : List Dim → List ℤ → List ℤ → List ℤ
cut_low (d ∷ ds) (t ∷ ts) (l ∷ ls) = int_max l (tile_start d t) ∷ cut_low ds ts ls
cut_low _ _ _ = []

-- the high bounds of a box, lowered to where the tiles of these numbers end
abbrev pub cut_high : List Dim → List ℤ → List ℤ → List ℤ
cut_high (d ∷ ds) (t ∷ ts) (h ∷ hs) = int_min h (tile_end d t) ∷ cut_high ds ts hs
cut_high _ _ _ = []

-- the part of a box that lies in the space tile of these numbers
abbrev pub cut_box : List Dim → SubBox → List ℤ → SubBox
cut_box dims sub numbers = record { low = cut_low dims numbers sub.low; high = cut_high dims numbers sub.high }

-- the numbers of the space tiles that meet a box, as a box of its own
abbrev pub tile_box : List Dim → SubBox → SubBox
tile_box dims sub = record { low = tile_numbers dims sub.low; high = tile_numbers dims sub.high }

-- the space tiles that meet a box, each cut to the box, in tile order
abbrev pub tiles_in : List Dim → Order → SubBox → List SubBox
tiles_in dims tile sub = map (cut_box dims sub) (coords_in_order tile (tile_box dims sub))

-- the space tile of these numbers meets a box of a domain
pub record MeetsTile (dims : List Dim) (sub : SubBox) (numbers : List ℤ) : Type 0 where
  pub sound : All IsSoundDim dims
  pub valid : IsBox sub
  pub inside : LiesInDomain dims sub
  pub reached : IsTrue (is_in_box (tile_box dims sub) numbers)

-- boxes that divide a box into its parts in the space tiles
pub record AreTiles (dims : List Dim) (tile : Order) (sub : SubBox) (tiles : List SubBox) : Type 0 where
  -- each cell of the box lies in one of them
  pub covered : (coords : List ℤ) → IsTrue (is_in_box sub coords) → (i : ℕ) × (t : SubBox) × (slice_get tiles i ≡ Some t) × IsTrue (is_in_box t coords)
  -- and in no other
  pub once : (coords : List ℤ) (i j : ℕ) (t u : SubBox) → slice_get tiles i ≡ Some t → slice_get tiles j ≡ Some u → IsTrue (is_in_box t coords) → IsTrue (is_in_box u coords) → i ≡ j
  -- each is a box, and its cells lie in the box and in one space tile
  pub valid : (i : ℕ) (t : SubBox) → slice_get tiles i ≡ Some t → IsBox t
  pub within : (coords : List ℤ) (i : ℕ) (t : SubBox) → slice_get tiles i ≡ Some t → IsTrue (is_in_box t coords) → IsTrue (is_in_box sub coords)
  pub single : (coords : List ℤ) (i : ℕ) (t : SubBox) → slice_get tiles i ≡ Some t → IsTrue (is_in_box t coords) → tile_numbers dims coords ≡ tile_numbers dims t.low
  -- their space tiles ascend in the tile order
  pub ascending : Ascends (λ t u. order_cmp tile (tile_numbers dims t.low) (tile_numbers dims u.low)) tiles
