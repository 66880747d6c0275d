-- The numbers of one dimension of a tile, and the loops that write them.
use Rattle.std.proofs.Common.{◌≡◌, ℕ, zero, suc, ◌+◌, ◌<◌, List, [], ◌∷◌, ◌++◌, length, get_or, set, take, Some, refl, sym, ap, subst, ◌∙◌, arith, ℤ, pos, negsuc, ◌-ℤ◌, ◌*ℤ◌, ◌≤ℤ◌, FitsSigned}
use Rattle.std.specs.Prelude.{slice_get}
use Rattle.std.specs.List.{All}
use Rattle.std.specs.Int.{w128, int_div_euclid, int_min, int_max}
use Rattle.std.proofs.lemmas.Int.{ints}
use Rattle.std.proofs.lemmas.List.{take_more, take_more_set}
use Rattle.std.proofs.lemmas.Option.{slice_get_within, get_or_from_slice_get}
use Rattle.ts_domain.specs.declared.dims.Dim.{Dim}
use Rattle.ts_domain.specs.declared.boxes.SubBox.{SubBox}
use Rattle.ts_domain.specs.Dims.{IsSoundDim, tile_number, tile_start, tile_end}
use Rattle.ts_domain.proofs.Between.{within_parts, length-is_between}
use Rattle.ts_domain.proofs.Steps.{are_bounds_at}
use Rattle.ts_order.specs.Orders.{tile_numbers}
use Rattle.ts_order.specs.Tiles.{cut_low, cut_high, MeetsTile}
use Rattle.ts_order.proofs.OrderLemmas.{is_in_domain_at, length-is_in_domain, length-tile_numbers, get_or-tile_numbers}
use Rattle.ts_order.proofs.PlaceSteps.{is_between_at}
use Rattle.ts_order.proofs.TileLaws.{tile_between}

-- ---- one dimension

pub tile_number-positive : (d : Dim) (x : ℤ) → IsSoundDim d → d.low ≤ℤ x → pos 0 ≤ℤ tile_number d x
tile_number-positive d x sound h = by (x -ℤ d.low) d.extent refl sound.some
  where
    by : (z e : ℤ) → z ≡ x -ℤ d.low → pos 1 ≤ℤ e → pos 0 ≤ℤ int_div_euclid z e
    by (pos p) (pos e) i some = omega (arith, ints)
    by (pos p) (negsuc e) i some = absurd (omega (arith, ints))
    by (negsuc p) e i some = absurd (omega (arith, ints))

product-positive : (t e : ℤ) → pos 0 ≤ℤ t → pos 1 ≤ℤ e → pos 0 ≤ℤ (t *ℤ e)
product-positive (pos t) (pos e) h k = omega (arith, ints)
product-positive (pos t) (negsuc e) h k = absurd (omega (arith, ints))
product-positive (negsuc t) e h k = absurd (omega (arith, ints))

-- the numbers of the code fit
pub record FitInTile (d : Dim) (tile : ℤ) : Type 0 where
  pub low_fits : FitsSigned w128 d.low
  pub extent_fits : FitsSigned w128 d.extent
  pub offset : FitsSigned w128 (tile *ℤ d.extent)
  pub start : FitsSigned w128 (tile_start d tile)
  pub width : FitsSigned w128 (d.extent -ℤ pos 1)
  pub end : FitsSigned w128 (tile_end d tile)

pub fit_in_tile : (d : Dim) (tile : ℤ) → IsSoundDim d → pos 0 ≤ℤ tile → tile_start d tile ≤ℤ d.high → FitInTile d tile
fit_in_tile d tile sound positive reached =
    let low = sound.valid.low in
    let high = sound.valid.high in
    let extent = sound.valid.extent in
    let some = sound.some in
    let product = product-positive tile d.extent positive some in
    record {
      low_fits = omega (arith, ints, low.above, low.below);
      extent_fits = omega (arith, ints, extent.above, extent.below);
      offset = omega (arith, ints, low.above, high.below);
      start = omega (arith, ints, low.above, high.below);
      width = omega (arith, ints, extent.above, extent.below);
      end = omega (arith, ints, low.above, high.below, extent.above, extent.below);
    }

-- one dimension of a box and of a tile that meets it
pub record TileAt (d : Dim) (l h tile : ℤ) : Type 0 where
  pub sound : IsSoundDim d
  pub low_above : d.low ≤ℤ l
  pub ordered : l ≤ℤ h
  pub high_below : h ≤ℤ d.high
  pub positive : pos 0 ≤ℤ tile
  pub reached : tile_start d tile ≤ℤ d.high

sound_at : (dims : List Dim) (i : ℕ) (d : Dim) → All IsSoundDim dims → i < length dims → d ≡ get_or dims i d → IsSoundDim d
sound_at dims i d sound k is = subst IsSoundDim (sym is) (sound i d k)

pub tile_at : (dims : List Dim) (sub : SubBox) (numbers : List ℤ) (i : ℕ) (d : Dim) → MeetsTile dims sub numbers → i < length dims → d ≡ get_or dims i d
    → TileAt d (get_or sub.low i (pos 0)) (get_or sub.high i (pos 0)) (get_or numbers i (pos 0))
tile_at dims sub numbers i d meets k is =
    let l = get_or sub.low i (pos 0) in
    let h = get_or sub.high i (pos 0) in
    let t = get_or numbers i (pos 0) in
    let good = sound_at dims i d meets.sound k is in
    let long_low = length-is_in_domain dims sub.low meets.inside.0 in
    let long_high = length-is_in_domain dims sub.high meets.inside.1 in
    let low = is_in_domain_at dims sub.low i d meets.inside.0 k is in
    let high = is_in_domain_at dims sub.high i d meets.inside.1 k is in
    let ordered = are_bounds_at sub.low sub.high i meets.valid (rw long_low k) in
    let first = get_or-tile_numbers dims sub.low i d long_low k is in
    let last = get_or-tile_numbers dims sub.high i d long_high k is in
    let reached = is_between_at (tile_numbers dims sub.low) (tile_numbers dims sub.high) numbers i meets.reached (rw (length-tile_numbers dims sub.low long_low) k) in
    let parts = within_parts (tile_number d l) (tile_number d h) t (rw (first, last) at reached) in
    let positive = tile_number-positive d l good low.0 in
    let meet = tile_between d l h t good low.0 ordered (omega (arith, ints)) (omega (arith, ints)) in
    let reaches = meet.1 in
    let below = high.1 in
    record {
      sound = good;
      low_above = low.0;
      ordered = ordered;
      high_below = high.1;
      positive = omega (arith, ints);
      reached = omega (arith, ints);
    }

-- ---- the numbers that the loops write

pub length-cut_low : (dims : List Dim) (ts ls : List ℤ) → length ts ≡ length dims → length ls ≡ length dims → length (cut_low dims ts ls) ≡ length dims
length-cut_low [] ts ls e f = refl
length-cut_low (d ∷ ds) [] ls e f = cc
length-cut_low (d ∷ ds) (t ∷ ts) [] e f = cc
length-cut_low (d ∷ ds) (t ∷ ts) (l ∷ ls) e f = ap suc (length-cut_low ds ts ls (cc) (cc))

pub length-cut_high : (dims : List Dim) (ts hs : List ℤ) → length ts ≡ length dims → length hs ≡ length dims → length (cut_high dims ts hs) ≡ length dims
length-cut_high [] ts hs e f = refl
length-cut_high (d ∷ ds) [] hs e f = cc
length-cut_high (d ∷ ds) (t ∷ ts) [] e f = cc
length-cut_high (d ∷ ds) (t ∷ ts) (h ∷ hs) e f = ap suc (length-cut_high ds ts hs (cc) (cc))

pub get_or-cut_low : (dims : List Dim) (ts ls : List ℤ) (i : ℕ) (d : Dim) → length ts ≡ length dims → length ls ≡ length dims → i < length dims → d ≡ get_or dims i d
    → get_or (cut_low dims ts ls) i (pos 0) ≡ int_max (get_or ls i (pos 0)) (tile_start d (get_or ts i (pos 0)))
get_or-cut_low [] ts ls i d e f k is = absurd (omega arith)
get_or-cut_low (g ∷ gs) [] ls i d e f k is = cc
get_or-cut_low (g ∷ gs) (t ∷ ts) [] i d e f k is = cc
get_or-cut_low (g ∷ gs) (t ∷ ts) (l ∷ ls) zero d e f k is = ap (λ x. int_max l (tile_start x t)) (sym is)
get_or-cut_low (g ∷ gs) (t ∷ ts) (l ∷ ls) (suc i) d e f k is = get_or-cut_low gs ts ls i d (cc) (cc) (omega arith) is

pub get_or-cut_high : (dims : List Dim) (ts hs : List ℤ) (i : ℕ) (d : Dim) → length ts ≡ length dims → length hs ≡ length dims → i < length dims → d ≡ get_or dims i d
    → get_or (cut_high dims ts hs) i (pos 0) ≡ int_min (get_or hs i (pos 0)) (tile_end d (get_or ts i (pos 0)))
get_or-cut_high [] ts hs i d e f k is = absurd (omega arith)
get_or-cut_high (g ∷ gs) [] hs i d e f k is = cc
get_or-cut_high (g ∷ gs) (t ∷ ts) [] i d e f k is = cc
get_or-cut_high (g ∷ gs) (t ∷ ts) (h ∷ hs) zero d e f k is = ap (λ x. int_min h (tile_end x t)) (sym is)
get_or-cut_high (g ∷ gs) (t ∷ ts) (h ∷ hs) (suc i) d e f k is = get_or-cut_high gs ts hs i d (cc) (cc) (omega arith) is

-- one number more is written
pub written_more : (xs whole : List ℤ) (i : ℕ) (v : ℤ) → i < length xs → i < length whole → v ≡ get_or whole i (pos 0) → take i xs ≡ take i whole → take (i + 1) (set xs i v) ≡ take (i + 1) whole
written_more xs whole i v in_xs in_whole is before =
    take_more_set xs i v in_xs ∙ ap (λ ys. ys ++ v ∷ []) before ∙ ap (λ z. take i whole ++ z ∷ []) is ∙ sym (take_more whole i (pos 0) in_whole)

-- ---- the numbers of dimensions, of a box that a tile meets

module _ (dims : List Dim) (sub : SubBox) (numbers : List ℤ) (meets : MeetsTile dims sub numbers) where
  pub length_low : length sub.low ≡ length dims
  length_low = length-is_in_domain dims sub.low meets.inside.0

  pub length_high : length sub.high ≡ length dims
  length_high = length-is_in_domain dims sub.high meets.inside.1

  pub length_tile : length numbers ≡ length dims
  length_tile = sym (length-is_between (tile_numbers dims sub.low) (tile_numbers dims sub.high) numbers meets.reached).0 ∙ length-tile_numbers dims sub.low length_low

-- ---- the list of tiles

pub take_more_get : {A : Type 0} → (xs : List A) (i : ℕ) (x : A) → slice_get xs i ≡ Some x → take (i + 1) xs ≡ take i xs ++ x ∷ []
take_more_get xs i x e = take_more xs i x (slice_get_within xs i x e) ∙ ap (λ y. take i xs ++ y ∷ []) (get_or_from_slice_get xs i x x e)
