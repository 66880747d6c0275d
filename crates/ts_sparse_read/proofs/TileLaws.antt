-- Which tiles a fetch reads, and where they begin.
use Rattle.std.proofs.Common.{◌≡◌, ℕ, suc, ◌+◌, ◌*◌, ◌/◌, ◌<◌, ◌≤◌, Bool, true, false, ◌&&◌, nat_eq, List, [], ◌∷◌, length, map, refl, sym, ap, ◌∙◌, arith}
use Rattle.std.specs.Prelude.{if◌then◌else◌, max}
use Rattle.std.specs.List.{All}
use Rattle.std.proofs.Math.Nat.{div-add-mod}
use Rattle.std.proofs.lemmas.Nat.{mul-le}
use Rattle.std.proofs.lemmas.Bool.{and_parts, eqb-true}
use Rattle.std.proofs.lemmas.List.Elements.{All-nil, All-cons, All-weaker}
use Rattle.ts_domain.specs.declared.dims.Dim.{Dim}
use Rattle.ts_domain.specs.declared.boxes.SubBox.{SubBox}
use Rattle.ts_domain.specs.Bounds.{are_bounds}
use Rattle.ts_domain.specs.Boxes.{IsBox, do_boxes_meet}
use Rattle.ts_domain.specs.Rects.{IsLike, places_from, places_meeting}
use Rattle.ts_footer.specs.Columns.{tiles_for}
use Rattle.ts_footer.specs.Footers.{FitsRect}
use Rattle.ts_sparse_read.specs.declared.opened.UsedColumn.{UsedColumn}
use Rattle.ts_sparse_read.specs.Opens.{are_readable, is_box_in}
use Rattle.ts_sparse_read.specs.Fits.{FitsLeaf, tile_over, tiles_over}

-- ---- boxes

rect : (dims : List Dim) (sub box : SubBox) → length sub.low ≡ length dims → FitsLeaf dims box → FitsRect sub box
rect dims sub box same fits = record { like = record { valid = fits.valid; dims = fits.count ∙ sym same }; low = fits.low; high = fits.high }

pub rects : (dims : List Dim) (sub : SubBox) (leaves : List SubBox) → All (FitsLeaf dims) leaves → length sub.low ≡ length dims → All (FitsRect sub) leaves
rects dims sub leaves all same = All-weaker (FitsLeaf dims) (FitsRect sub) (λ box fits. rect dims sub box same fits) leaves all

pub likes : (dims : List Dim) (sub : SubBox) (leaves : List SubBox) → All (FitsLeaf dims) leaves → length sub.low ≡ length dims → All (IsLike sub) leaves
likes dims sub leaves all same = All-weaker (FitsLeaf dims) (IsLike sub) (λ box fits. (rect dims sub box same fits).like) leaves all

-- ---- places

from_in : (sub : SubBox) (at : ℕ) (boxes : List SubBox) → All (λ (i : ℕ). i < at + length boxes) (places_from sub at boxes)
from_in sub at [] = All-nil (λ (i : ℕ). i < at + 0)
from_in sub at (b ∷ bs) = go (do_boxes_meet b sub) (All-weaker (λ (i : ℕ). i < at + 1 + length bs) (λ (i : ℕ). i < at + suc (length bs)) (λ i less. omega (arith, less)) (places_from sub (at + 1) bs) (from_in sub (at + 1) bs))
  where
    go : (b : Bool) → All (λ (i : ℕ). i < at + suc (length bs)) (places_from sub (at + 1) bs) → All (λ (i : ℕ). i < at + suc (length bs)) (if b then at ∷ places_from sub (at + 1) bs else places_from sub (at + 1) bs)
    go true more = All-cons (λ (i : ℕ). i < at + suc (length bs)) at (places_from sub (at + 1) bs) (omega arith) more
    go false more = more

-- no place lies behind the boxes
pub places_in : (sub : SubBox) (leaves : List SubBox) → All (λ (i : ℕ). i < length leaves) (places_meeting sub leaves)
places_in sub leaves = All-weaker (λ (i : ℕ). i < 0 + length leaves) (λ (i : ℕ). i < length leaves) (λ i less. omega (arith, less)) (places_meeting sub leaves) (from_in sub 0 leaves)

-- each tile begins before the end of the cells
begins : (capacity cells count i : ℕ) → count ≡ tiles_for capacity cells → i < count → i * max capacity 1 ≤ cells
begins capacity cells count i is less =
    let n = max capacity 1 in
    let whole = div-add-mod cells n in
    let few : i ≤ cells / n = omega (arith, is, less) in
    omega (arith, mul-le i n (cells / n) n few (omega arith), whole)

pub places_before : (capacity cells count : ℕ) (sub : SubBox) (leaves : List SubBox) → count ≡ tiles_for capacity cells → length leaves ≡ count → All (λ (i : ℕ). i * max capacity 1 ≤ cells) (places_meeting sub leaves)
places_before capacity cells count sub leaves is many =
    All-weaker (λ (i : ℕ). i < length leaves) (λ (i : ℕ). i * max capacity 1 ≤ cells) (λ i less. begins capacity cells count i is (omega (arith, less, many))) (places_meeting sub leaves) (places_in sub leaves)

-- ---- tiles

-- the box has as many dimensions as the array
pub box_dims : (dims : List Dim) (sub : SubBox) → is_box_in dims sub ≡ true → length sub.low ≡ length dims
box_dims dims sub is =
    let a = and_parts (are_readable dims) (nat_eq (length sub.low) (length dims) && are_bounds sub.low sub.high) is in
    let b = and_parts (nat_eq (length sub.low) (length dims)) (are_bounds sub.low sub.high) a.1 in
    eqb-true (length sub.low) (length dims) b.0

pub box_valid : (dims : List Dim) (sub : SubBox) → is_box_in dims sub ≡ true → IsBox sub
box_valid dims sub is =
    let a = and_parts (are_readable dims) (nat_eq (length sub.low) (length dims) && are_bounds sub.low sub.high) is in
    (and_parts (nat_eq (length sub.low) (length dims)) (are_bounds sub.low sub.high) a.1).1

pub tiles_met : (dims : List Dim) (n cells : ℕ) (leaves : List SubBox) (used : List UsedColumn) (sub : SubBox) → is_box_in dims sub ≡ true
    → tiles_over dims n cells leaves used sub ≡ map (tile_over n cells leaves used) (places_meeting sub leaves)
tiles_met dims n cells leaves used sub is = ap (λ b. map (tile_over n cells leaves used) (if b then places_meeting sub leaves else [])) is

pub tiles_none : (dims : List Dim) (n cells : ℕ) (leaves : List SubBox) (used : List UsedColumn) (sub : SubBox) → is_box_in dims sub ≡ false → tiles_over dims n cells leaves used sub ≡ []
tiles_none dims n cells leaves used sub is = ap (λ b. map (tile_over n cells leaves used) (if b then places_meeting sub leaves else [])) is

-- where there is no tree there are no tiles
pub tiles_no_tree : (dims : List Dim) (n cells : ℕ) (used : List UsedColumn) (sub : SubBox) → tiles_over dims n cells [] used sub ≡ []
tiles_no_tree dims n cells used sub = go (is_box_in dims sub)
  where
    go : (b : Bool) → map (tile_over n cells [] used) (if b then places_meeting sub [] else []) ≡ []
    go true = refl
    go false = refl
