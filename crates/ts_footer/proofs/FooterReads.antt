-- Reading what the metadata stores.
use Rattle.std.proofs.Common.{◌≡◌, ℕ, zero, suc, ◌+◌, ◌*◌, ◌/◌, ◌%◌, ◌≤◌, Bool, true, false, ◌&&◌, int_le, nat_eq, List, [], ◌∷◌, map, Result, Ok, Err, IfOk, refl, sym, subst, ◌∙◌, arith, ℤ}
use Rattle.std.specs.Prelude.{◌≤ℤ◌, min, max}
use Rattle.std.proofs.Math.Nat.{div-add-mod}
use Rattle.std.specs.List.{All}
use Rattle.std.proofs.lemmas.Bool.{and_parts, and_from, leb-true, eqb-true}
use Rattle.std.proofs.lemmas.Int.{ints}
use Rattle.std.proofs.lemmas.Nat.{mul-le}
use Rattle.std.proofs.lemmas.List.Elements.{All-head, All-tail}
use Rattle.ts_base.specs.declared.keys.FragKey.{FragKey}
use Rattle.ts_domain.specs.declared.dims.Dim.{Dim}
use Rattle.ts_domain.specs.declared.boxes.SubBox.{SubBox}
use Rattle.ts_domain.specs.declared.orders.Order.TheVariants.{Row}
use Rattle.ts_domain.specs.Bounds.{are_bounds, count_between, cells_between}
use Rattle.ts_domain.specs.Boxes.{IsBox}
use Rattle.ts_domain.specs.Dims.{IsDim, IsSoundDim}
use Rattle.ts_domain.specs.Domains.{is_in_domain, LiesInDomain}
use Rattle.ts_order.specs.Tiles.{tile_box}
use Rattle.ts_order.proofs.TilesLemmas.{IsBox-tile_box}
use Rattle.ts_wire.specs.declared.faults.Damaged.{Damaged}
use Rattle.ts_wire.specs.Place.{Place}
use Rattle.ts_wire.specs.Reading.{Keeps}
use Rattle.ts_wire.specs.Exact.{IsBytes, EachFits}
use Rattle.ts_schema.specs.declared.frames.Frame.{Frame}
use Rattle.ts_plain.specs.declared.stored.Side.{Side}
use Rattle.ts_plain.specs.declared.stored.StoredHead.{StoredHead}
use Rattle.ts_plain.specs.Rules.{may_hold, volume}
use Rattle.ts_plain.specs.Plain.{head_by, FitsSide, FitsHeadBy}
use Rattle.ts_plain.specs.Insides.{IsSide, LiesIn, IsHull}
use Rattle.ts_plain.proofs.PlainExact.{head_by_exact}
use Rattle.ts_plain.proofs.Insides.{hull_sides}
use Rattle.ts_plain.proofs.Volumes.{count_is}
use Rattle.ts_plain.specs.Writes.{box_of}
use Rattle.ts_footer.specs.declared.tilings.Tiling.{Tiling}
use Rattle.ts_footer.specs.declared.tilings.Tiling.TheVariants.{Sparse, Dense}
use Rattle.ts_footer.specs.Columns.{rounded_up, tiles_for}
use Rattle.ts_footer.specs.Tilings.{tile_total}

sides_bound : (hull : List Side) → All IsSide hull → are_bounds (map (λ side. side.low) hull) (map (λ side. side.high) hull) ≡ true
sides_bound [] all = refl
sides_bound (side ∷ hull) all =
    let first = All-head IsSide side hull all in
    let span = first.some in
    let here : int_le side.low side.high ≡ true = grind (arith, ints, span) in
    and_from (int_le side.low side.high) _ here (sides_bound hull (All-tail IsSide side hull all))

-- the box between the sides of a hull is one
pub box_valid : (dims : List Dim) (hull : List Side) → IsHull dims hull → IsBox (box_of hull)
box_valid dims hull is = sides_bound hull (hull_sides dims hull is)

-- and lies in the domain
lows_inside : (dims : List Dim) (hull : List Side) → IsHull dims hull → is_in_domain dims (map (λ side. side.low) hull) ≡ true
lows_inside [] [] is = refl
lows_inside [] (side ∷ hull) is = absurd is
lows_inside (d ∷ dims) [] is = absurd is
lows_inside (d ∷ dims) (side ∷ hull) is =
    let lies = is.0 in
    let low = lies.low in
    let high = lies.high in
    let some = lies.is.some in
    let first : int_le d.low side.low && int_le side.low d.high ≡ true = grind (arith, ints, low, high, some) in
    and_from (int_le d.low side.low && int_le side.low d.high) _ first (lows_inside dims hull is.1)

highs_inside : (dims : List Dim) (hull : List Side) → IsHull dims hull → is_in_domain dims (map (λ side. side.high) hull) ≡ true
highs_inside [] [] is = refl
highs_inside [] (side ∷ hull) is = absurd is
highs_inside (d ∷ dims) [] is = absurd is
highs_inside (d ∷ dims) (side ∷ hull) is =
    let lies = is.0 in
    let low = lies.low in
    let high = lies.high in
    let some = lies.is.some in
    let first : int_le d.low side.high && int_le side.high d.high ≡ true = grind (arith, ints, low, high, some) in
    and_from (int_le d.low side.high && int_le side.high d.high) _ first (highs_inside dims hull is.1)

pub box_inside : (dims : List Dim) (hull : List Side) → IsHull dims hull → LiesInDomain dims (box_of hull)
box_inside dims hull is = (lows_inside dims hull is, highs_inside dims hull is)

-- sides that can be spelled are those of a hull
pub sides_hull : (dims : List Dim) (hull : List Side) → All IsSoundDim dims → EachFits FitsSide dims hull → IsHull dims hull
sides_hull [] [] sound fits = tt
sides_hull [] (side ∷ hull) sound fits = absurd fits
sides_hull (d ∷ dims) [] sound fits = absurd fits
sides_hull (d ∷ dims) (side ∷ hull) sound (first, others) = (lies (All-head IsSoundDim d dims sound).valid, sides_hull dims hull (All-tail IsSoundDim d dims sound) others)
  where
    lies : IsDim d → LiesIn d side
    lies dim =
        let low = and_parts (int_le d.low side.low) (int_le side.low d.high) first.low.1 in
        let high = and_parts (int_le side.low side.high) (int_le side.high d.high) first.high.1 in
        let least = dim.low.above in
        let greatest = dim.high.below in
        let some : side.low ≤ℤ side.high = grind (arith, ints, high) in
        let above : d.low ≤ℤ side.low = grind (arith, ints, low) in
        let below : side.high ≤ℤ d.high = grind (arith, ints, high) in
        record {
          is = record {
            low = record { above = grind (arith, ints, least, above); below = grind (arith, ints, greatest, some, below) };
            high = record { above = grind (arith, ints, least, above, some); below = grind (arith, ints, greatest, below) };
            some = some;
          };
          low = above;
          high = below;
        }

-- a hull whose sides lie within the dimensions has a cell
volume_of_sides : (dims : List Dim) (hull : List Side) → EachFits FitsSide dims hull → 1 ≤ volume hull
volume_of_sides [] [] fits = omega arith
volume_of_sides [] (side ∷ hull) fits = absurd fits
volume_of_sides (d ∷ dims) [] fits = absurd fits
volume_of_sides (d ∷ dims) (side ∷ hull) (first, others) =
    let on = and_parts (int_le side.low side.high) (int_le side.high d.high) first.high.1 in
    let span : side.low ≤ℤ side.high = grind (arith, ints, on) in
    mul-le 1 1 (count_between side.low side.high) (volume hull) (count_is side.low side.high span).0 (volume_of_sides dims hull others)

-- a fragment has a cell
pub some_cell : (full : Bool → Bool) (frame : Frame) (frag : FragKey) (head : StoredHead) → FitsHeadBy full frame frag head → 1 ≤ head.cells
some_cell full frame frag head fits = by_kind (full head.consolidated) fits.as_many
  where
    by_kind : (full : Bool) → may_hold full head.hull head.cells ≡ true → 1 ≤ head.cells
    by_kind true e = subst (λ n. 1 ≤ n) (sym (eqb-true head.cells (volume head.hull) e)) (volume_of_sides frame.domain head.hull fits.hull)
    by_kind false e = leb-true 1 head.cells e

pub head_some : (full : Bool → Bool) (frame : Frame) (frag : FragKey) (p q : Place) (head : StoredHead) → IsBytes p.rest → head_by full frame frag p ≡ Ok (head, q) → 1 ≤ head.cells
head_some full frame frag p q head all read = some_cell full frame frag head ((head_by_exact full frame frag).takes p (head, q) all read).1

-- ---- the number of tiles

rounded_up_some : (a b : ℕ) → 1 ≤ a → 1 ≤ rounded_up a b
rounded_up_some a b some = by_quotient (a / b) (a % b) (div-add-mod a b)
  where
    by_quotient : (n m : ℕ) → b * n + m ≡ a → 1 ≤ n + min 1 m
    by_quotient zero zero whole = absurd (omega (arith, whole))
    by_quotient zero (suc m) whole = omega arith
    by_quotient (suc n) m whole = omega arith

-- over some cells there are some tiles
pub tiles_some : (capacity cells : ℕ) → 1 ≤ cells → 1 ≤ tiles_for capacity cells
tiles_some capacity cells some = rounded_up_some cells (max capacity 1) some

-- a box has some cells
box_some : (ls hs : List ℤ) → are_bounds ls hs ≡ true → 1 ≤ cells_between ls hs
box_some [] [] valid = omega arith
box_some [] (h ∷ hs) valid = omega arith
box_some (l ∷ ls) [] valid = omega arith
box_some (l ∷ ls) (h ∷ hs) valid =
    let parts = and_parts (int_le l h) (are_bounds ls hs) valid in
    let span : l ≤ℤ h = grind (arith, ints, parts) in
    mul-le 1 1 (count_between l h) (cells_between ls hs) (count_is l h span).0 (box_some ls hs parts.1)

-- the numbers of the space tiles that meet a box make a box
pub numbers_valid : (dims : List Dim) (sub : SubBox) → All IsSoundDim dims → IsBox sub → LiesInDomain dims sub → IsBox (tile_box dims sub)
numbers_valid dims sub sound valid inside = IsBox-tile_box dims Row sub sound valid inside

-- a fragment has a tile
pub total_some : (tiling : Tiling) (frame : Frame) (head : StoredHead) → All IsSoundDim frame.domain → IsHull frame.domain head.hull → 1 ≤ head.cells → 1 ≤ tile_total tiling frame head
total_some Sparse frame head sound is some = tiles_some frame.capacity head.cells some
total_some Dense frame head sound is some =
    box_some _ _ (numbers_valid frame.domain (box_of head.hull) sound (box_valid frame.domain head.hull is) (box_inside frame.domain head.hull is))

-- so does one whose number of tiles is kept
pub kept_some : (at tiles total : ℕ) (keeps : Bool) (result : Result ℕ Damaged) → 1 ≤ total → keeps ≡ nat_eq tiles total → Keeps at tiles keeps result → IfOk result (λ n. 1 ≤ n)
kept_some at tiles total keeps (Ok n) some same kept = subst (λ m. 1 ≤ m) (sym (kept.0 ∙ eqb-true tiles total (sym same ∙ kept.1))) some
kept_some at tiles total keeps (Err damaged) some same kept = tt
