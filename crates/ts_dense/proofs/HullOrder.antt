-- The cells of a hull, space tile by space tile.
use Rattle.std.proofs.Common.{◌≡◌, ℤ, true, ◌&&◌, int_le, List, [], ◌∷◌, ◌*◌, map, length, refl, sym, ap, ◌∙◌, arith}
use Rattle.std.specs.Prelude.{IsTrue}
use Rattle.std.specs.List.{sum, All, AllByRecursion}
use Rattle.std.proofs.lemmas.Int.{ints}
use Rattle.std.proofs.lemmas.Bool.{and_parts, and_from}
use Rattle.ts_domain.specs.declared.dims.Dim.{Dim}
use Rattle.ts_domain.specs.Bounds.{count_between}
use Rattle.ts_domain.specs.Boxes.{IsBox, is_in_box, cells_of}
use Rattle.ts_domain.specs.Dims.{IsSoundDim}
use Rattle.ts_domain.specs.Domains.{is_in_domain, LiesInDomain}
use Rattle.ts_order.specs.Orders.{global_cmp, coords_in_order}
use Rattle.ts_order.proofs.InOrder.{InOrder, IsAmong, NoneTwice}
use Rattle.ts_order.proofs.HullCells as laid
use Rattle.ts_wire.specs.Exact.{EachFits}
use Rattle.ts_schema.specs.declared.frames.Frame.{Frame}
use Rattle.ts_plain.specs.declared.stored.Side.{Side}
use Rattle.ts_plain.specs.Rules.{volume}
use Rattle.ts_plain.specs.Plain.{FitsCoord, FitsSide}
use Rattle.ts_plain.specs.Writes.{box_of}
use Rattle.ts_dense.specs.Slots.{tiles_over, counts_over, coords_over, tiles_by}
use Rattle.ts_dense.proofs.TileLists.{tiles_of_parts}

-- ---- the box of a hull

-- there are as many cells in the box as in the hull
pub cells_of-box_of : (hull : List Side) → cells_of (box_of hull) ≡ volume hull
cells_of-box_of [] = refl
cells_of-box_of (side ∷ hull) = ap (λ n. count_between side.low side.high * n) (cells_of-box_of hull)

-- the box of a hull that fits is one, and lies in the domain
pub hull_box : (dims : List Dim) (hull : List Side) → EachFits FitsSide dims hull → IsBox (box_of hull) × LiesInDomain dims (box_of hull)
hull_box [] [] fits = (refl, (refl, refl))
hull_box [] (side ∷ hull) fits = absurd fits
hull_box (d ∷ dims) [] fits = absurd fits
hull_box (d ∷ dims) (side ∷ hull) fits =
    let low = and_parts (int_le d.low side.low) (int_le side.low d.high) (fits.0).low.1 in
    let high = and_parts (int_le side.low side.high) (int_le side.high d.high) (fits.0).high.1 in
    let rest = hull_box dims hull fits.1 in
    let box = box_of hull in (
      and_from (int_le side.low side.high) _ high.0 rest.0,
      (
        and_from (int_le d.low side.low && int_le side.low d.high) (is_in_domain dims box.low) (fits.0).low.1 rest.1.0,
        and_from (int_le d.low side.high && int_le side.high d.high) (is_in_domain dims box.high) (and_from (int_le d.low side.high) (int_le side.high d.high) (through d.low side.low side.high low.0 high.0) high.1) rest.1.1,
      ),
    )
  where
    through : (a b c : ℤ) → int_le a b ≡ true → int_le b c ≡ true → int_le a c ≡ true
    through a b c e f = grind (arith, ints)

-- coordinates on the sides of a hull lie in its box
pub on_hull : (hull : List Side) (coords : List ℤ) → EachFits FitsCoord hull coords → IsTrue (is_in_box (box_of hull) coords)
on_hull [] [] fits = refl
on_hull [] (x ∷ coords) fits = absurd fits
on_hull (side ∷ hull) [] fits = absurd fits
on_hull (side ∷ hull) (x ∷ coords) fits = and_from (int_le side.low x && int_le x side.high) (is_in_box (box_of hull) coords) fits.0.1 (on_hull hull coords fits.1)

-- ---- its cells

module _ (frame : Frame) (hull : List Side) (sound : All IsSoundDim frame.domain) (fits : EachFits FitsSide frame.domain hull) where
  box : IsBox (box_of hull)
  box = (hull_box frame.domain hull fits).0

  inside : LiesInDomain frame.domain (box_of hull)
  inside = (hull_box frame.domain hull fits).1

  -- they ascend in global order
  pub coords_in_turn : InOrder (global_cmp frame.domain frame.tile frame.cell) (coords_over frame (box_of hull))
  unfolding coords_over
  coords_in_turn = laid.cells_in_order frame.domain frame.tile frame.cell (box_of hull) sound box inside

  -- none stands twice
  pub coords_once : NoneTwice (coords_over frame (box_of hull))
  unfolding coords_over
  coords_once = laid.cells_once frame.domain frame.tile frame.cell (box_of hull) sound box inside

  -- each cell of the hull is among them
  pub coords_covered : (x : List ℤ) → IsTrue (is_in_box (box_of hull) x) → IsAmong (coords_over frame (box_of hull)) x
  unfolding coords_over
  coords_covered x in_box = laid.cells_covered frame.domain frame.tile frame.cell (box_of hull) sound box inside x in_box

  -- and no other
  pub coords_inside : AllByRecursion (λ x. IsTrue (is_in_box (box_of hull) x)) (coords_over frame (box_of hull))
  unfolding coords_over
  coords_inside = laid.cells_inside frame.domain frame.tile frame.cell (box_of hull) sound box inside

  -- there are as many as the hull has cells
  pub coords_many : length (coords_over frame (box_of hull)) ≡ volume hull
  unfolding coords_over
  coords_many = laid.cells_many frame.domain frame.tile frame.cell (box_of hull) sound box inside ∙ cells_of-box_of hull

  -- and as many as the space tiles have together
  pub counts_many : sum (counts_over frame (box_of hull)) ≡ length (coords_over frame (box_of hull))
  counts_many = laid.counts_many frame.domain frame.tile frame.cell (box_of hull) sound box inside ∙ cells_of-box_of hull ∙ sym coords_many

  -- each space tile is a box
  pub tiles_over_valid : AllByRecursion IsBox (tiles_over frame (box_of hull))
  tiles_over_valid = laid.tiles_valid frame.domain frame.tile frame.cell (box_of hull) sound box inside

  -- in tiles they are the cells of each space tile
  pub coords_by_tiles : tiles_by (counts_over frame (box_of hull)) (coords_over frame (box_of hull)) ≡ map (coords_in_order frame.cell) (tiles_over frame (box_of hull))
  unfolding coords_over
  coords_by_tiles = tiles_of_parts (coords_in_order frame.cell) cells_of (tiles_over frame (box_of hull)) (laid.tiles_counted frame.domain frame.tile frame.cell (box_of hull) sound box inside)
