-- Boxes of cells.
use Rattle.std.specs.Prelude.{ℕ, Bool, List, ℤ, IsTrue}
use Rattle.ts_domain.specs.declared.boxes.SubBox.{SubBox}
use Rattle.ts_domain.specs.Bounds.{are_bounds, is_between, cells_between, coords_between, least_corner, greatest_corner, do_meet}

-- each low bound of the box is at most its high bound, and there are as many of both
abbrev pub IsBox : SubBox → Type 0
IsBox sub = IsTrue (are_bounds sub.low sub.high)

-- the coordinates lie in the box
abbrev pub is_in_box : SubBox → List ℤ → Bool
is_in_box sub coords = is_between sub.low sub.high coords

-- the coordinates of the box, in row order
abbrev pub coords_of_box : SubBox → List (List ℤ)
coords_of_box sub = coords_between sub.low sub.high

-- the number of cells of the box
abbrev pub cells_of : SubBox → ℕ
cells_of sub = cells_between sub.low sub.high

-- in each dimension neither box begins after the other ends
abbrev pub do_boxes_meet : SubBox → SubBox → Bool
do_boxes_meet a b = do_meet a.low a.high b.low b.high

-- some cell lies in both boxes
abbrev pub ShareCell : SubBox → SubBox → Type 0
ShareCell a b = (coords : List ℤ) × IsTrue (is_in_box a coords) × IsTrue (is_in_box b coords)

-- the outer box has each cell of the inner one
abbrev pub Covers : SubBox → SubBox → Type 0
Covers outer inner = (coords : List ℤ) → IsTrue (is_in_box inner coords) → IsTrue (is_in_box outer coords)

-- the box from the least to the greatest bound in each dimension
abbrev pub hull_of : SubBox → SubBox → SubBox
hull_of a b = record { low = least_corner a.low b.low; high = greatest_corner a.high b.high }

-- the hull has all cells of both boxes, and lies in every box that has them
pub record IsHullOf (hull a b : SubBox) : Type 0 where
  pub first : Covers hull a
  pub second : Covers hull b
  pub least : (outer : SubBox) → Covers outer a → Covers outer b → Covers outer hull
