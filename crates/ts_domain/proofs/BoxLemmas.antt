-- What the corners of boxes say of their cells.
use Rattle.std.proofs.Common.{◌≡◌, length, sym, ◌∙◌}
use Rattle.std.specs.Prelude.{IsTrue}
use Rattle.ts_domain.specs.declared.boxes.SubBox.{SubBox}
use Rattle.ts_domain.specs.Bounds.{greatest_corner}
use Rattle.ts_domain.specs.Boxes.{IsBox, do_boxes_meet, ShareCell, hull_of, IsHullOf}
use Rattle.ts_domain.proofs.Between.{length-are_bounds, is_between-low, is_between-high, do_meet-is_between, is_between-greatest_corner, are_bounds-hull, is_between-hull_first, is_between-hull_second, is_between-hull_least}

-- boxes meet where some cell lies in both
pub ShareCell-do_boxes_meet : (a b : SubBox) → IsBox a → IsBox b → length b.low ≡ length a.low → IsTrue (do_boxes_meet a b) → ShareCell a b
ShareCell-do_boxes_meet a b this that dims meet =
    let shared = is_between-greatest_corner a.low a.high b.low b.high this that dims meet in
    (greatest_corner a.low b.low, shared.0, shared.1)

pub do_boxes_meet-ShareCell : (a b : SubBox) → ShareCell a b → IsTrue (do_boxes_meet a b)
do_boxes_meet-ShareCell a b (coords, first, second) = do_meet-is_between a.low a.high b.low b.high coords first second

-- the hull of two boxes is a box
pub IsBox-hull_of : (a b : SubBox) → IsBox a → IsBox b → length b.low ≡ length a.low → IsBox (hull_of a b)
IsBox-hull_of a b this that dims = are_bounds-hull a.low a.high b.low b.high this that dims

-- and the least one that has their cells
pub IsHullOf-hull_of : (a b : SubBox) → IsBox a → IsBox b → length b.low ≡ length a.low → IsHullOf (hull_of a b) a b
IsHullOf-hull_of a b this that dims = record {
  first = λ coords inside. is_between-hull_first a.low a.high b.low b.high coords inside dims highs;
  second = λ coords inside. is_between-hull_second a.low a.high b.low b.high coords inside dims highs;
  least = λ outer first second coords inside. is_between-hull_least outer.low outer.high a.low a.high b.low b.high coords
      (first a.low (is_between-low a.low a.high this)) (first a.high (is_between-high a.low a.high this))
      (second b.low (is_between-low b.low b.high that)) (second b.high (is_between-high b.low b.high that)) inside;
}
  where
    highs : length b.high ≡ length a.high
    highs = length-are_bounds b.low b.high that ∙ dims ∙ sym (length-are_bounds a.low a.high this)
