-- How the tree over the tiles of a fragment is read.
use Rattle.ts_plain.specs.Writes.{box_of}
use Rattle.std.specs.Prelude.{◌≤ℤ◌, ℕ, ℤ, Bool, true, ◌&&◌, nat_eq, int_le, if◌then◌else◌, List, [], ◌∷◌, zip, length}
use Rattle.std.specs.List.{flat_map}
use Rattle.std.specs.Cmp.Lexicographic.{pointwise}
use Rattle.ts_domain.specs.declared.boxes.SubBox.{SubBox}
use Rattle.ts_domain.specs.Rects.{wide_bytes}
use Rattle.ts_wire.specs.Place.{Place, Read, mapped, both, ruled, bytes_at, items_at, each_at}
use Rattle.ts_wire.specs.Numbers.{int_at}
use Rattle.ts_rtree.specs.Trees.{Rooted, upper_of}
use Rattle.ts_plain.specs.declared.stored.Side.{Side}

-- the bytes are those
abbrev pub are_same : List ℕ → List ℕ → Bool
are_same bytes others = pointwise nat_eq bytes others

-- a field of 16 bytes that has to be the one text and the other
unfoldable pub same_at : List ℕ × List ℕ → Place → Read (List ℕ)
same_at e = ruled (λ bytes. are_same bytes e.0 && are_same bytes e.1) (bytes_at 16)

-- the low bound and the high bound along a dimension, which is not below it
unfoldable pub bounds_at : Place → Read Side
bounds_at = mapped (λ x. record { low = x.0; high = x.1 }) (both (int_at 16 true) (λ low. ruled (int_le low) (int_at 16 true)))

-- the low bound is not above the high one
abbrev pub IsSpan : Side → Type 0
IsSpan side = side.low ≤ℤ side.high

-- the box of a tile in n dimensions
unfoldable pub leaf_at : ℕ → Place → Read SubBox
leaf_at n = mapped box_of (items_at (λ _. bounds_at) n [])

-- the boxes of so many tiles
unfoldable pub leaves_at : ℕ → ℕ → Place → Read (List SubBox)
leaves_at n count = items_at (λ _. leaf_at n) count []

-- the fields of bounds: each of 16 bytes
abbrev pub side_fields : List ℤ → List ℤ → List (List ℕ)
side_fields (l ∷ ls) (h ∷ hs) = wide_bytes l ∷ (wide_bytes h ∷ side_fields ls hs)
side_fields _ _ = []

-- the fields of boxes
abbrev pub box_fields : SubBox → List (List ℕ)
box_fields box = side_fields box.low box.high

abbrev pub fields_of : List SubBox → List (List ℕ)
fields_of boxes = flat_map box_fields boxes

-- the boxes, with the hull in the place of the last one
abbrev pub topped : SubBox → List SubBox → List SubBox
topped hull [] = []
topped hull (b ∷ []) = hull ∷ []
topped hull (b ∷ (c ∷ bs)) = b ∷ topped hull (c ∷ bs)

-- the fields of boxes: each has the bound of its box, and in the last box that of the hull too
unfoldable pub boxes_at : SubBox → List SubBox → Place → Read (List (List ℕ))
boxes_at hull boxes = each_at same_at (zip (fields_of boxes) (fields_of (topped hull boxes)))

-- a tree with these leaves into which no one looked yet
abbrev pub rooted : List SubBox → Rooted
rooted leaves = record { leaves = leaves; looks = 0 }

-- the tree of one tile, whose box is the hull
unfoldable pub one_at : SubBox → Place → Read Rooted
one_at hull = mapped (λ _. rooted (hull ∷ [])) (boxes_at hull (hull ∷ []))

-- the tree over so many tiles: their boxes, and then those above them
unfoldable pub many_at : SubBox → ℕ → Place → Read Rooted
many_at hull count = mapped (λ x. rooted x.0) (both (leaves_at (length hull.low) count) (λ leaves. boxes_at hull (upper_of leaves)))

-- the tree over so many tiles whose cells have this hull
abbrev pub tree_at : SubBox → ℕ → Place → Read Rooted
tree_at hull count = if nat_eq count 1 then one_at hull else many_at hull count
