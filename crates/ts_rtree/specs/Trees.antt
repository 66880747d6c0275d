-- Trees of boxes: ten consecutive boxes of a level lie in one of the level above.
use Rattle.std.specs.Prelude.{◌≡◌, ℕ, zero, suc, ◌-◌, ◌^◌, ◌<◌, ◌≤◌, nat_le, if◌then◌else◌, List, [], ◌∷◌, ◌++◌, length, take, count_by, All}
use Rattle.ts_domain.specs.declared.boxes.SubBox.{SubBox}
use Rattle.ts_domain.specs.Boxes.{IsBox, do_boxes_meet, hull_of}

-- a hull in the making, into which `left` more boxes go; each hull behind it is of a box and `rest` more
abbrev pub hulls_from : ℕ → ℕ → SubBox → List SubBox → List SubBox
hulls_from rest left hull [] = hull ∷ []
hulls_from rest zero hull (b ∷ bs) = hull ∷ hulls_from rest rest b bs
hulls_from rest (suc left) hull (b ∷ bs) = hulls_from rest left (hull_of hull b) bs

-- the hull of each n consecutive boxes; the last one is of the rest
abbrev pub hulls_of : ℕ → List SubBox → List SubBox
hulls_of n [] = []
hulls_of n (b ∷ bs) = hulls_from (n - 1) (n - 1) b bs

-- the level above: the hull of each ten consecutive boxes
abbrev pub nodes_above : List SubBox → List SubBox
nodes_above level = hulls_of 10 level

-- the levels above a level, the lowest first, until one has one box; no more than n of them
abbrev pub upper_in : ℕ → List SubBox → List SubBox
upper_in zero level = []
upper_in (suc n) level = if nat_le (length level) 1 then [] else nodes_above level ++ upper_in n (nodes_above level)

-- the levels above the leaves, the lowest first, until one has one box
unfoldable pub upper_of : List SubBox → List SubBox
upper_of leaves = upper_in (length leaves) leaves

-- all boxes of the tree with these leaves: the leaves, and then level by level those above
abbrev pub nodes_of : List SubBox → List SubBox
nodes_of leaves = leaves ++ upper_of leaves

-- how many boxes meet a box
abbrev pub count_meeting : SubBox → List SubBox → ℕ
count_meeting sub boxes = count_by (λ b. do_boxes_meet b sub) boxes

-- the leaves of a tree, and how often it looked at one of its boxes
pub record Rooted : Type 0 where
  pub leaves : List SubBox
  pub looks : ℕ

-- the boxes are those of the tree over the first so many of them
pub record IsTree (count : ℕ) (boxes : List SubBox) : Type 0 where
  pub some : 1 ≤ count
  pub few : count < 2 ^ 32
  pub within : count ≤ length boxes
  pub levels : boxes ≡ nodes_of (take count boxes)
  pub valid : All IsBox boxes
