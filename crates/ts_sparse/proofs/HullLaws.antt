-- The leaves of tiles are the hulls of so many cells each.
use Rattle.std.proofs.Common.{◌≡◌, ℕ, zero, suc, ◌-◌, List, [], ◌∷◌, ◌++◌, map, refl, ap, ◌∙◌}
use Rattle.ts_domain.specs.declared.boxes.SubBox.{SubBox}
use Rattle.ts_domain.specs.Boxes.{hull_of}
use Rattle.ts_plain.specs.declared.stored.StoredCell.{StoredCell}
use Rattle.ts_sparse.specs.Tilings.{tiles_from}
use Rattle.ts_sparse.specs.Sparse.{cell_box, hull_from, leaf_of, leaves_of}
use Rattle.ts_rtree.specs.Trees.{hulls_from, hulls_of}

-- one cell more in a hull
hull_more : (hull : SubBox) (cells : List StoredCell) (c : StoredCell) → hull_from hull (cells ++ c ∷ []) ≡ hull_of (hull_from hull cells) (cell_box c)
hull_more hull [] c = refl
hull_more hull (d ∷ cells) c = hull_more (hull_of hull (cell_box d)) cells c

leaves_from : (rest left : ℕ) (first : StoredCell) (tile cells : List StoredCell) → map leaf_of (tiles_from rest left (first ∷ tile) cells) ≡ hulls_from rest left (leaf_of (first ∷ tile)) (map cell_box cells)
leaves_from rest left first tile [] = refl
leaves_from rest zero first tile (c ∷ cells) = ap (λ more. leaf_of (first ∷ tile) ∷ more) (leaves_from rest rest c [] cells)
leaves_from rest (suc left) first tile (c ∷ cells) =
    leaves_from rest left first (tile ++ c ∷ []) cells ∙ ap (λ hull. hulls_from rest left hull (map cell_box cells)) (hull_more (cell_box first) tile c)

-- the leaves are the hulls of the boxes of the cells
pub leaves_are_hulls : (n : ℕ) (cells : List StoredCell) → leaves_of n cells ≡ hulls_of n (map cell_box cells)
leaves_are_hulls n [] = refl
leaves_are_hulls n (c ∷ cells) = leaves_from (n - 1) (n - 1) c [] cells
