-- The last box of a tree is the hull of all cells.
use Rattle.std.proofs.Common.{◌≡◌, ℕ, zero, suc, ◌-◌, ◌≤◌, ℤ, Bool, true, false, nat_le, cond, List, [], ◌∷◌, ◌++◌, length, map, refl, sym, ap, ◌∙◌, arith, length-append}
use Rattle.std.specs.Int.{int_min, int_max}
use Rattle.std.proofs.lemmas.Int.{ints, clamps}
use Rattle.std.proofs.lemmas.Bool.{leb-true}
use Rattle.std.proofs.lemmas.Bool.Decides.{nat_tests}
use Rattle.ts_domain.specs.declared.boxes.SubBox.{SubBox}
use Rattle.ts_domain.specs.Bounds.{least_corner, greatest_corner}
use Rattle.ts_domain.specs.Boxes.{hull_of}
use Rattle.ts_rtree.specs.Trees.{hulls_from, nodes_above, upper_in, upper_of, nodes_of}
use Rattle.ts_rtree.proofs.Levels.{length-nodes_above}
use Rattle.ts_plain.specs.declared.stored.StoredCell.{StoredCell}
use Rattle.ts_sparse.specs.Sparse.{cell_box, hull_from, leaf_of, leaves_of}
use Rattle.ts_sparse.proofs.HullLaws.{leaves_are_hulls}

-- ---- hulls of hulls

min_assoc : (x y z : ℤ) → int_min (int_min x y) z ≡ int_min x (int_min y z)
min_assoc x y z = grind (arith, ints, clamps)

max_assoc : (x y z : ℤ) → int_max (int_max x y) z ≡ int_max x (int_max y z)
max_assoc x y z = grind (arith, ints, clamps)

least_assoc : (xs ys zs : List ℤ) → least_corner (least_corner xs ys) zs ≡ least_corner xs (least_corner ys zs)
least_assoc [] ys zs = refl
least_assoc (x ∷ xs) [] zs = refl
least_assoc (x ∷ xs) (y ∷ ys) [] = refl
least_assoc (x ∷ xs) (y ∷ ys) (z ∷ zs) = ap (λ m. m ∷ least_corner (least_corner xs ys) zs) (min_assoc x y z) ∙ ap (λ ms. int_min x (int_min y z) ∷ ms) (least_assoc xs ys zs)

greatest_assoc : (xs ys zs : List ℤ) → greatest_corner (greatest_corner xs ys) zs ≡ greatest_corner xs (greatest_corner ys zs)
greatest_assoc [] ys zs = refl
greatest_assoc (x ∷ xs) [] zs = refl
greatest_assoc (x ∷ xs) (y ∷ ys) [] = refl
greatest_assoc (x ∷ xs) (y ∷ ys) (z ∷ zs) = ap (λ m. m ∷ greatest_corner (greatest_corner xs ys) zs) (max_assoc x y z) ∙ ap (λ ms. int_max x (int_max y z) ∷ ms) (greatest_assoc xs ys zs)

hull_assoc : (a b c : SubBox) → hull_of (hull_of a b) c ≡ hull_of a (hull_of b c)
hull_assoc a b c =
    let low = least_assoc a.low b.low c.low in
    let high = greatest_assoc a.high b.high c.high in
    λ i. record { low = low i; high = high i }

-- the hull of a box and others
abbrev pub hull_with : SubBox → List SubBox → SubBox
hull_with hull [] = hull
hull_with hull (b ∷ bs) = hull_with (hull_of hull b) bs

hull_out : (a b : SubBox) (bs : List SubBox) → hull_with (hull_of a b) bs ≡ hull_of a (hull_with b bs)
hull_out a b [] = refl
hull_out a b (c ∷ bs) = ap (λ h. hull_with h bs) (hull_assoc a b c) ∙ hull_out a (hull_of b c) bs

abbrev pub none : SubBox
none = record { low = []; high = [] }

abbrev pub hull_all : List SubBox → SubBox
hull_all [] = none
hull_all (b ∷ bs) = hull_with b bs

abbrev IsSome : List SubBox → Type 0
IsSome [] = ⊥
IsSome (x ∷ xs) = Unit {0}

some_hulls : (rest left : ℕ) (b : SubBox) (bs : List SubBox) → IsSome (hulls_from rest left b bs)
some_hulls rest left b [] = tt
some_hulls rest zero b (c ∷ bs) = tt
some_hulls rest (suc left) b (c ∷ bs) = some_hulls rest left (hull_of b c) bs

with_more : (hull b : SubBox) (hs bs : List SubBox) → IsSome hs → hull_all hs ≡ hull_with b bs → hull_with hull hs ≡ hull_with (hull_of hull b) bs
with_more hull b [] bs is e = absurd is
with_more hull b (h ∷ hs) bs is e = hull_out hull h hs ∙ ap (hull_of hull) e ∙ sym (hull_out hull b bs)

-- the hulls of so many each have the same hull
all_from : (rest left : ℕ) (hull : SubBox) (bs : List SubBox) → hull_all (hulls_from rest left hull bs) ≡ hull_with hull bs
all_from rest left hull [] = refl
all_from rest zero hull (b ∷ bs) = with_more hull b (hulls_from rest rest b bs) bs (some_hulls rest rest b bs) (all_from rest rest b bs)
all_from rest (suc left) hull (b ∷ bs) = all_from rest left (hull_of hull b) bs

above_all : (level : List SubBox) → hull_all (nodes_above level) ≡ hull_all level
above_all [] = refl
above_all (b ∷ bs) = all_from 9 9 b bs

-- ---- the last box

abbrev pub last_box : List SubBox → SubBox
last_box [] = none
last_box (b ∷ []) = b
last_box (b ∷ (c ∷ bs)) = last_box (c ∷ bs)

last_behind : (xs : List SubBox) (y : SubBox) (ys : List SubBox) → last_box (xs ++ y ∷ ys) ≡ last_box (y ∷ ys)
last_behind [] y ys = refl
last_behind (x ∷ []) y ys = refl
last_behind (x ∷ (z ∷ xs)) y ys = last_behind (z ∷ xs) y ys

top_in : (n : ℕ) (level : List SubBox) → length level ≤ n → last_box (level ++ upper_in n level) ≡ hull_all level
top_in zero [] few = refl
top_in zero (b ∷ bs) few = absurd (omega arith)
top_in (suc n) level few = by level (nat_le (length level) 1) refl few (λ l h. top_in n l h)
  where
    short : (level : List SubBox) → length level ≤ 1 → last_box (level ++ []) ≡ hull_all level
    short [] h = refl
    short (b ∷ []) h = refl
    short (b ∷ (c ∷ bs)) h = absurd (omega arith)

    behind : (xs ys : List SubBox) → 1 ≤ length ys → last_box (xs ++ ys) ≡ last_box ys
    behind xs [] h = absurd (omega arith)
    behind xs (y ∷ ys) h = last_behind xs y ys

    by : (level : List SubBox) (t : Bool) → nat_le (length level) 1 ≡ t → length level ≤ suc n → ((l : List SubBox) → length l ≤ n → last_box (l ++ upper_in n l) ≡ hull_all l)
        → last_box (level ++ cond t [] (nodes_above level ++ upper_in n (nodes_above level))) ≡ hull_all level
    by level true e few other = short level (leb-true (length level) 1 e)
    by level false e few other =
        let many : 2 ≤ length level = grind (arith, nat_tests) in
        let count = length-nodes_above level in
        let fewer : length (nodes_above level) ≤ n = omega (arith, count) in
        let some : 1 ≤ length (nodes_above level) = omega (arith, count) in
        behind level (nodes_above level ++ upper_in n (nodes_above level)) (omega (arith, length-append (nodes_above level) (upper_in n (nodes_above level)))) ∙ other (nodes_above level) fewer ∙ above_all level

-- the last box of a tree is the hull of its leaves
pub top_is_hull : (leaves : List SubBox) → last_box (nodes_of leaves) ≡ hull_all leaves
unfolding upper_of
top_is_hull leaves = top_in (length leaves) leaves (omega arith)

hull_cells : (hull : SubBox) (cells : List StoredCell) → hull_with hull (map cell_box cells) ≡ hull_from hull cells
hull_cells hull [] = refl
hull_cells hull (c ∷ cells) = hull_cells (hull_of hull (cell_box c)) cells

-- and that of a fragment's tree is the hull of its cells
pub top_of_cells : (n : ℕ) (cells : List StoredCell) → last_box (nodes_of (leaves_of n cells)) ≡ leaf_of cells
top_of_cells n [] = top_is_hull (leaves_of n [])
top_of_cells n (c ∷ cells) =
    top_is_hull (leaves_of n (c ∷ cells)) ∙ ap hull_all (leaves_are_hulls n (c ∷ cells)) ∙ all_from (n - 1) (n - 1) (cell_box c) (map cell_box cells) ∙ hull_cells (cell_box c) cells
