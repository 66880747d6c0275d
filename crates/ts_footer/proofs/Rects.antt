-- Boxes whose bounds have room in 16 bytes: they are read as they are spelled, and so are their hulls.
use Rattle.std.proofs.Common.{◌≡◌, ℕ, zero, suc, ◌-◌, ℤ, true, int_le, nat_le, List, [], ◌∷◌, ◌++◌, length, map, refl, ap, subst, ◌∙◌}
use Rattle.std.specs.Prelude.{int_lt}
use Rattle.std.specs.List.{All}
use Rattle.std.specs.Int.{int_min, int_max}
use Rattle.std.proofs.lemmas.Bool.{and_parts, and_from, cond_both}
use Rattle.std.proofs.lemmas.List.{length-map}
use Rattle.std.proofs.lemmas.List.Elements.{All-nil, All-cons, All-head, All-tail, All-append}
use Rattle.ts_domain.specs.declared.boxes.SubBox.{SubBox}
use Rattle.ts_domain.specs.Bounds.{are_bounds, least_corner, greatest_corner}
use Rattle.ts_domain.specs.Boxes.{hull_of}
use Rattle.ts_domain.specs.Rects.{rect_bytes}
use Rattle.ts_wire.specs.Exact.{InTurn}
use Rattle.ts_wire.specs.Numbers.{FitsInt}
use Rattle.ts_wire.specs.Place.{place}
use Rattle.ts_wire.proofs.Laws.{same_ok}
use Rattle.ts_rtree.specs.Trees.{hulls_from, hulls_of, nodes_above, upper_in, upper_of}
use Rattle.ts_rtree.proofs.Likes.{like_hull}
use Rattle.ts_plain.specs.declared.stored.Side.{Side}
use Rattle.ts_plain.specs.Writes.{sides_of}
use Rattle.ts_footer.specs.TreeTexts.{leaf_at}
use Rattle.ts_footer.specs.Footers.{FitsRect}
use Rattle.ts_footer.proofs.LeafReads.{box_back}
use Rattle.ts_footer.proofs.TreeSpells.{FitsSide, FitsLeaf, leaf_exact}

-- the number has room in 16 bytes
abbrev Fits : ℤ → Type 0
Fits x = FitsInt 16 true x

-- ---- a box and its sides

turn_sides : (front : List Side) (ls hs : List ℤ) → are_bounds ls hs ≡ true → All Fits ls → All Fits hs → InTurn (λ _. FitsSide) front (sides_of ls hs)
turn_sides front [] hs e low high = tt
turn_sides front (l ∷ ls) [] e low high = tt
turn_sides front (l ∷ ls) (h ∷ hs) e low high =
    let parts = and_parts (int_le l h) (are_bounds ls hs) e in (
      (All-head Fits l ls low, (All-head Fits h hs high, parts.0)),
      turn_sides (front ++ record { low = l; high = h } ∷ []) ls hs parts.1 (All-tail Fits l ls low) (All-tail Fits h hs high),
    )

length-sides_of : (ls hs : List ℤ) → are_bounds ls hs ≡ true → length (sides_of ls hs) ≡ length ls
length-sides_of [] hs e = refl
length-sides_of (l ∷ ls) [] e = cc
length-sides_of (l ∷ ls) (h ∷ hs) e = ap suc (length-sides_of ls hs (and_parts (int_le l h) (are_bounds ls hs) e).1)

-- a box with room is between sides with room
pub rect_leaf : (hull box : SubBox) → FitsRect hull box → FitsLeaf (length hull.low) box
rect_leaf hull box fits = (
  sides_of box.low box.high,
  (
    (length-sides_of box.low box.high fits.like.valid ∙ fits.like.dims, turn_sides [] box.low box.high fits.like.valid fits.low fits.high),
    box_back box.low box.high fits.like.valid,
  ),
)

-- what is known of the box between some sides
record AreSides (sides : List Side) : Type 0 where
  bounds : are_bounds (map (λ side. side.low) sides) (map (λ side. side.high) sides) ≡ true
  low : All Fits (map (λ side. side.low) sides)
  high : All Fits (map (λ side. side.high) sides)

are_sides : (front sides : List Side) → InTurn (λ _. FitsSide) front sides → AreSides sides
are_sides front [] fits = record { bounds = refl; low = All-nil Fits; high = All-nil Fits }
are_sides front (side ∷ sides) fits =
    let rest = are_sides (front ++ side ∷ []) sides fits.1 in
    record {
      bounds = and_from (int_le side.low side.high) _ fits.0.1.1 rest.bounds;
      low = All-cons Fits side.low (map (λ side. side.low) sides) fits.0.0 rest.low;
      high = All-cons Fits side.high (map (λ side. side.high) sides) fits.0.1.0 rest.high;
    }

-- a box between sides with room has room
pub leaf_rect : (hull box : SubBox) → FitsLeaf (length hull.low) box → FitsRect hull box
leaf_rect hull box (sides, (turn, same)) =
    let all = are_sides [] sides turn.1 in
    subst (FitsRect hull) same (record {
      like = record { valid = all.bounds; dims = length-map sides (λ (side : Side). side.low) ∙ turn.0 };
      low = all.low;
      high = all.high;
    })

-- so are all boxes of a list
pub turn_rects : (hull : SubBox) (front boxes : List SubBox) → InTurn (λ _. FitsLeaf (length hull.low)) front boxes → All (FitsRect hull) boxes
turn_rects hull front [] fits = All-nil (FitsRect hull)
turn_rects hull front (b ∷ bs) fits = All-cons (FitsRect hull) b bs (leaf_rect hull b fits.0) (turn_rects hull (front ++ b ∷ []) bs fits.1)

pub rects_turn : (hull : SubBox) (front boxes : List SubBox) → All (FitsRect hull) boxes → InTurn (λ _. FitsLeaf (length hull.low)) front boxes
rects_turn hull front [] fits = tt
rects_turn hull front (b ∷ bs) fits = (rect_leaf hull b (All-head (FitsRect hull) b bs fits), rects_turn hull (front ++ b ∷ []) bs (All-tail (FitsRect hull) b bs fits))

-- two boxes with room that are spelled alike are one
pub rect_same : (hull a b : SubBox) → FitsRect hull a → FitsRect hull b → rect_bytes a ≡ rect_bytes b → a ≡ b
rect_same hull a b first second same =
    let exact = leaf_exact (length hull.low) in
    let one = exact.again a [] 0 (rect_leaf hull a first) in
    let two = exact.again b [] 0 (rect_leaf hull b second) in
    ap (λ x. x.0) (same_ok (leaf_at (length hull.low) (place (rect_bytes a ++ []) 0)) _ _ one (ap (λ text. leaf_at (length hull.low) (place (text ++ []) 0)) same ∙ two))

-- ---- hulls

least_fits : (xs ys : List ℤ) → All Fits xs → All Fits ys → All Fits (least_corner xs ys)
least_fits [] ys first second = All-nil Fits
least_fits (x ∷ xs) [] first second = All-nil Fits
least_fits (x ∷ xs) (y ∷ ys) first second =
    All-cons Fits (int_min x y) (least_corner xs ys)
    (cond_both (int_lt y x) y x Fits (λ _. All-head Fits y ys second) (λ _. All-head Fits x xs first))
    (least_fits xs ys (All-tail Fits x xs first) (All-tail Fits y ys second))

greatest_fits : (xs ys : List ℤ) → All Fits xs → All Fits ys → All Fits (greatest_corner xs ys)
greatest_fits [] ys first second = All-nil Fits
greatest_fits (x ∷ xs) [] first second = All-nil Fits
greatest_fits (x ∷ xs) (y ∷ ys) first second =
    All-cons Fits (int_max x y) (greatest_corner xs ys)
    (cond_both (int_lt y x) x y Fits (λ _. All-head Fits x xs first) (λ _. All-head Fits y ys second))
    (greatest_fits xs ys (All-tail Fits x xs first) (All-tail Fits y ys second))

hull_fits : (hull a b : SubBox) → FitsRect hull a → FitsRect hull b → FitsRect hull (hull_of a b)
hull_fits hull a b first second = record {
  like = like_hull hull a b first.like second.like;
  low = least_fits a.low b.low first.low second.low;
  high = greatest_fits a.high b.high first.high second.high;
}

hulls_from_fit : (hull : SubBox) (rest left : ℕ) (box : SubBox) (bs : List SubBox) → FitsRect hull box → All (FitsRect hull) bs → All (FitsRect hull) (hulls_from rest left box bs)
hulls_from_fit hull rest left box [] this all = All-cons (FitsRect hull) box [] this (All-nil (FitsRect hull))
hulls_from_fit hull rest zero box (b ∷ bs) this all =
    All-cons (FitsRect hull) box (hulls_from rest rest b bs) this (hulls_from_fit hull rest rest b bs (All-head (FitsRect hull) b bs all) (All-tail (FitsRect hull) b bs all))
hulls_from_fit hull rest (suc left) box (b ∷ bs) this all =
    hulls_from_fit hull rest left (hull_of box b) bs (hull_fits hull box b this (All-head (FitsRect hull) b bs all)) (All-tail (FitsRect hull) b bs all)

pub hulls_fit : (hull : SubBox) (n : ℕ) (boxes : List SubBox) → All (FitsRect hull) boxes → All (FitsRect hull) (hulls_of n boxes)
hulls_fit hull n [] all = all
hulls_fit hull n (b ∷ bs) all = hulls_from_fit hull (n - 1) (n - 1) b bs (All-head (FitsRect hull) b bs all) (All-tail (FitsRect hull) b bs all)

upper_in_fit : (hull : SubBox) (n : ℕ) (level : List SubBox) → All (FitsRect hull) level → All (FitsRect hull) (upper_in n level)
upper_in_fit hull zero level all = All-nil (FitsRect hull)
upper_in_fit hull (suc n) level all =
    let above = hulls_fit hull 10 level all in
    cond_both (nat_le (length level) 1) [] (nodes_above level ++ upper_in n (nodes_above level)) (All (FitsRect hull)) (λ few. All-nil (FitsRect hull))
    (λ many. All-append (FitsRect hull) (nodes_above level) (upper_in n (nodes_above level)) above (upper_in_fit hull n (nodes_above level) above))

-- the boxes above boxes with room have room
pub upper_fit : (hull : SubBox) (leaves : List SubBox) → All (FitsRect hull) leaves → All (FitsRect hull) (upper_of leaves)
unfolding upper_of
upper_fit hull leaves all = upper_in_fit hull (length leaves) leaves all
