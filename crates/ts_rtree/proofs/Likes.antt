-- Boxes of as many dimensions, and their hulls.
use Rattle.std.proofs.Common.{◌≡◌, ℕ, zero, suc, ◌-◌, ◌<◌, ◌≤◌, List, [], ◌∷◌, ◌++◌, length, refl, ap, sym, ◌∙◌, arith, ℤ}
use Rattle.std.specs.Prelude.{nat_le}
use Rattle.std.proofs.lemmas.Bool.{cond_both}
use Rattle.std.specs.List.{All}
use Rattle.std.proofs.lemmas.List.Elements.{All-cons, All-head, All-tail, All-append, All-nil, All-weaker}
use Rattle.ts_domain.specs.declared.boxes.SubBox.{SubBox}
use Rattle.ts_domain.specs.Bounds.{least_corner}
use Rattle.ts_domain.specs.Boxes.{IsBox, hull_of}
use Rattle.ts_domain.proofs.BoxLemmas.{IsBox-hull_of}
use Rattle.ts_domain.specs.Rects.{IsLike}
use Rattle.std.proofs.Common.{take, length-append, subst, ◌^◌}
use Rattle.std.proofs.lemmas.List.{take_at}
use Rattle.ts_rtree.specs.Trees.{hulls_from, hulls_of, nodes_above, upper_in, upper_of, nodes_of, IsTree}
use Rattle.ts_domain.specs.Rects.{AllLike}

length-least_corner : (xs ys : List ℤ) → length ys ≡ length xs → length (least_corner xs ys) ≡ length xs
length-least_corner [] ys e = refl
length-least_corner (x ∷ xs) [] e = absurd (omega arith)
length-least_corner (x ∷ xs) (y ∷ ys) e = ap suc (length-least_corner xs ys (omega arith))

-- the hull of two boxes is like both
pub like_hull : (sub a b : SubBox) → IsLike sub a → IsLike sub b → IsLike sub (hull_of a b)
like_hull sub a b this that =
    let same : length b.low ≡ length a.low = that.dims ∙ sym this.dims in
    record { valid = IsBox-hull_of a b this.valid that.valid same; dims = length-least_corner a.low b.low same ∙ this.dims }

-- what is like one box is like another that is like it
pub like_other : (a b : SubBox) (boxes : List SubBox) → IsLike a b → All (IsLike a) boxes → All (IsLike b) boxes
like_other a b boxes this all = All-weaker (IsLike a) (IsLike b) (λ x like. record { valid = like.valid; dims = like.dims ∙ sym this.dims }) boxes all

hulls_from-like : (sub : SubBox) (rest left : ℕ) (hull : SubBox) (bs : List SubBox) → IsLike sub hull → All (IsLike sub) bs → All (IsLike sub) (hulls_from rest left hull bs)
hulls_from-like sub rest left hull [] this all = All-cons (IsLike sub) hull [] this (All-nil (IsLike sub))
hulls_from-like sub rest zero hull (b ∷ bs) this all =
    All-cons (IsLike sub) hull (hulls_from rest rest b bs) this (hulls_from-like sub rest rest b bs (All-head (IsLike sub) b bs all) (All-tail (IsLike sub) b bs all))
hulls_from-like sub rest (suc left) hull (b ∷ bs) this all =
    hulls_from-like sub rest left (hull_of hull b) bs (like_hull sub hull b this (All-head (IsLike sub) b bs all)) (All-tail (IsLike sub) b bs all)

pub hulls_of-like : (sub : SubBox) (n : ℕ) (boxes : List SubBox) → All (IsLike sub) boxes → All (IsLike sub) (hulls_of n boxes)
hulls_of-like sub n [] all = all
hulls_of-like sub n (b ∷ bs) all = hulls_from-like sub (n - 1) (n - 1) b bs (All-head (IsLike sub) b bs all) (All-tail (IsLike sub) b bs all)

upper_in-like : (sub : SubBox) (n : ℕ) (level : List SubBox) → All (IsLike sub) level → All (IsLike sub) (upper_in n level)
upper_in-like sub zero level all = All-nil (IsLike sub)
upper_in-like sub (suc n) level all =
    let above = hulls_of-like sub 10 level all in
    cond_both (nat_le (length level) 1) [] (nodes_above level ++ upper_in n (nodes_above level)) (All (IsLike sub)) (λ few. All-nil (IsLike sub))
    (λ many. All-append (IsLike sub) (nodes_above level) (upper_in n (nodes_above level)) above (upper_in-like sub n (nodes_above level) above))

pub nodes_of-like : (sub : SubBox) (level : List SubBox) → All (IsLike sub) level → All (IsLike sub) (nodes_of level)
unfolding upper_of
nodes_of-like sub level all = All-append (IsLike sub) level (upper_of level) all (upper_in-like sub (length level) level all)

-- the boxes over some leaves are a tree
pub is_tree : (leaves boxes : List SubBox) (count : ℕ) → 1 ≤ length leaves → length leaves < 2 ^ 32 → AllLike leaves → boxes ≡ nodes_of leaves → count ≡ length leaves → IsTree count boxes
is_tree leaves boxes count some few (sub, like) is counted =
    let first : take count boxes ≡ leaves = ap (take count) is ∙ take_at leaves (upper_of leaves) count (sym counted) in
    let all : All IsBox (nodes_of leaves) = All-weaker (IsLike sub) IsBox (λ x like. like.valid) (nodes_of leaves) (nodes_of-like sub leaves like) in
    let long = ap length is ∙ length-append leaves (upper_of leaves) in
    record {
      some = omega arith;
      few = omega arith;
      within = omega arith;
      levels = is ∙ ap nodes_of (sym first);
      valid = subst (All IsBox) (sym is) all;
    }
