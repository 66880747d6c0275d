-- The corners of cells, one cell after another.
use Rattle.std.proofs.Common.{◌≡◌, ℕ, ◌+◌, suc, ◌<◌, ℤ, Bool, true, false, cond, ◌&&◌, List, [], ◌∷◌, length, drop, get_or, refl, sym, ap, ◌∙◌, arith}
use Rattle.std.specs.Prelude.{IsTrue, int_le, int_lt}
use Rattle.std.proofs.lemmas.Bool.{and_parts, and_from}
use Rattle.std.proofs.lemmas.Int.{ints, clamps}
use Rattle.std.specs.Int.{int_min, int_max}
use Rattle.std.proofs.lemmas.List.{drop_more}
use Rattle.ts_base.specs.declared.heads.Cell.{Cell}
use Rattle.ts_domain.specs.Bounds.{are_bounds, is_between, least_corner, greatest_corner}
use Rattle.ts_domain.proofs.Between.{within_from, within_parts}
use Rattle.ts_model.specs.Commands.{least_of_cells, greatest_of_cells, low_of_cells, high_of_cells}

-- the box of one cell is a box
pub point_box : (at : List ℤ) → IsTrue (are_bounds at at)
point_box [] = refl
point_box (x ∷ at) = and_from (int_le x x) (are_bounds at at) (and_parts (int_le x x) (int_le x x) (within_from x x x (omega arith) (omega arith))).0 (point_box at)

-- of a choice between one and the same nothing depends
one_choice : (b : Bool) (x : ℤ) → cond b x x ≡ x
one_choice true x = refl
one_choice false x = refl

-- coordinates are their own least corner
least_same : (at : List ℤ) → least_corner at at ≡ at
least_same [] = refl
least_same (x ∷ at) = ap (λ y. y ∷ least_corner at at) (one_choice (int_lt x x) x) ∙ ap (λ ys. x ∷ ys) (least_same at)

-- coordinates are their own greatest corner
greatest_same : (at : List ℤ) → greatest_corner at at ≡ at
greatest_same [] = refl
greatest_same (x ∷ at) = ap (λ y. y ∷ greatest_corner at at) (one_choice _ x) ∙ ap (λ ys. x ∷ ys) (greatest_same at)

-- what lies between two corners leaves the low one as it is
pub least_inside : (ls hs xs : List ℤ) → IsTrue (is_between ls hs xs) → least_corner ls xs ≡ ls
least_inside [] hs xs t = refl
least_inside (l ∷ ls) [] xs t = cc
least_inside (l ∷ ls) (h ∷ hs) [] t = cc
least_inside (l ∷ ls) (h ∷ hs) (x ∷ xs) t =
    let parts = and_parts (int_le l x && int_le x h) (is_between ls hs xs) t in
    let here = within_parts l h x parts.0 in
    let same : int_min l x ≡ l = omega (arith, ints, clamps) in
    (λ i. same i ∷ least_inside ls hs xs parts.1 i)

-- and the high one
pub greatest_inside : (ls hs xs : List ℤ) → IsTrue (is_between ls hs xs) → greatest_corner hs xs ≡ hs
greatest_inside [] [] xs t = refl
greatest_inside [] (h ∷ hs) xs t = cc
greatest_inside (l ∷ ls) [] xs t = cc
greatest_inside (l ∷ ls) (h ∷ hs) [] t = cc
greatest_inside (l ∷ ls) (h ∷ hs) (x ∷ xs) t =
    let parts = and_parts (int_le l x && int_le x h) (is_between ls hs xs) t in
    let here = within_parts l h x parts.0 in
    let same : int_max h x ≡ h = omega (arith, ints, clamps) in
    (λ i. same i ∷ greatest_inside ls hs xs parts.1 i)

-- a corner has as many numbers as coordinates have
pub length-least_corner : (a b : List ℤ) → length b ≡ length a → length (least_corner a b) ≡ length a
length-least_corner [] b e = refl
length-least_corner (x ∷ a) [] e = cc
length-least_corner (x ∷ a) (y ∷ b) e = ap suc (length-least_corner a b (cc))

-- the least corner of all cells, counted from the first cell on
pub low_first : (cells : List Cell) (first : Cell) → 0 < length cells → first ≡ get_or cells 0 first → least_of_cells first.coords cells ≡ low_of_cells cells
low_first [] first lt is = absurd (omega arith)
low_first (cell ∷ cells) first lt is = ap (λ (c : Cell). least_of_cells (least_corner c.coords cell.coords) cells) is ∙ ap (λ corner. least_of_cells corner cells) (least_same cell.coords)

-- the greatest corner of all cells, counted from the first cell on
pub high_first : (cells : List Cell) (first : Cell) → 0 < length cells → first ≡ get_or cells 0 first → greatest_of_cells first.coords cells ≡ high_of_cells cells
high_first [] first lt is = absurd (omega arith)
high_first (cell ∷ cells) first lt is = ap (λ (c : Cell). greatest_of_cells (greatest_corner c.coords cell.coords) cells) is ∙ ap (λ corner. greatest_of_cells corner cells) (greatest_same cell.coords)

-- one cell more
module _ (cells : List Cell) (i : ℕ) (cell : Cell) (corner : List ℤ) (whole : List ℤ) (lt : i < length cells) (is : cell ≡ get_or cells i cell) where
  -- what is left begins with the cell
  left : drop i cells ≡ cell ∷ drop (i + 1) cells
  left = drop_more cells i cell lt ∙ ap (λ x. x ∷ drop (i + 1) cells) (sym is)

  -- the least corner, with that cell
  pub low_more : least_of_cells corner (drop i cells) ≡ whole → least_of_cells (least_corner corner cell.coords) (drop (i + 1) cells) ≡ whole
  low_more was = ap (least_of_cells corner) (sym left) ∙ was

  -- the greatest corner, with that cell
  pub high_more : greatest_of_cells corner (drop i cells) ≡ whole → greatest_of_cells (greatest_corner corner cell.coords) (drop (i + 1) cells) ≡ whole
  high_more was = ap (greatest_of_cells corner) (sym left) ∙ was

  -- the least corner, where that cell leaves it as it is
  pub low_stays : least_corner corner cell.coords ≡ corner → least_of_cells corner (drop i cells) ≡ whole → least_of_cells corner (drop (i + 1) cells) ≡ whole
  low_stays same was = ap (λ c. least_of_cells c (drop (i + 1) cells)) (sym same) ∙ low_more was

  -- the greatest corner, where that cell leaves it as it is
  pub high_stays : greatest_corner corner cell.coords ≡ corner → greatest_of_cells corner (drop i cells) ≡ whole → greatest_of_cells corner (drop (i + 1) cells) ≡ whole
  high_stays same was = ap (λ c. greatest_of_cells c (drop (i + 1) cells)) (sym same) ∙ high_more was
