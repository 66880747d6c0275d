-- What is read of a tree is its spelling, and nothing else.
use Rattle.std.proofs.Common.{◌≡◌, ℕ, true, ◌&&◌, int_le, List, [], ◌∷◌, ◌++◌, length, map, refl, ap, ◌∙◌, arith, append_assoc, lit≤}
use Rattle.std.specs.Prelude.{zip}
use Rattle.std.specs.List.{flat_map}
use Rattle.std.proofs.lemmas.Bool.{and_parts}
use Rattle.ts_domain.specs.declared.boxes.SubBox.{SubBox}
use Rattle.ts_domain.specs.Rects.{wide_bytes, rect_bytes}
use Rattle.ts_wire.specs.Exact.{Exact, EachFits}
use Rattle.ts_wire.specs.Numbers.{int_bytes, number_bytes, FitsInt}
use Rattle.ts_wire.proofs.Laws.{AreBytes, AreInTurn, bytes_exact, ruled_exact, both_exact, mapped_exact, items_exact, each_exact}
use Rattle.ts_wire.proofs.Numbers.{int_exact}
use Rattle.ts_plain.specs.declared.stored.Side.{Side}
use Rattle.ts_footer.specs.TreeTexts.{are_same, same_at, bounds_at, leaf_at, leaves_at, fields_of, topped, boxes_at}
use Rattle.ts_plain.specs.Writes.{box_of}
use Rattle.ts_footer.proofs.Sames.{is_same_true}
use Rattle.ts_footer.proofs.TreeReads.{joined}

-- ---- the boxes of tiles

abbrev pub FitsSide : Side → Type 0
FitsSide side = FitsInt 16 true side.low × (FitsInt 16 true side.high × (int_le side.low side.high ≡ true))

abbrev side_text : Side → List ℕ
side_text side = int_bytes 16 side.low ++ int_bytes 16 side.high

bounds_exact : Exact FitsSide side_text bounds_at
unfolding bounds_at
bounds_exact =
    mapped_exact (both_exact (int_exact 16 true (lit≤ tt) (lit≤ tt)) (λ low _. ruled_exact (int_le low) (int_exact 16 true (lit≤ tt) (lit≤ tt)))) (record {
      there = λ x fits. (fits, refl);
      back = λ side fits. ((side.low, side.high), fits, refl, refl);
    })

-- bounds are spelled as the box between them
sides_spell : (sides : List Side) → flat_map side_text sides ≡ rect_bytes (box_of sides)
unfolding rect_bytes int_bytes number_bytes
sides_spell [] = refl
sides_spell (s ∷ sides) =
    append_assoc (wide_bytes s.low) (wide_bytes s.high) (flat_map side_text sides) ∙ ap (λ rest. wide_bytes s.low ++ (wide_bytes s.high ++ rest)) (sides_spell sides)

-- it is between so many bounds that fit
abbrev pub FitsLeaf : ℕ → SubBox → Type 0
FitsLeaf n box = (sides : List Side) × (AreInTurn (λ _. FitsSide) n [] sides × (box_of sides ≡ box))

pub leaf_exact : (n : ℕ) → Exact (FitsLeaf n) rect_bytes (leaf_at n)
unfolding leaf_at
leaf_exact n = mapped_exact (items_exact (λ _. bounds_exact) n []) (record {
  there = λ sides fits. ((sides, (fits, refl)), sides_spell sides);
  back = λ box fits. (fits.0, fits.1.0, fits.1.1, sides_spell fits.0 ∙ ap rect_bytes fits.1.1);
})

pub leaves_exact : (n count : ℕ) → Exact (AreInTurn (λ _. FitsLeaf n) count []) (flat_map rect_bytes) (leaves_at n count)
unfolding leaves_at
leaves_exact n count = items_exact (λ _. leaf_exact n) count []

-- ---- the boxes above them

abbrev pub FitsSame : List ℕ × List ℕ → List ℕ → Type 0
FitsSame e bytes = AreBytes 16 bytes × (are_same bytes e.0 && are_same bytes e.1 ≡ true)

same_exact : (e : List ℕ × List ℕ) → Exact (FitsSame e) (λ bytes. bytes) (same_at e)
unfolding same_at
same_exact e = ruled_exact (λ bytes. are_same bytes e.0 && are_same bytes e.1) (bytes_exact 16)

pub boxes_exact : (hull : SubBox) (boxes : List SubBox) → Exact (EachFits FitsSame (zip (fields_of boxes) (fields_of (topped hull boxes)))) joined (boxes_at hull boxes)
unfolding boxes_at
boxes_exact hull boxes = each_exact same_exact (zip (fields_of boxes) (fields_of (topped hull boxes)))

-- the fields that fit are those that have to be there
pub fields_are : (es : List (List ℕ × List ℕ)) (xs : List (List ℕ)) → EachFits FitsSame es xs → xs ≡ map (λ e. e.0) es
fields_are [] [] fits = refl
fields_are [] (x ∷ xs) fits = absurd fits
fields_are (e ∷ es) [] fits = absurd fits
fields_are (e ∷ es) (x ∷ xs) (first, others) =
    let here = is_same_true x e.0 (and_parts (are_same x e.0) (are_same x e.1) first.1).0 in
    ap (λ y. y ∷ xs) here ∙ ap (λ ys. e.0 ∷ ys) (fields_are es xs others)

pub map-zip : (xs ys : List (List ℕ)) → length ys ≡ length xs → map (λ e. e.0) (zip xs ys) ≡ xs
map-zip [] ys e = refl
map-zip (x ∷ xs) [] e = absurd (omega arith)
map-zip (x ∷ xs) (y ∷ ys) e = ap (λ zs. x ∷ zs) (map-zip xs ys (omega arith))
