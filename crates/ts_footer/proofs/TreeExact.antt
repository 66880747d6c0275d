-- The tree over the tiles is read exactly: each spelling that fits, and nothing else.
use Rattle.std.proofs.Common.{◌≡◌, ℕ, suc, ◌-◌, ◌≤◌, Bool, true, false, nat_eq, List, [], ◌∷◌, ◌++◌, length, map, Some, refl, sym, ap, subst, ◌∙◌, arith, length-append, ℤ}
use Rattle.std.specs.Prelude.{zip, if◌then◌else◌, slice_get}
use Rattle.std.specs.List.{All, flat_map}
use Rattle.std.proofs.lemmas.Bool.{and_parts, and_from, eqb-true, eq-eqb, eqb-false}
use Rattle.std.proofs.lemmas.Option.{same_Some}
use Rattle.std.proofs.lemmas.List.{append-nil, append_cancel_left}
use Rattle.std.proofs.lemmas.List.Concat.{flat_map-append}
use Rattle.std.proofs.lemmas.List.Elements.{All-nil, All-cons, All-head, All-tail, All-append, All-weaker}
use Rattle.std.specs.Int.{w128}
use Rattle.byteorder.specs.Endian.{low_bytes}
use Rattle.ts_domain.specs.declared.boxes.SubBox.{SubBox}
use Rattle.ts_domain.specs.Boxes.{IsBox}
use Rattle.ts_domain.specs.Rects.{IsLike, wide_bytes, rect_bytes}
use Rattle.ts_wire.specs.Exact.{IsBytes, Exact, EachFits}
use Rattle.ts_wire.proofs.Laws.{mapped_exact, both_exact}
use Rattle.ts_wire.proofs.Numbers.{IsBytes-number}
use Rattle.ts_rtree.specs.Trees.{Rooted, nodes_above, nodes_of, upper_of}
use Rattle.ts_rtree.proofs.Levels.{upper_of_one, upper_of_more, length-nodes_above}
use Rattle.ts_plain.specs.Rules.{last_of}
use Rattle.ts_footer.specs.TreeTexts.{are_same, side_fields, box_fields, fields_of, topped, rooted, one_at, many_at, tree_at}
use Rattle.ts_footer.specs.Footers.{FitsRect, FitsTree}
use Rattle.ts_footer.proofs.Sames.{is_same_true}
use Rattle.ts_footer.proofs.TreeReads.{IsWide, fields_wide, joined, fields_joined, as_long, length-topped, text_fields}
use Rattle.ts_footer.proofs.TreeSpells.{FitsSame, leaves_exact, boxes_exact, fields_are, map-zip}
use Rattle.ts_footer.proofs.Rects.{turn_rects, rects_turn, rect_same, upper_fit}

-- ---- the last of a list

last_more : (b c : SubBox) (bs : List SubBox) → last_of (b ∷ (c ∷ bs)) ≡ last_of (c ∷ bs)
last_more b c bs = let next : length (b ∷ (c ∷ bs)) - 1 ≡ suc (length (c ∷ bs) - 1) = omega arith in ap (slice_get (b ∷ (c ∷ bs))) next

last_behind : (xs ys : List SubBox) → 1 ≤ length ys → last_of (xs ++ ys) ≡ last_of ys
last_behind [] ys some = refl
last_behind (x ∷ []) [] some = absurd (omega arith)
last_behind (x ∷ []) (y ∷ ys) some = last_more x y ys
last_behind (x ∷ (z ∷ xs)) ys some = last_more x z (xs ++ ys) ∙ last_behind (z ∷ xs) ys some

-- boxes that end in the hull have it as their last one
topped_same : (hull : SubBox) (boxes : List SubBox) → last_of boxes ≡ Some hull → topped hull boxes ≡ boxes
topped_same hull [] last = refl
topped_same hull (b ∷ []) last = ap (λ x. x ∷ []) (sym (same_Some b hull last))
topped_same hull (b ∷ (c ∷ bs)) last = ap (λ xs. b ∷ xs) (topped_same hull (c ∷ bs) (sym (last_more b c bs) ∙ last))

-- boxes whose fields are those with the hull as the last one end in the hull
top_is : (hull : SubBox) (boxes : List SubBox) → 1 ≤ length boxes → FitsRect hull hull → All (FitsRect hull) boxes → fields_of boxes ≡ fields_of (topped hull boxes) → last_of boxes ≡ Some hull
top_is hull [] some valid all same = absurd (omega arith)
top_is hull (b ∷ []) some valid all same =
    let text : rect_bytes b ++ [] ≡ rect_bytes hull ++ [] = sym (fields_joined (b ∷ [])) ∙ ap joined same ∙ fields_joined (hull ∷ []) in
    let bytes : rect_bytes b ≡ rect_bytes hull = sym (append-nil (rect_bytes b)) ∙ text ∙ append-nil (rect_bytes hull) in
    ap Some (rect_same hull b hull (All-head (FitsRect hull) b [] all) valid bytes)
top_is hull (b ∷ (c ∷ bs)) some valid all same =
    last_more b c bs
    ∙ top_is hull (c ∷ bs) (omega arith) valid (All-tail (FitsRect hull) b (c ∷ bs) all) (append_cancel_left (box_fields b) (fields_of (c ∷ bs)) (fields_of (topped hull (c ∷ bs))) same)

-- ---- fields that are known

same_self : (bytes : List ℕ) → are_same bytes bytes ≡ true
same_self [] = refl
same_self (x ∷ xs) = and_from (nat_eq x x) (are_same xs xs) (eq-eqb x x refl) (same_self xs)

side_bytes_are : (ls hs : List ℤ) → All IsBytes (side_fields ls hs)
side_bytes_are [] hs = All-nil IsBytes
side_bytes_are (l ∷ ls) [] = All-nil IsBytes
side_bytes_are (l ∷ ls) (h ∷ hs) =
    All-cons IsBytes (wide_bytes l) (wide_bytes h ∷ side_fields ls hs) (IsBytes-number 0 16 (low_bytes w128 16 l))
    (All-cons IsBytes (wide_bytes h) (side_fields ls hs) (IsBytes-number 0 16 (low_bytes w128 16 h)) (side_bytes_are ls hs))

fields_bytes : (boxes : List SubBox) → All IsBytes (fields_of boxes)
fields_bytes [] = All-nil IsBytes
fields_bytes (b ∷ bs) = All-append IsBytes (box_fields b) (fields_of bs) (side_bytes_are b.low b.high) (fields_bytes bs)

-- fields that have to be themselves fit
each_twin : (fields : List (List ℕ)) → All IsWide fields → All IsBytes fields → EachFits FitsSame (zip fields fields) fields
each_twin [] wide all = tt
each_twin (f ∷ fields) wide all = (
  ((All-head IsWide f fields wide, All-head IsBytes f fields all), and_from (are_same f f) (are_same f f) (same_self f) (same_self f)),
  each_twin fields (All-tail IsWide f fields wide) (All-tail IsBytes f fields all),
)

twin_fields : (boxes : List SubBox) → EachFits FitsSame (zip (fields_of boxes) (fields_of boxes)) (fields_of boxes)
twin_fields boxes = each_twin (fields_of boxes) (fields_wide boxes) (fields_bytes boxes)

-- the fields that fit are the second ones too
fields_too : (es : List (List ℕ × List ℕ)) (xs : List (List ℕ)) → EachFits FitsSame es xs → xs ≡ map (λ e. e.1) es
fields_too [] [] fits = refl
fields_too [] (x ∷ xs) fits = absurd fits
fields_too (e ∷ es) [] fits = absurd fits
fields_too (e ∷ es) (x ∷ xs) (first, others) =
    let here = is_same_true x e.1 (and_parts (are_same x e.0) (are_same x e.1) first.1).1 in
    ap (λ y. y ∷ xs) here ∙ ap (λ ys. e.1 ∷ ys) (fields_too es xs others)

map-zip_too : (xs ys : List (List ℕ)) → length ys ≡ length xs → map (λ e. e.1) (zip xs ys) ≡ ys
map-zip_too [] [] e = refl
map-zip_too [] (y ∷ ys) e = absurd (omega arith)
map-zip_too (x ∷ xs) [] e = absurd (omega arith)
map-zip_too (x ∷ xs) (y ∷ ys) e = ap (λ zs. y ∷ zs) (map-zip_too xs ys (omega arith))

-- the hull in the place of the last box does not change how many fields there are
length-topped_fields : (hull : SubBox) (boxes : List SubBox) → IsBox hull → All (IsLike hull) boxes → length (fields_of (topped hull boxes)) ≡ length (fields_of boxes)
length-topped_fields hull boxes valid like =
    let long = length-topped hull boxes (as_long hull boxes valid like) in
    omega (arith, long, text_fields boxes (flat_map rect_bytes boxes) refl, text_fields (topped hull boxes) (flat_map rect_bytes (topped hull boxes)) refl)

-- ---- whole trees

-- the spelling of a tree
abbrev pub tree_text : Rooted → List ℕ
tree_text tree = flat_map rect_bytes (nodes_of tree.leaves)

some_above : (leaves : List SubBox) → 2 ≤ length leaves → 1 ≤ length (upper_of leaves)
some_above leaves two =
    let above = ap length (upper_of_more leaves two) in
    let whole = length-append (nodes_above leaves) (upper_of (nodes_above leaves)) in
    let tenth = length-nodes_above leaves in
    omega (arith, above, whole, tenth)

one_exact : (hull : SubBox) → FitsRect hull hull → Exact (FitsTree hull 1) tree_text (one_at hull)
unfolding one_at
one_exact hull valid = mapped_exact (boxes_exact hull (hull ∷ [])) (record {
  there = λ fields fits.
      let known = fields_are (zip (fields_of (hull ∷ [])) (fields_of (hull ∷ []))) fields fits ∙ map-zip (fields_of (hull ∷ [])) (fields_of (hull ∷ [])) refl in (
        record {
          fresh = refl;
          many = refl;
          leaves = All-cons (FitsRect hull) hull [] valid (All-nil (FitsRect hull));
          top = ap (λ upper. last_of (hull ∷ upper)) (upper_of_one (hull ∷ []) (omega arith));
        },
        ap joined known ∙ fields_joined (hull ∷ []) ∙ sym (ap (λ upper. flat_map rect_bytes (hull ∷ upper)) (upper_of_one (hull ∷ []) (omega arith))),
      );
  back = λ tree fits.
      let leaf = one_leaf tree.leaves fits.many fits.top in (
        fields_of (hull ∷ []),
        twin_fields (hull ∷ []),
        ap rooted (sym leaf) ∙ sym fits.fresh,
        fields_joined (hull ∷ []) ∙ sym (ap (λ leaves. flat_map rect_bytes (nodes_of leaves)) leaf ∙ ap (λ upper. flat_map rect_bytes (hull ∷ upper)) (upper_of_one (hull ∷ []) (omega arith))),
      );
})
  where
    one_leaf : (leaves : List SubBox) → length leaves ≡ 1 → last_of (nodes_of leaves) ≡ Some hull → leaves ≡ hull ∷ []
    one_leaf [] many top = absurd (omega arith)
    one_leaf (b ∷ []) many top =
        let last : last_of (b ∷ []) ≡ Some hull = sym (ap (λ upper. last_of (b ∷ upper)) (upper_of_one (b ∷ []) (omega arith))) ∙ top in
        ap (λ x. x ∷ []) (same_Some b hull last)
    one_leaf (b ∷ (c ∷ bs)) many top = absurd (omega arith)

many_exact : (hull : SubBox) (tiles : ℕ) → 2 ≤ tiles → FitsRect hull hull → Exact (FitsTree hull tiles) tree_text (many_at hull tiles)
unfolding many_at
many_exact hull tiles two valid = mapped_exact (both_exact (leaves_exact (length hull.low) tiles) (λ leaves _. boxes_exact hull (upper_of leaves))) (record {
  there = λ x fits.
      let leaves = x.0 in
      let upper = upper_of leaves in
      let rects = turn_rects hull [] leaves fits.0.1 in
      let above = upper_fit hull leaves rects in
      let like = All-weaker (FitsRect hull) (IsLike hull) (λ box is. is.like) upper above in
      let long = length-topped_fields hull upper valid.like.valid like in
      let es = zip (fields_of upper) (fields_of (topped hull upper)) in
      let known = fields_are es x.1 fits.1 ∙ map-zip (fields_of upper) (fields_of (topped hull upper)) long in
      let too = fields_too es x.1 fits.1 ∙ map-zip_too (fields_of upper) (fields_of (topped hull upper)) long in
      let some = some_above leaves (subst (λ n. 2 ≤ n) (sym fits.0.0) two) in (
        record {
          fresh = refl;
          many = fits.0.0;
          leaves = rects;
          top = last_behind leaves upper some ∙ top_is hull upper some valid above (sym known ∙ too);
        },
        ap (λ fields. flat_map rect_bytes leaves ++ joined fields) known ∙ spelled leaves,
      );
  back = λ tree fits.
      let upper = upper_of tree.leaves in
      let some = some_above tree.leaves (subst (λ n. 2 ≤ n) (sym fits.many) two) in
      let last = sym (last_behind tree.leaves upper some) ∙ fits.top in
      let top = topped_same hull upper last in (
        (tree.leaves, fields_of upper),
        ((fits.many, rects_turn hull [] tree.leaves fits.leaves), subst (λ boxes. EachFits FitsSame (zip (fields_of upper) (fields_of boxes)) (fields_of upper)) (sym top) (twin_fields upper)),
        sym fits.fresh,
        spelled tree.leaves,
      );
})
  where
    spelled : (leaves : List SubBox) → flat_map rect_bytes leaves ++ joined (fields_of (upper_of leaves)) ≡ flat_map rect_bytes (nodes_of leaves)
    spelled leaves = ap (λ text. flat_map rect_bytes leaves ++ text) (fields_joined (upper_of leaves)) ∙ sym (flat_map-append rect_bytes leaves (upper_of leaves))

-- each spelling of a tree over some tiles is read, and nothing else
pub tree_exact : (hull : SubBox) (tiles : ℕ) → 1 ≤ tiles → FitsRect hull hull → Exact (FitsTree hull tiles) tree_text (tree_at hull tiles)
unfolding many_at one_at
tree_exact hull tiles some valid = by_count (nat_eq tiles 1) refl
  where
    by_count : (b : Bool) → nat_eq tiles 1 ≡ b → Exact (FitsTree hull tiles) tree_text (if b then one_at hull else many_at hull tiles)
    by_count true e = subst (λ n. Exact (FitsTree hull n) tree_text (one_at hull)) (sym (eqb-true tiles 1 e)) (one_exact hull valid)
    by_count false e = let other = eqb-false tiles 1 e in many_exact hull tiles (omega (arith, some, other)) valid
