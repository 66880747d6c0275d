-- How boxes are spelled field by field, and what the fields of the boxes above the leaves have to be.
use Rattle.std.proofs.Common.{◌≡◌, ℕ, zero, suc, ◌+◌, ◌-◌, ◌*◌, ◌/◌, ◌≤◌, ℤ, List, [], ◌∷◌, ◌++◌, length, get_or, take, drop, Ok, Err, refl, sym, ap, ◌∙◌, subst, arith, append_assoc, length-append, length-drop}
use Rattle.std.specs.Prelude.{zip}
use Rattle.std.specs.List.{All, flat_map}
use Rattle.std.specs.Simd.{first_chunks}
use Rattle.std.specs.Int.{w128}
use Rattle.std.proofs.lemmas.List.{append-nil, take_at, drop_at, take_all}
use Rattle.std.proofs.lemmas.List.Concat.{flat_map-append}
use Rattle.std.proofs.lemmas.List.Elements.{All-nil, All-cons, All-head, All-tail, All-append}
use Rattle.byteorder.specs.Endian.{low_bytes}
use Rattle.ts_domain.specs.declared.boxes.SubBox.{SubBox}
use Rattle.ts_domain.specs.Boxes.{IsBox}
use Rattle.ts_domain.specs.Rects.{IsLike, wide_bytes, sides_bytes, rect_bytes}
use Rattle.ts_domain.proofs.Between.{length-are_bounds}
use Rattle.ts_wire.specs.Numbers.{number_bytes}
use Rattle.ts_wire.specs.Place.{Place, ◌>>=◌, both, each_at}
use Rattle.ts_wire.proofs.Numbers.{length-number_bytes}
use Rattle.ts_rtree.specs.Trees.{Rooted, nodes_above, upper_of, nodes_of}
use Rattle.ts_rtree.proofs.Levels.{upper_of_more, length-nodes_above}
use Rattle.ts_rtree.proofs.Likes.{nodes_of-like}
use Rattle.ts_footer.specs.TreeTexts.{side_fields, box_fields, fields_of, topped, same_at, leaves_at, boxes_at, rooted, one_at, many_at}

-- the spelling of one box
pub one_spelled : (box : SubBox) → flat_map rect_bytes (box ∷ []) ≡ rect_bytes box
one_spelled box = append-nil (rect_bytes box)

-- ---- fields

abbrev pub IsWide : List ℕ → Type 0
IsWide field = length field ≡ 16

is_wide : (x : ℤ) → IsWide (wide_bytes x)
unfolding number_bytes
is_wide x = length-number_bytes 16 (low_bytes w128 16 x)

sides_wide : (ls hs : List ℤ) → All IsWide (side_fields ls hs)
sides_wide [] hs = All-nil IsWide
sides_wide (l ∷ ls) [] = All-nil IsWide
sides_wide (l ∷ ls) (h ∷ hs) =
    All-cons IsWide (wide_bytes l) (wide_bytes h ∷ side_fields ls hs) (is_wide l) (All-cons IsWide (wide_bytes h) (side_fields ls hs) (is_wide h) (sides_wide ls hs))

pub fields_wide : (boxes : List SubBox) → All IsWide (fields_of boxes)
fields_wide [] = All-nil IsWide
fields_wide (b ∷ bs) = All-append IsWide (box_fields b) (fields_of bs) (sides_wide b.low b.high) (fields_wide bs)

-- the fields one after the other
abbrev pub joined : List (List ℕ) → List ℕ
joined fields = flat_map (λ field. field) fields

sides_joined : (ls hs : List ℤ) → joined (side_fields ls hs) ≡ sides_bytes ls hs
sides_joined [] hs = refl
sides_joined (l ∷ ls) [] = refl
sides_joined (l ∷ ls) (h ∷ hs) = ap (λ rest. wide_bytes l ++ (wide_bytes h ++ rest)) (sides_joined ls hs)

pub fields_joined : (boxes : List SubBox) → joined (fields_of boxes) ≡ flat_map rect_bytes boxes
unfolding rect_bytes
fields_joined [] = refl
fields_joined (b ∷ bs) =
    flat_map-append (λ field. field) (box_fields b) (fields_of bs) ∙ ap (λ front. front ++ joined (fields_of bs)) (sides_joined b.low b.high) ∙ ap (λ rest. sides_bytes b.low b.high ++ rest) (fields_joined bs)

-- fields of 16 bytes are the chunks of their text
chunks_joined : (fields : List (List ℕ)) → All IsWide fields → first_chunks 16 (length fields) (joined fields) ≡ fields
chunks_joined [] all = refl
chunks_joined (f ∷ fields) all =
    let wide : length f ≡ 16 = All-head IsWide f fields all in
    ap (λ x. x ∷ first_chunks 16 (length fields) (drop 16 (f ++ joined fields))) (take_at f (joined fields) 16 wide)
    ∙ ap (λ rest. f ∷ first_chunks 16 (length fields) rest) (drop_at f (joined fields) 16 wide)
    ∙ ap (λ more. f ∷ more) (chunks_joined fields (All-tail IsWide f fields all))

length-joined : (fields : List (List ℕ)) → All IsWide fields → length (joined fields) ≡ 16 * length fields
length-joined [] all = refl
length-joined (f ∷ fields) all = omega (arith, length-append f (joined fields), All-head IsWide f fields all, length-joined fields (All-tail IsWide f fields all))

-- ---- how long spellings are

-- a box of n dimensions takes 32 bytes along each
length-sides_bytes : (ls hs : List ℤ) → length hs ≡ length ls → length (sides_bytes ls hs) ≡ 32 * length ls
length-sides_bytes [] hs e = refl
length-sides_bytes (l ∷ ls) [] e = absurd (omega arith)
length-sides_bytes (l ∷ ls) (h ∷ hs) e =
    omega (
      arith,
      length-append (wide_bytes l) (wide_bytes h ++ sides_bytes ls hs),
      length-append (wide_bytes h) (sides_bytes ls hs),
      is_wide l,
      is_wide h,
      length-sides_bytes ls hs (omega arith),
    )

pub length-rect_bytes : (box : SubBox) → IsBox box → length (rect_bytes box) ≡ 32 * length box.low
unfolding rect_bytes
length-rect_bytes box valid = length-sides_bytes box.low box.high (length-are_bounds box.low box.high valid)

-- each box takes as many bytes as the hull
abbrev AreAsLong : ℕ → List SubBox → Type 0
AreAsLong width boxes = All (λ b. length (rect_bytes b) ≡ width) boxes

pub as_long : (hull : SubBox) (boxes : List SubBox) → IsBox hull → All (IsLike hull) boxes → AreAsLong (length (rect_bytes hull)) boxes
as_long hull boxes valid like i d within =
    let is = like i d within in
    length-rect_bytes (get_or boxes i d) is.valid ∙ ap (λ n. 32 * n) is.dims ∙ sym (length-rect_bytes hull valid)

length-boxes : (width : ℕ) (boxes : List SubBox) → AreAsLong width boxes → length (flat_map rect_bytes boxes) ≡ length boxes * width
length-boxes width [] long = omega arith
length-boxes width (b ∷ bs) long =
    let whole = length-append (rect_bytes b) (flat_map rect_bytes bs) in
    let here : length (rect_bytes b) ≡ width = All-head (λ b. length (rect_bytes b) ≡ width) b bs long in
    let rest : length (flat_map rect_bytes bs) ≡ length bs * width = length-boxes width bs (All-tail (λ b. length (rect_bytes b) ≡ width) b bs long) in
    omega arith

-- ---- the hull in the place of the last box

topped_text : (hull : SubBox) (boxes : List SubBox) → 1 ≤ length boxes → AreAsLong (length (rect_bytes hull)) boxes
    → take (length (flat_map rect_bytes boxes) - length (rect_bytes hull)) (flat_map rect_bytes boxes) ++ rect_bytes hull ≡ flat_map rect_bytes (topped hull boxes)
topped_text hull [] some long = absurd (omega arith)
topped_text hull (b ∷ []) some long =
    let here : length (rect_bytes b) ≡ length (rect_bytes hull) = All-head (λ b. length (rect_bytes b) ≡ length (rect_bytes hull)) b [] long in
    let none : length (rect_bytes b ++ []) - length (rect_bytes hull) ≡ 0 = omega (arith, ap length (append-nil (rect_bytes b))) in
    ap (λ n. take n (rect_bytes b ++ []) ++ rect_bytes hull) none ∙ sym (append-nil (rect_bytes hull))
topped_text hull (b ∷ (c ∷ bs)) some long =
    let width = length (rect_bytes hull) in
    let rest = flat_map rect_bytes (c ∷ bs) in
    let here : length (rect_bytes b) ≡ width = All-head (λ b. length (rect_bytes b) ≡ width) b (c ∷ bs) long in
    let others = All-tail (λ b. length (rect_bytes b) ≡ width) b (c ∷ bs) long in
    let all : length rest ≡ length (c ∷ bs) * width = length-boxes width (c ∷ bs) others in
    let enough : width ≤ length rest = subst (λ n. width ≤ n) (sym all) (more_than (length bs)) in
    let left : length (rect_bytes b ++ rest) - width ≡ length (rect_bytes b) + (length rest - width) = omega (arith, length-append (rect_bytes b) rest) in
    ap (λ n. take n (rect_bytes b ++ rest) ++ rect_bytes hull) left
    ∙ ap (λ text. text ++ rect_bytes hull) (take_past (rect_bytes b) rest (length rest - width))
    ∙ append_assoc (rect_bytes b) (take (length rest - width) rest) (rect_bytes hull)
    ∙ ap (λ text. rect_bytes b ++ text) (topped_text hull (c ∷ bs) (omega arith) others)
  where
    more_than : (n : ℕ) → length (rect_bytes hull) ≤ suc n * length (rect_bytes hull)
    more_than n = omega arith

    take_past : (xs ys : List ℕ) (n : ℕ) → take (length xs + n) (xs ++ ys) ≡ xs ++ take n ys
    take_past [] ys n = ap (λ k. take k ys) (omega arith)
    take_past (x ∷ xs) ys n =
        let more : length (x ∷ xs) + n ≡ suc (length xs + n) = omega arith in
        ap (λ k. take k (x ∷ (xs ++ ys))) more ∙ ap (λ zs. x ∷ zs) (take_past xs ys n)

pub length-topped : (hull : SubBox) (boxes : List SubBox) → AreAsLong (length (rect_bytes hull)) boxes → length (flat_map rect_bytes (topped hull boxes)) ≡ length (flat_map rect_bytes boxes)
length-topped hull [] long = refl
length-topped hull (b ∷ []) long =
    omega (arith, length-append (rect_bytes hull) [], length-append (rect_bytes b) [], All-head (λ b. length (rect_bytes b) ≡ length (rect_bytes hull)) b [] long)
length-topped hull (b ∷ (c ∷ bs)) long =
    length-append (rect_bytes b) (flat_map rect_bytes (topped hull (c ∷ bs)))
    ∙ ap (λ n. length (rect_bytes b) + n) (length-topped hull (c ∷ bs) (All-tail (λ b. length (rect_bytes b) ≡ length (rect_bytes hull)) b (c ∷ bs) long))
    ∙ sym (length-append (rect_bytes b) (flat_map rect_bytes (c ∷ bs)))

-- ---- boxes that are read field by field

-- the texts of boxes, and of the boxes with the hull as the last, are so many fields, which are those that have to be there
pub record AreFieldsOf (hull : SubBox) (boxes : List SubBox) (first second : List ℕ) (count : ℕ) : Type 0 where
  pub one : length first ≡ 16 * count
  pub two : length second ≡ 16 * count
  pub chunks : first_chunks 16 count first ≡ fields_of boxes
  pub same : (p : Place) → each_at same_at (zip (first_chunks 16 count first) (first_chunks 16 count second)) p ≡ boxes_at hull boxes p

-- so many fields of the text of boxes
pub text_fields : (boxes : List SubBox) (text : List ℕ) → text ≡ flat_map rect_bytes boxes → length text ≡ 16 * length (fields_of boxes)
text_fields boxes text is = ap length (is ∙ sym (fields_joined boxes)) ∙ length-joined (fields_of boxes) (fields_wide boxes)

text_chunks : (boxes : List SubBox) (text : List ℕ) (count : ℕ) → text ≡ flat_map rect_bytes boxes → count ≡ length (fields_of boxes) → first_chunks 16 count text ≡ fields_of boxes
text_chunks boxes text count is many =
    ap (λ n. first_chunks 16 n text) many ∙ ap (first_chunks 16 (length (fields_of boxes))) (is ∙ sym (fields_joined boxes)) ∙ chunks_joined (fields_of boxes) (fields_wide boxes)

pub fields_read : (hull : SubBox) (boxes : List SubBox) (first second : List ℕ) (count : ℕ) → IsBox hull → All (IsLike hull) boxes → first ≡ flat_map rect_bytes boxes → second ≡ flat_map rect_bytes (topped hull boxes)
    → count ≡ length first / 16 → AreFieldsOf hull boxes first second count
unfolding boxes_at
fields_read hull boxes first second count valid like is other counted =
    let one : length first ≡ 16 * length (fields_of boxes) = text_fields boxes first is in
    let two : length second ≡ 16 * length (fields_of (topped hull boxes)) = text_fields (topped hull boxes) second other in
    let long : length second ≡ length first = ap length other ∙ length-topped hull boxes (as_long hull boxes valid like) ∙ sym (ap length is) in
    let many : count ≡ length (fields_of boxes) = omega arith in
    let most : count ≡ length (fields_of (topped hull boxes)) = omega arith in
    let front = text_chunks boxes first count is many in
    let back = text_chunks (topped hull boxes) second count other most in
    record {
      one = omega arith;
      two = omega arith;
      chunks = front;
      same = λ p. ap (λ fs. each_at same_at (zip fs (first_chunks 16 count second)) p) front ∙ ap (λ fs. each_at same_at (zip (fields_of boxes) fs) p) back;
    }

-- ---- one tile

pub hull_fields : (hull : SubBox) (text : List ℕ) → IsBox hull → text ≡ rect_bytes hull → AreFieldsOf hull (hull ∷ []) text text (length text / 16)
hull_fields hull text valid is =
    let spelled : text ≡ flat_map rect_bytes (hull ∷ []) = is ∙ sym (one_spelled hull) in
    let like = All-cons (IsLike hull) hull [] (record { valid = valid; dims = refl }) (All-nil (IsLike hull)) in
    fields_read hull (hull ∷ []) text text (length text / 16) valid like spelled spelled refl

pub one_read : (hull : SubBox) (text : List ℕ) (fields : List (List ℕ)) (p q : Place) → AreFieldsOf hull (hull ∷ []) text text (length text / 16)
    → each_at same_at (zip (first_chunks 16 (length text / 16) text) (first_chunks 16 (length text / 16) text)) p ≡ Ok (fields, q) → one_at hull p ≡ Ok (rooted (hull ∷ []), q)
unfolding one_at
one_read hull text fields p q are read = ap (λ r. r >>= λ x. Ok (rooted (hull ∷ []), x.1)) (sym (are.same p) ∙ read)

pub one_stops : (hull : SubBox) (text : List ℕ) (at : ℕ) (p : Place) → AreFieldsOf hull (hull ∷ []) text text (length text / 16)
    → each_at same_at (zip (first_chunks 16 (length text / 16) text) (first_chunks 16 (length text / 16) text)) p ≡ Err at → one_at hull p ≡ Err at
unfolding one_at
one_stops hull text at p are read = ap (λ r. r >>= λ x. Ok (rooted (hull ∷ []), x.1)) (sym (are.same p) ∙ read)

-- ---- the boxes above the leaves

-- what is known of the text of a tree over so many leaves, and of the text of the hull
pub record IsTreeText (hull : SubBox) (leaves : List SubBox) (count : ℕ) (text last : List ℕ) : Type 0 where
  pub narrow : length last ≤ 32 * length hull.low
  pub start : count * length last ≤ length text
  pub rest : drop (count * length last) text ≡ flat_map rect_bytes (upper_of leaves)
  pub like : All (IsLike hull) (upper_of leaves)
  pub some : 1 ≤ length (upper_of leaves)
  pub enough : length last ≤ length (drop (count * length last) text)

pub tree_text : (hull : SubBox) (leaves : List SubBox) (count : ℕ) (text last : List ℕ) → IsBox hull → All (IsLike hull) leaves → length leaves ≡ count → 2 ≤ count
    → text ≡ flat_map rect_bytes (nodes_of leaves) → last ≡ rect_bytes hull → IsTreeText hull leaves count text last
tree_text hull leaves count text last valid like counted two is ends =
    let upper = upper_of leaves in
    let width : length last ≡ length (rect_bytes hull) = ap length ends in
    let parts : text ≡ flat_map rect_bytes leaves ++ flat_map rect_bytes upper = is ∙ flat_map-append rect_bytes leaves upper in
    let front : length (flat_map rect_bytes leaves) ≡ count * length last =
    length-boxes (length (rect_bytes hull)) leaves (as_long hull leaves valid like) ∙ ap (λ n. n * length (rect_bytes hull)) counted ∙ ap (λ n. count * n) (sym width) in
    let rest : drop (count * length last) text ≡ flat_map rect_bytes upper = ap (drop (count * length last)) parts ∙ drop_at (flat_map rect_bytes leaves) (flat_map rect_bytes upper) (count * length last) front in
    let all : All (IsLike hull) upper = All-back (IsLike hull) leaves upper (nodes_of-like hull leaves like) in
    let above = ap length (upper_of_more leaves (subst (λ n. 2 ≤ n) (sym counted) two)) in
    let tenth = length-nodes_above leaves in
    let whole = length-append (nodes_above leaves) (upper_of (nodes_above leaves)) in
    let some : 1 ≤ length upper = omega arith in
    let long : length (flat_map rect_bytes upper) ≡ length upper * length (rect_bytes hull) = length-boxes (length (rect_bytes hull)) upper (as_long hull upper valid all) in
    let enough : length (rect_bytes hull) ≤ length (flat_map rect_bytes upper) = subst (λ n. length (rect_bytes hull) ≤ n) (sym long) (more_times (length upper) (length (rect_bytes hull)) some) in
    record {
      narrow = omega (arith, length-rect_bytes hull valid);
      start = omega (arith, ap length parts, length-append (flat_map rect_bytes leaves) (flat_map rect_bytes upper));
      rest = rest;
      like = all;
      some = some;
      enough = omega (arith, ap length rest);
    }
  where
    more_times : (n w : ℕ) → 1 ≤ n → w ≤ n * w
    more_times zero w h = absurd (omega arith)
    more_times (suc n) w h = omega arith

    All-back : (P : SubBox → Type 0) (xs ys : List SubBox) → All P (xs ++ ys) → All P ys
    All-back P [] ys all = all
    All-back P (x ∷ xs) ys all = All-back P xs ys (All-tail P x (xs ++ ys) all)

-- the text of the boxes above the leaves
abbrev pub upper_text : ℕ → List ℕ → List ℕ → List ℕ
upper_text count text last = take (length text - count * length last) (drop (count * length last) text)

pub upper_is : (hull : SubBox) (leaves : List SubBox) (count : ℕ) (text last : List ℕ) → IsTreeText hull leaves count text last → upper_text count text last ≡ flat_map rect_bytes (upper_of leaves)
upper_is hull leaves count text last facts =
    take_all (length text - count * length last) (drop (count * length last) text) (omega (arith, length-drop (count * length last) text)) ∙ facts.rest

pub upper_long : (hull : SubBox) (leaves : List SubBox) (count : ℕ) (text last : List ℕ) → IsTreeText hull leaves count text last → length last ≤ length (upper_text count text last)
upper_long hull leaves count text last facts = omega (arith, facts.enough, ap length (upper_is hull leaves count text last facts), ap length facts.rest)

pub upper_fields : (hull : SubBox) (leaves : List SubBox) (count : ℕ) (text last none front both : List ℕ) → IsBox hull → IsTreeText hull leaves count text last → last ≡ rect_bytes hull → none ≡ []
    → front ≡ none ++ take (length (upper_text count text last) - length last) (upper_text count text last) → both ≡ front ++ last
    → AreFieldsOf hull (upper_of leaves) (upper_text count text last) both (length (upper_text count text last) / 16)
upper_fields hull leaves count text last none front both valid facts ends empty first second =
    let upper = upper_of leaves in
    let is = upper_is hull leaves count text last facts in
    let start : front ≡ take (length (upper_text count text last) - length last) (upper_text count text last) =
    first ∙ ap (λ xs. xs ++ take (length (upper_text count text last) - length last) (upper_text count text last)) empty in
    let whole : both ≡ flat_map rect_bytes (topped hull upper) =
    second
    ∙ ap (λ xs. xs ++ last) start
    ∙ ap (λ t. take (length t - length last) t ++ last) is
    ∙ ap (λ t. take (length (flat_map rect_bytes upper) - length t) (flat_map rect_bytes upper) ++ t) ends
    ∙ topped_text hull upper facts.some (as_long hull upper valid facts.like) in
    fields_read hull upper (upper_text count text last) both (length (upper_text count text last) / 16) valid facts.like is whole refl

pub fields_found : (hull : SubBox) (boxes : List SubBox) (first second : List ℕ) (count : ℕ) (p q : Place) → AreFieldsOf hull boxes first second count
    → each_at same_at (zip (first_chunks 16 count first) (first_chunks 16 count second)) p ≡ Ok (first_chunks 16 count first, q) → boxes_at hull boxes p ≡ Ok (fields_of boxes, q)
fields_found hull boxes first second count p q are read = sym (are.same p) ∙ read ∙ ap (λ fields. Ok (fields, q)) are.chunks

pub fields_stop : (hull : SubBox) (boxes : List SubBox) (first second : List ℕ) (count at : ℕ) (p : Place) → AreFieldsOf hull boxes first second count
    → each_at same_at (zip (first_chunks 16 count first) (first_chunks 16 count second)) p ≡ Err at → boxes_at hull boxes p ≡ Err at
fields_stop hull boxes first second count at p are read = sym (are.same p) ∙ read

-- ---- two tiles or more

pub many_read : (hull : SubBox) (count : ℕ) (leaves : List SubBox) (tree : Rooted) (fields : List (List ℕ)) (p q r : Place) → leaves_at (length hull.low) count p ≡ Ok (leaves, q) → tree ≡ rooted leaves
    → boxes_at hull (upper_of tree.leaves) q ≡ Ok (fields, r) → many_at hull count p ≡ Ok (tree, r)
unfolding many_at
many_read hull count leaves tree fields p q r leaf made above =
    let known : boxes_at hull (upper_of leaves) q ≡ Ok (fields, r) = ap (λ (t : Rooted). boxes_at hull (upper_of t.leaves) q) (sym made) ∙ above in
    rw (leaf, known) (ap (λ (t : Rooted). Ok (t, r)) (sym made))

-- a box above the leaves is broken
pub many_stops : (hull : SubBox) (count : ℕ) (leaves : List SubBox) (tree : Rooted) (at : ℕ) (p q : Place) → leaves_at (length hull.low) count p ≡ Ok (leaves, q) → tree ≡ rooted leaves
    → boxes_at hull (upper_of tree.leaves) q ≡ Err at → many_at hull count p ≡ Err at
unfolding many_at
many_stops hull count leaves tree at p q leaf made above =
    let known : boxes_at hull (upper_of leaves) q ≡ Err at = ap (λ (t : Rooted). boxes_at hull (upper_of t.leaves) q) (sym made) ∙ above in
    rw (leaf, known) refl
