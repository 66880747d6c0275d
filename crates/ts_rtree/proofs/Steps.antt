-- The steps of the loops that build a tree and search it.
use Rattle.std.proofs.Common.{◌≡◌, ℕ, ◌+◌, ◌*◌, ◌-◌, ◌/◌, ◌<◌, ◌≤◌, List, [], ◌∷◌, ◌++◌, length, length-take, length-drop, length-append, get_or, take, drop, true, false, refl, ap, sym, subst, ◌∙◌, arith, append_assoc}
use Rattle.std.specs.List.{All}
use Rattle.ts_domain.specs.declared.boxes.SubBox.{SubBox}
use Rattle.ts_domain.specs.Rects.{IsLike}
use Rattle.std.specs.Prelude.{min}
use Rattle.std.specs.List.{flat_map}
use Rattle.std.proofs.lemmas.List.{take_more, get_or-drop, append-nil, drop_at, take_all}
use Rattle.std.proofs.lemmas.List.Concat.{flat_map-append}
use Rattle.ts_domain.specs.Boxes.{do_boxes_meet}
use Rattle.ts_rtree.specs.Trees.{nodes_above, upper_of, nodes_of}
use Rattle.ts_domain.specs.Rects.{AllLike, places_from}
use Rattle.ts_rtree.proofs.Levels.{upper_of_more, length-nodes_above, node_boxes}
use Rattle.ts_rtree.proofs.Likes.{hulls_of-like}
use Rattle.ts_rtree.proofs.Meeting.{below_node, places_from-append}

-- the level above the last one, which is read from its start on
pub level_from : (start : ℕ) (read boxes : List SubBox) → read ≡ boxes → nodes_above (take (length read - start) (drop start read)) ≡ nodes_above (drop start boxes)
level_from start read boxes is = ap nodes_above (take_all (length read - start) (drop start read) (omega (arith, length-drop start read)) ∙ ap (drop start) is)

-- the levels so far; the last of them begins at `start`
abbrev pub Rising : List SubBox → List SubBox → ℕ → Type 0
Rising leaves boxes start = (boxes ++ upper_of (drop start boxes) ≡ nodes_of leaves) × (start < length boxes) × AllLike (drop start boxes)

-- one level more
pub rising_more : (leaves boxes above all : List SubBox) (start end : ℕ) → Rising leaves boxes start → 1 < length boxes - start → above ≡ nodes_above (drop start boxes) → all ≡ boxes ++ above → end ≡ length boxes
    → Rising leaves all end
rising_more leaves boxes above all start end (whole, within, (sub, like)) many is joined ends =
    let level = drop start boxes in
    let long : length level ≡ length boxes - start = length-drop start boxes in
    let two : 2 ≤ length level = omega arith in
    let opened : boxes ++ (nodes_above level ++ upper_of (nodes_above level)) ≡ nodes_of leaves = ap (λ text. boxes ++ text) (sym (upper_of_more level two)) ∙ whole in
    let rest : drop end all ≡ above = ap (drop end) joined ∙ drop_at boxes above end (sym ends) in
    let shown : all ++ upper_of (drop end all) ≡ nodes_of leaves =
    ap (λ text. all ++ upper_of text) rest ∙ ap (λ text. text ++ upper_of above) joined ∙ append_assoc boxes above (upper_of above) ∙ ap (λ text. boxes ++ (text ++ upper_of text)) is ∙ opened in
    let some : length above ≡ (length level + 9) / 10 = ap length is ∙ length-nodes_above level in
    (shown, omega (arith, ap length joined, length-append boxes above), (sub, subst (All (IsLike sub)) (sym (rest ∙ is)) (hulls_of-like sub 10 level like)))

-- which has fewer boxes
pub fewer_boxes : (boxes above all : List SubBox) (start end : ℕ) → 1 < length boxes - start → above ≡ nodes_above (drop start boxes) → all ≡ boxes ++ above → end ≡ length boxes → length all - end < length boxes - start
fewer_boxes boxes above all start end many is joined ends =
    let some : length above ≡ (length (drop start boxes) + 9) / 10 = ap length is ∙ length-nodes_above (drop start boxes) in
    omega (arith, length-drop start boxes, ap length joined, length-append boxes above)

-- one box more that was looked at
looked_at : (sub : SubBox) (boxes : List SubBox) (start first place : ℕ) → first ≤ place → start + place < length boxes
    → places_from sub first (take (place + 1 - first) (drop (start + first) boxes)) ≡ places_from sub first (take (place - first) (drop (start + first) boxes)) ++ places_from sub place (get_or boxes (start + place) sub ∷ [])
looked_at sub boxes start first place low within =
    let others = drop (start + first) boxes in
    let inside : place - first < length others = omega (arith, length-drop (start + first) boxes) in
    let here : get_or others (place - first) sub ≡ get_or boxes (start + place) sub = get_or-drop (start + first) boxes (place - first) sub ∙ ap (λ i. get_or boxes i sub) (omega arith) in
    let many : length (take (place - first) others) + first ≡ place = omega (arith, length-take (place - first) others) in
    ap (λ n. places_from sub first (take n others)) (omega arith)
    ∙ ap (places_from sub first) (take_more others (place - first) sub inside ∙ ap (λ x. take (place - first) others ++ x ∷ []) here)
    ∙ places_from-append sub first place (take (place - first) others) (get_or boxes (start + place) sub ∷ []) many

-- what is found where the box meets, and where it does not
pub meets_more : (sub : SubBox) (boxes : List SubBox) (start first place : ℕ) (before found after : List ℕ) → first ≤ place → start + place < length boxes
    → found ≡ before ++ places_from sub first (take (place - first) (drop (start + first) boxes)) → do_boxes_meet (get_or boxes (start + place) sub) sub ≡ true → after ≡ found ++ place ∷ []
    → after ≡ before ++ places_from sub first (take (place + 1 - first) (drop (start + first) boxes))
meets_more sub boxes start first place before found after low within so meets pushed =
    let here : places_from sub place (get_or boxes (start + place) sub ∷ []) ≡ place ∷ [] = rw meets refl in
    let all = looked_at sub boxes start first place low within in
    pushed ∙ ap (λ text. text ++ place ∷ []) so ∙ append_assoc before (places_from sub first (take (place - first) (drop (start + first) boxes))) (place ∷ [])
    ∙ ap (λ text. before ++ text) (ap (λ text. places_from sub first (take (place - first) (drop (start + first) boxes)) ++ text) (sym here) ∙ sym all)

pub misses_more : (sub : SubBox) (boxes : List SubBox) (start first place : ℕ) (before found after : List ℕ) → first ≤ place → start + place < length boxes
    → found ≡ before ++ places_from sub first (take (place - first) (drop (start + first) boxes)) → do_boxes_meet (get_or boxes (start + place) sub) sub ≡ false → after ≡ found
    → after ≡ before ++ places_from sub first (take (place + 1 - first) (drop (start + first) boxes))
misses_more sub boxes start first place before found after low within so misses same =
    let here : places_from sub place (get_or boxes (start + place) sub ∷ []) ≡ [] = rw misses refl in
    let all = looked_at sub boxes start first place low within in
    same ∙ so ∙ ap (λ text. before ++ text) (sym (all ∙ ap (λ text. places_from sub first (take (place - first) (drop (start + first) boxes)) ++ text) here ∙ append-nil _))

-- one node more below which was looked
pub below_more : (sub : SubBox) (boxes : List SubBox) (start count node i : ℕ) (nodes : List ℕ) (found after : List ℕ) → start + count ≤ length boxes → i < length nodes → node ≡ get_or nodes i 0
    → found ≡ flat_map (below_node sub (take count (drop start boxes))) (take i nodes) → after ≡ found ++ places_from sub (10 * node) (take (min count (10 * node + 10) - 10 * node) (drop (start + 10 * node) boxes))
    → after ≡ flat_map (below_node sub (take count (drop start boxes))) (take (i + 1) nodes)
below_more sub boxes start count node i nodes found after within inside is so more =
    let level = take count (drop start boxes) in
    let here : places_from sub (10 * node) (take (min count (10 * node + 10) - 10 * node) (drop (start + 10 * node) boxes)) ≡ below_node sub level node = ap (places_from sub (10 * node)) (node_boxes boxes start count (10 * node) within) in
    let longer : flat_map (below_node sub level) (take (i + 1) nodes) ≡ flat_map (below_node sub level) (take i nodes) ++ (below_node sub level (get_or nodes i 0) ++ []) =
    ap (flat_map (below_node sub level)) (take_more nodes i 0 inside) ∙ flat_map-append (below_node sub level) (take i nodes) (get_or nodes i 0 ∷ []) in
    more ∙ ap (λ text. text ++ places_from sub (10 * node) (take (min count (10 * node + 10) - 10 * node) (drop (start + 10 * node) boxes))) so
    ∙ ap (λ text. flat_map (below_node sub level) (take i nodes) ++ text) (here ∙ ap (below_node sub level) is ∙ sym (append-nil _)) ∙ sym longer
