-- Which boxes of two neighbouring levels meet a box.
use Rattle.std.proofs.Common.{◌≡◌, ℕ, zero, suc, ◌+◌, ◌*◌, ◌≤◌, Bool, true, false, ◌&&◌, cond, List, [], ◌∷◌, ◌++◌, length, take, drop, refl, ap, sym, ◌∙◌, arith, append_assoc, length-append, ℤ}
use Rattle.std.specs.Prelude.{int_le}
use Rattle.std.specs.List.{flat_map}
use Rattle.std.specs.Int.{int_min, int_max}
use Rattle.std.proofs.lemmas.Bool.{and_parts, and_from}
use Rattle.std.proofs.lemmas.Int.{ints, clamps}
use Rattle.std.proofs.lemmas.List.Sums.{sum_by-cons}
use Rattle.std.proofs.lemmas.List.{append-nil, take_all, take_at, drop_at}
use Rattle.ts_domain.specs.declared.boxes.SubBox.{SubBox}
use Rattle.ts_domain.specs.Bounds.{do_meet, least_corner, greatest_corner}
use Rattle.ts_domain.specs.Boxes.{do_boxes_meet, hull_of}
use Rattle.ts_rtree.specs.Trees.{hulls_from, nodes_above, count_meeting}
use Rattle.ts_domain.specs.Rects.{places_from}

-- ---- a hull meets what its boxes meet

do_meet-first : (ls hs ms ns ks gs : List ℤ) → do_meet ls hs ks gs ≡ true → do_meet (least_corner ls ms) (greatest_corner hs ns) ks gs ≡ true
do_meet-first [] hs ms ns ks gs t = refl
do_meet-first (l ∷ ls) hs [] ns ks gs t = refl
do_meet-first (l ∷ ls) [] (m ∷ ms) ns ks gs t = refl
do_meet-first (l ∷ ls) (h ∷ hs) (m ∷ ms) [] ks gs t = refl
do_meet-first (l ∷ ls) (h ∷ hs) (m ∷ ms) (n ∷ ns) [] gs t = refl
do_meet-first (l ∷ ls) (h ∷ hs) (m ∷ ms) (n ∷ ns) (k ∷ ks) [] t = refl
do_meet-first (l ∷ ls) (h ∷ hs) (m ∷ ms) (n ∷ ns) (k ∷ ks) (g ∷ gs) t =
    let parts = and_parts (int_le l g && int_le k h) (do_meet ls hs ks gs) t in
    let here = and_parts (int_le l g) (int_le k h) parts.0 in
    and_from (int_le (int_min l m) g && int_le k (int_max h n)) (do_meet (least_corner ls ms) (greatest_corner hs ns) ks gs)
    (and_from (int_le (int_min l m) g) (int_le k (int_max h n)) (low l m g here.0) (high k h n here.1)) (do_meet-first ls hs ms ns ks gs parts.1)
  where
    low : (a b c : ℤ) → int_le a c ≡ true → int_le (int_min a b) c ≡ true
    low a b c e = grind (arith, ints, clamps)

    high : (c a b : ℤ) → int_le c a ≡ true → int_le c (int_max a b) ≡ true
    high c a b e = grind (arith, ints, clamps)

do_meet-second : (ls hs ms ns ks gs : List ℤ) → do_meet ms ns ks gs ≡ true → do_meet (least_corner ls ms) (greatest_corner hs ns) ks gs ≡ true
do_meet-second [] hs ms ns ks gs t = refl
do_meet-second (l ∷ ls) hs [] ns ks gs t = refl
do_meet-second (l ∷ ls) [] (m ∷ ms) ns ks gs t = refl
do_meet-second (l ∷ ls) (h ∷ hs) (m ∷ ms) [] ks gs t = refl
do_meet-second (l ∷ ls) (h ∷ hs) (m ∷ ms) (n ∷ ns) [] gs t = refl
do_meet-second (l ∷ ls) (h ∷ hs) (m ∷ ms) (n ∷ ns) (k ∷ ks) [] t = refl
do_meet-second (l ∷ ls) (h ∷ hs) (m ∷ ms) (n ∷ ns) (k ∷ ks) (g ∷ gs) t =
    let parts = and_parts (int_le m g && int_le k n) (do_meet ms ns ks gs) t in
    let here = and_parts (int_le m g) (int_le k n) parts.0 in
    and_from (int_le (int_min l m) g && int_le k (int_max h n)) (do_meet (least_corner ls ms) (greatest_corner hs ns) ks gs)
    (and_from (int_le (int_min l m) g) (int_le k (int_max h n)) (low l m g here.0) (high k h n here.1)) (do_meet-second ls hs ms ns ks gs parts.1)
  where
    low : (a b c : ℤ) → int_le b c ≡ true → int_le (int_min a b) c ≡ true
    low a b c e = grind (arith, ints, clamps)

    high : (c a b : ℤ) → int_le c b ≡ true → int_le c (int_max a b) ≡ true
    high c a b e = grind (arith, ints, clamps)

-- a box whose hull with another does not meet a box does not meet it either
misses-first : (a b sub : SubBox) → do_boxes_meet (hull_of a b) sub ≡ false → do_boxes_meet a sub ≡ false
misses-first a b sub miss = by (do_boxes_meet a sub) refl
  where
    by : (t : Bool) → do_boxes_meet a sub ≡ t → do_boxes_meet a sub ≡ false
    by false e = e
    by true e = let meets : do_boxes_meet (hull_of a b) sub ≡ true = do_meet-first a.low a.high b.low b.high sub.low sub.high e in absurd (cc)

misses-second : (a b sub : SubBox) → do_boxes_meet (hull_of a b) sub ≡ false → do_boxes_meet b sub ≡ false
misses-second a b sub miss = by (do_boxes_meet b sub) refl
  where
    by : (t : Bool) → do_boxes_meet b sub ≡ t → do_boxes_meet b sub ≡ false
    by false e = e
    by true e = let meets : do_boxes_meet (hull_of a b) sub ≡ true = do_meet-second a.low a.high b.low b.high sub.low sub.high e in absurd (cc)

-- ---- places

-- one box more
places_one : (sub : SubBox) (at : ℕ) (x : SubBox) (xs : List SubBox) (rest : List ℕ) → places_from sub (at + 1) xs ≡ rest → places_from sub at (x ∷ xs) ≡ places_from sub at (x ∷ []) ++ rest
places_one sub at x xs rest e = by (do_boxes_meet x sub) refl
  where
    by : (t : Bool) → do_boxes_meet x sub ≡ t → places_from sub at (x ∷ xs) ≡ places_from sub at (x ∷ []) ++ rest
    by true t = rw (t, e) refl
    by false t = rw (t, e) refl

-- a box that does not meet has no place
places_none : (sub : SubBox) (at : ℕ) (x : SubBox) → do_boxes_meet x sub ≡ false → places_from sub at (x ∷ []) ≡ []
places_none sub at x e = rw e refl

pub places_from-append : (sub : SubBox) (at n : ℕ) (xs ys : List SubBox) → length xs + at ≡ n → places_from sub at (xs ++ ys) ≡ places_from sub at xs ++ places_from sub n ys
places_from-append sub at n [] ys e = ap (λ m. places_from sub m ys) (omega arith)
places_from-append sub at n (x ∷ xs) ys e =
    places_one sub at x (xs ++ ys) _ (places_from-append sub (at + 1) n xs ys (omega arith))
    ∙ sym (append_assoc (places_from sub at (x ∷ [])) (places_from sub (at + 1) xs) (places_from sub n ys))
    ∙ ap (λ front. front ++ places_from sub n ys) (sym (places_one sub at x xs _ refl))

-- one box more or less in the count
count_one : (sub x : SubBox) (at : ℕ) → length (places_from sub at (x ∷ [])) ≡ cond (do_boxes_meet x sub) 1 0
count_one sub x at = by (do_boxes_meet x sub) refl
  where
    by : (t : Bool) → do_boxes_meet x sub ≡ t → length (places_from sub at (x ∷ [])) ≡ cond (do_boxes_meet x sub) 1 0
    by true t = rw t refl
    by false t = rw t refl

-- there are as many places as boxes that meet the box
pub length-places_from : (sub : SubBox) (at : ℕ) (xs : List SubBox) → length (places_from sub at xs) ≡ count_meeting sub xs
length-places_from sub at [] = refl
length-places_from sub at (x ∷ xs) =
    ap length (places_one sub at x xs _ refl)
    ∙ length-append (places_from sub at (x ∷ [])) (places_from sub (at + 1) xs)
    ∙ omega (arith, count_one sub x at, length-places_from sub (at + 1) xs, sum_by-cons (λ b. cond (do_boxes_meet b sub) 1 0) x xs)

-- ---- two levels

-- the places below a node: those of its ten boxes that meet the box
abbrev pub below_node : SubBox → List SubBox → ℕ → List ℕ
below_node sub level node = places_from sub (10 * node) (take 10 (drop (10 * node) level))

-- what lies below one node
node_finds : (sub : SubBox) (hull : SubBox) (level : List SubBox) (node : ℕ) (front : List SubBox) (rest : List ℕ) (nodes : List ℕ) → take 10 (drop (10 * node) level) ≡ front
    → (do_boxes_meet hull sub ≡ false → places_from sub (10 * node) front ≡ []) → flat_map (below_node sub level) nodes ≡ rest
    → flat_map (below_node sub level) (places_from sub node (hull ∷ []) ++ nodes) ≡ places_from sub (10 * node) front ++ rest
node_finds sub hull level node front rest nodes is covers others = by (do_boxes_meet hull sub) refl
  where
    by : (t : Bool) → do_boxes_meet hull sub ≡ t → flat_map (below_node sub level) (places_from sub node (hull ∷ []) ++ nodes) ≡ places_from sub (10 * node) front ++ rest
    by true t = rw (t, is, others) refl
    by false t = rw (t, covers t, others) refl

-- the boxes of the node at a place
its_ten : (level pre front bs : List SubBox) (node : ℕ) → level ≡ pre ++ (front ++ bs) → length pre ≡ 10 * node → drop (10 * node) level ≡ front ++ bs
its_ten level pre front bs node whole before = ap (drop (10 * node)) whole ∙ drop_at pre (front ++ bs) (10 * node) before

-- below the nodes that meet the box lie all boxes that meet it
nodes_find : (sub : SubBox) (left : ℕ) (hull : SubBox) (pre front bs level : List SubBox) (node : ℕ) → level ≡ pre ++ (front ++ bs) → length pre ≡ 10 * node → length front + left ≡ 10
    → (do_boxes_meet hull sub ≡ false → places_from sub (10 * node) front ≡ [])
    → flat_map (below_node sub level) (places_from sub node (hulls_from 9 left hull bs)) ≡ places_from sub (10 * node) (front ++ bs)
nodes_find sub left hull pre front [] level node whole before most covers =
    let few : length (front ++ []) ≤ 10 = omega (arith, ap length (append-nil front)) in
    let ten : take 10 (drop (10 * node) level) ≡ front = ap (take 10) (its_ten level pre front [] node whole before) ∙ take_all 10 (front ++ []) few ∙ append-nil front in
    let found = node_finds sub hull level node front [] [] ten covers refl in
    rw (append-nil front) (ap (flat_map (below_node sub level)) (sym (append-nil (places_from sub node (hull ∷ [])))) ∙ found ∙ append-nil (places_from sub (10 * node) front))
nodes_find sub zero hull pre front (b ∷ bs) level node whole before most covers =
    let all_ten : length front ≡ 10 = omega arith in
    let ten : take 10 (drop (10 * node) level) ≡ front = ap (take 10) (its_ten level pre front (b ∷ bs) node whole before) ∙ take_at front (b ∷ bs) 10 all_ten in
    let next : 10 * (node + 1) ≡ length front + 10 * node = omega arith in
    let behind : length (pre ++ front) ≡ 10 * (node + 1) = omega (arith, length-append pre front) in
    let again : level ≡ (pre ++ front) ++ ((b ∷ []) ++ bs) = whole ∙ sym (append_assoc pre front (b ∷ bs)) in
    let others = nodes_find sub 9 b (pre ++ front) (b ∷ []) bs level (node + 1) again behind (omega arith) (places_none sub (10 * (node + 1)) b) in
    let found = node_finds sub hull level node front _ _ ten covers others in
    ap (flat_map (below_node sub level)) (places_one sub node hull (hulls_from 9 9 b bs) _ refl)
    ∙ found
    ∙ sym (places_from-append sub (10 * node) (10 * (node + 1)) front (b ∷ bs) (sym next))
nodes_find sub (suc left) hull pre front (b ∷ bs) level node whole before most covers =
    let more : length (front ++ b ∷ []) + left ≡ 10 = omega (arith, length-append front (b ∷ [])) in
    let again : level ≡ pre ++ ((front ++ b ∷ []) ++ bs) = whole ∙ ap (λ text. pre ++ text) (sym (append_assoc front (b ∷ []) bs)) in
    nodes_find sub left (hull_of hull b) pre (front ++ b ∷ []) bs level node again before more (both_miss (length front + 10 * node))
    ∙ ap (places_from sub (10 * node)) (append_assoc front (b ∷ []) bs)
  where
    both_miss : (n : ℕ) → do_boxes_meet (hull_of hull b) sub ≡ false → places_from sub (10 * node) (front ++ b ∷ []) ≡ []
    both_miss n miss =
        places_from-append sub (10 * node) (length front + 10 * node) front (b ∷ []) refl
        ∙ ap (λ text. text ++ places_from sub (length front + 10 * node) (b ∷ [])) (covers (misses-first hull b sub miss))
        ∙ places_none sub (length front + 10 * node) b (misses-second hull b sub miss)

pub level_find : (sub : SubBox) (level : List SubBox) → flat_map (below_node sub level) (places_from sub 0 (nodes_above level)) ≡ places_from sub 0 level
level_find sub [] = refl
level_find sub (b ∷ bs) = nodes_find sub 9 b [] (b ∷ []) bs (b ∷ bs) 0 refl refl refl (places_none sub 0 b)
