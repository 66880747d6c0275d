-- The levels of a tree.
use Rattle.std.proofs.Common.{length-append, length-take, length-drop, min, ◌≡◌, ℕ, zero, suc, ◌+◌, ◌*◌, ◌-◌, ◌/◌, ◌<◌, ◌≤◌, cond, ⊎_elim, List, [], ◌∷◌, ◌++◌, length, take, drop, refl, ap, sym, ◌∙◌, arith}
use Rattle.std.specs.Prelude.{nat_le}
use Rattle.std.proofs.lemmas.Bool.{cases_lt, le-leb, lt-leb, cond-true, cond-false}
use Rattle.std.proofs.lemmas.List.Sums.{sum_by-append}
use Rattle.ts_domain.specs.Boxes.{do_boxes_meet}
use Rattle.std.proofs.lemmas.List.{take_at, drop_at, drop-drop, drop-take, take-take, take_all, drop_all}
use Rattle.std.specs.List.{flat_map}
use Rattle.ts_rtree.specs.Trees.{count_meeting}
use Rattle.ts_domain.specs.Rects.{places_meeting}
use Rattle.ts_rtree.proofs.Meeting.{below_node, level_find, length-places_from}
use Rattle.ts_domain.specs.declared.boxes.SubBox.{SubBox}
use Rattle.ts_domain.specs.Boxes.{hull_of}
use Rattle.ts_rtree.specs.Trees.{hulls_from, nodes_above, upper_in, upper_of, nodes_of}

-- a level has a tenth of the boxes of the level below, rounded up
length-hulls_from : (left : ℕ) (hull : SubBox) (bs : List SubBox) → left ≤ 9 → length (hulls_from 9 left hull bs) ≡ (length bs + (19 - left)) / 10
length-hulls_from left hull [] few = omega arith
length-hulls_from zero hull (b ∷ bs) few = omega (arith, length-hulls_from 9 b bs (omega arith))
length-hulls_from (suc left) hull (b ∷ bs) few = omega (arith, length-hulls_from left (hull_of hull b) bs (omega arith))

pub length-nodes_above : (level : List SubBox) → length (nodes_above level) ≡ (length level + 9) / 10
length-nodes_above [] = refl
length-nodes_above (b ∷ bs) = omega (arith, length-hulls_from 9 b bs (omega arith))

-- a level above has fewer boxes
fewer_above : (level : List SubBox) → 2 ≤ length level → length (nodes_above level) < length level
fewer_above level two = omega (arith, length-nodes_above level)

-- a level that has two boxes or more has levels above
upper_in_more : (n : ℕ) (level : List SubBox) → 2 ≤ length level → upper_in (suc n) level ≡ nodes_above level ++ upper_in n (nodes_above level)
upper_in_more n level two = cond-false (nat_le (length level) 1) [] _ (lt-leb (length level) 1 two)

upper_in_none : (n : ℕ) (level : List SubBox) → length level ≤ 1 → upper_in n level ≡ []
upper_in_none zero level few = refl
upper_in_none (suc n) level few = cond-true (nat_le (length level) 1) [] _ (le-leb (length level) 1 few)

-- how many levels there may be at most does not matter
upper_in_same : (n m : ℕ) (level : List SubBox) → length level ≤ n → length level ≤ m → upper_in n level ≡ upper_in m level
upper_in_same zero m level a b = sym (upper_in_none m level (omega arith))
upper_in_same (suc n) zero level a b = upper_in_none (suc n) level (omega arith)
upper_in_same (suc n) (suc m) level a b = ⊎_elim (many (upper_in_same n m (nodes_above level))) few (cases_lt 1 (length level))
  where
    few : length level ≤ 1 → upper_in (suc n) level ≡ upper_in (suc m) level
    few h = upper_in_none (suc n) level h ∙ sym (upper_in_none (suc m) level h)

    many : (length (nodes_above level) ≤ n → length (nodes_above level) ≤ m → upper_in n (nodes_above level) ≡ upper_in m (nodes_above level)) → 1 < length level → upper_in (suc n) level ≡ upper_in (suc m) level
    many rest h =
        let fewer = fewer_above level h in
        upper_in_more n level h ∙ ap (λ text. nodes_above level ++ text) (rest (omega arith) (omega arith)) ∙ sym (upper_in_more m level h)

-- a level of one box has none above
pub upper_of_one : (level : List SubBox) → length level ≤ 1 → upper_of level ≡ []
unfolding upper_of
upper_of_one level few = upper_in_none (length level) level few

-- another level has the boxes of the tree over the one above
pub upper_of_more : (level : List SubBox) → 2 ≤ length level → upper_of level ≡ nodes_of (nodes_above level)
unfolding upper_of
upper_of_more [] two = absurd (omega arith)
upper_of_more (b ∷ bs) two =
    let fewer = fewer_above (b ∷ bs) two in
    upper_in_more (length bs) (b ∷ bs) two
    ∙ ap (λ text. nodes_above (b ∷ bs) ++ text) (upper_in_same (length bs) (length (nodes_above (b ∷ bs))) (nodes_above (b ∷ bs)) (omega arith) (omega arith))

-- ---- levels in the table of a tree

-- the level above one in a table
pub record NextLevel (boxes : List SubBox) (start count : ℕ) : Type 0 where
  pub same : take ((count + 9) / 10) (drop (start + count) boxes) ≡ nodes_above (take count (drop start boxes))
  pub levels : drop (start + count) boxes ≡ nodes_of (take ((count + 9) / 10) (drop (start + count) boxes))
  pub within : start + count + (count + 9) / 10 ≤ length boxes
  pub upper : upper_of (take count (drop start boxes)) ≡ nodes_of (nodes_above (take count (drop start boxes)))

pub next_level : (boxes : List SubBox) (start count : ℕ) → 2 ≤ count → start + count ≤ length boxes → drop start boxes ≡ nodes_of (take count (drop start boxes)) → NextLevel boxes start count
next_level boxes start count two within whole =
    let level = take count (drop start boxes) in
    let long : length level ≡ count = omega (arith, length-take count (drop start boxes), length-drop start boxes) in
    let some : 2 ≤ length level = omega arith in
    let upper = upper_of_more level some in
    let rest : drop (start + count) boxes ≡ nodes_of (nodes_above level) = sym (drop-drop count start boxes) ∙ ap (drop count) whole ∙ drop_at level (upper_of level) count long ∙ upper in
    let tenth : length (nodes_above level) ≡ (count + 9) / 10 = omega (arith, length-nodes_above level) in
    let same : take ((count + 9) / 10) (drop (start + count) boxes) ≡ nodes_above level = ap (take ((count + 9) / 10)) rest ∙ take_at (nodes_above level) (upper_of (nodes_above level)) ((count + 9) / 10) tenth in
    let longer = ap length rest ∙ length-append (nodes_above level) (upper_of (nodes_above level)) in
    let left = length-drop (start + count) boxes in
    record {
      same = same;
      levels = rest ∙ ap nodes_of (sym same);
      within = omega arith;
      upper = upper;
    }

-- so many of so many
cut_short : (n m k : ℕ) (xs : List SubBox) → k ≡ min n m → take k xs ≡ take n (take m xs)
cut_short n m k xs is = ap (λ i. take i xs) is ∙ ⊎_elim less more (cases_lt n m)
  where
    less : n < m → take (min n m) xs ≡ take n (take m xs)
    less h = let is : min n m ≡ n = omega arith in ap (λ i. take i xs) is ∙ sym (take-take n m xs (omega arith))

    more : m ≤ n → take (min n m) xs ≡ take n (take m xs)
    more h =
        let is : min n m ≡ m = omega arith in
        ap (λ i. take i xs) is ∙ sym (take_all n (take m xs) (omega (arith, length-take m xs)))

-- the boxes of a node in the table are those of its level
pub node_boxes : (boxes : List SubBox) (start count first : ℕ) → start + count ≤ length boxes
    → take (min count (first + 10) - first) (drop (start + first) boxes) ≡ take 10 (drop first (take count (drop start boxes)))
node_boxes boxes start count first within = ⊎_elim inner outer (cases_lt first count)
  where
    inner : first < count → take (min count (first + 10) - first) (drop (start + first) boxes) ≡ take 10 (drop first (take count (drop start boxes)))
    inner h =
        let others = count - first in
        let sum : first + others ≡ count = omega arith in
        let level : drop first (take count (drop start boxes)) ≡ take others (drop (start + first) boxes) =
        ap (λ n. drop first (take n (drop start boxes))) (sym sum) ∙ drop-take first others (drop start boxes) ∙ ap (take others) (drop-drop first start boxes) in
        cut_short 10 others (min count (first + 10) - first) (drop (start + first) boxes) (omega arith) ∙ ap (take 10) (sym level)

    outer : count ≤ first → take (min count (first + 10) - first) (drop (start + first) boxes) ≡ take 10 (drop first (take count (drop start boxes)))
    outer h =
        let none : min count (first + 10) - first ≡ 0 = omega arith in
        let past : length (take count (drop start boxes)) ≤ first = omega (arith, length-take count (drop start boxes)) in
        ap (λ n. take n (drop (start + first) boxes)) none ∙ ap (take 10) (sym (drop_all first (take count (drop start boxes)) past))

-- what was found below the nodes found above is what is to be found
pub found_below : (sub : SubBox) (level above : List SubBox) (nodes : List ℕ) → above ≡ nodes_above level → nodes ≡ places_meeting sub above → flat_map (below_node sub level) nodes ≡ places_meeting sub level
found_below sub level above nodes is were = ap (flat_map (below_node sub level)) (were ∙ ap (places_meeting sub) is) ∙ level_find sub level

-- and no more looks were made than are claimed
pub looks_below : (sub : SubBox) (level above : List SubBox) (nodes : List ℕ) (before between after : ℕ) → above ≡ nodes_above level → nodes ≡ places_meeting sub above → upper_of level ≡ nodes_of (nodes_above level)
    → between ≤ before + (1 + 10 * count_meeting sub (upper_of above)) → after ≤ between + 10 * length nodes → after ≤ before + (1 + 10 * count_meeting sub (upper_of level))
looks_below sub level above nodes before between after is were upper first second =
    let many : length nodes ≡ count_meeting sub above = ap length were ∙ length-places_from sub 0 above in
    let all : count_meeting sub (upper_of level) ≡ count_meeting sub above + count_meeting sub (upper_of above) =
    ap (count_meeting sub) (upper ∙ ap nodes_of (sym is)) ∙ sum_by-append (λ b. cond (do_boxes_meet b sub) 1 0) above (upper_of above) in
    omega arith

-- so they were not where the search ended below the top
pub some_looks_below : (sub : SubBox) (level above : List SubBox) (some before between after : ℕ) → above ≡ nodes_above level → upper_of level ≡ nodes_of (nodes_above level)
    → between ≤ before + (1 + 10 * count_meeting sub (upper_of above)) → after ≤ between + 10 * some → some ≡ 0 → after ≤ before + (1 + 10 * count_meeting sub (upper_of level))
some_looks_below sub level above some before between after is upper first second none =
    let all : count_meeting sub (upper_of level) ≡ count_meeting sub above + count_meeting sub (upper_of above) =
    ap (count_meeting sub) (upper ∙ ap nodes_of (sym is)) ∙ sum_by-append (λ b. cond (do_boxes_meet b sub) 1 0) above (upper_of above) in
    omega arith
