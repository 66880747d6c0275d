-- The values of the cells of a box, from a column that has those of all cells of another: run after run.
use Rattle.std.proofs.Common.{◌≡◌, ℕ, zero, suc, ◌+◌, ◌-◌, ◌*◌, ◌/◌, ◌%◌, ◌<◌, ◌≤◌, ◌&&◌, ◌⊎◌, inl, inr, ℤ, pos, negsuc, ◌+ℤ◌, ◌-ℤ◌, List, [], ◌∷◌, ◌++◌, length, map, get_or, take, drop, Some, refl, sym, ap, subst, ◌∙◌, arith, mul-le-mul}
use Rattle.std.specs.Prelude.{IsTrue, int_le}
use Rattle.std.specs.List.{slice_get, range_with_len, flat_map}
use Rattle.std.proofs.Math.Nat.{mul-div_cancel}
use Rattle.std.proofs.lemmas.Bool.{and_parts, and_from, cases_lt}
use Rattle.std.proofs.lemmas.Int.{ints}
use Rattle.std.proofs.lemmas.Nat.{div-mul-add, mod-mul-add}
use Rattle.std.proofs.lemmas.List.{take_more, take_all, length-map, length-take, length-drop, get_or-map, get_or-take, get_or-drop, same_lists, get_or_default, take-append-drop, take-take, drop-take, append-nil, append_assoc}
use Rattle.std.proofs.lemmas.Grind.{flat_map-append}
use Rattle.std.proofs.lemmas.List.FromFn.{get_or-map-range_with_len, length-map-range_with_len, map-range_with_len_more}
use Rattle.std.proofs.lemmas.Option.{get_or_from_slice_get, slice_get-get_or}
use Rattle.ts_base.specs.declared.values.Val.{Val}
use Rattle.ts_base.specs.declared.values.Val.TheVariants.{Null}
use Rattle.ts_domain.specs.declared.orders.Order.{Order}
use Rattle.ts_domain.specs.declared.boxes.SubBox.{SubBox}
use Rattle.ts_domain.specs.Bounds.{are_bounds, is_between, natural_of, count_between, cells_between}
use Rattle.ts_domain.specs.Boxes.{IsBox, is_in_box, cells_of, Covers}
use Rattle.ts_domain.proofs.Between.{length-are_bounds, length-is_between, are_bounds-is_between, is_between-low, is_between-high, within_parts, within_from, count_between-le}
use Rattle.ts_order.specs.Orders.{turned, dim_at, coords_in_order}
use Rattle.ts_order.specs.Places.{coords_of_place, place_of}
use Rattle.ts_order.proofs.PlaceLaws.{cells_between-push, coords_of_place-push, place_of-push, is_between-coords_of_place}
use Rattle.ts_order.proofs.PlaceSteps.{is_between_at}
use Rattle.ts_order.proofs.OrderLemmas.{turned-turned, length-turned, get_or-turned}
use Rattle.ts_order.proofs.TurnedLemmas.{cells_between-turned, is_between-turned}
use Rattle.ts_order.proofs.OrderedCoords.{length-coords_in_order, slice_get-coords_in_order, is_in_box-slice_get, slice_get-place_of, place_of-only, place_of-cells}
use Rattle.ts_gather.specs.Parts.{place_in, places_over, vals_over, run_in, starts_over}

-- ---- all cells of a box

-- what lies between two corners lies between all bounds that both corners lie between
pub between_on : (os qs ls hs xs : List ℤ) → IsTrue (is_between os qs ls) → IsTrue (is_between os qs hs) → IsTrue (is_between ls hs xs) → IsTrue (is_between os qs xs)
between_on [] [] [] [] xs a b t = t
between_on [] [] [] (h ∷ hs) xs a b t = cc
between_on [] [] (l ∷ ls) hs xs a b t = cc
between_on [] (q ∷ qs) ls hs xs a b t = cc
between_on (o ∷ os) [] ls hs xs a b t = cc
between_on (o ∷ os) (q ∷ qs) [] hs xs a b t = cc
between_on (o ∷ os) (q ∷ qs) (l ∷ ls) [] xs a b t = cc
between_on (o ∷ os) (q ∷ qs) (l ∷ ls) (h ∷ hs) [] a b t = cc
between_on (o ∷ os) (q ∷ qs) (l ∷ ls) (h ∷ hs) (x ∷ xs) a b t =
    let first = and_parts (int_le o l && int_le l q) (is_between os qs ls) a in
    let second = and_parts (int_le o h && int_le h q) (is_between os qs hs) b in
    let parts = and_parts (int_le l x && int_le x h) (is_between ls hs xs) t in
    let one = within_parts o q l first.0 in
    let two = within_parts o q h second.0 in
    let here = within_parts l h x parts.0 in
    and_from (int_le o x && int_le x q) (is_between os qs xs) (within_from o q x (omega (arith, ints)) (omega (arith, ints))) (between_on os qs ls hs xs first.1 second.1 parts.1)

-- a box that has both corners of another has all of its cells
pub covered_by_corners : (outer inner : SubBox) → IsTrue (is_in_box outer inner.low) → IsTrue (is_in_box outer inner.high) → Covers outer inner
covered_by_corners outer inner low high coords inside = between_on outer.low outer.high inner.low inner.high coords low high inside

-- ---- fewer cells

-- a side that lies in another has no more numbers
count_within : (l h k g : ℤ) → IsTrue (int_le l k && int_le k h) → IsTrue (int_le l g && int_le g h) → IsTrue (int_le k g) → count_between k g ≤ count_between l h
count_within l h k g a b c =
    let low = within_parts l h k a in
    let high = within_parts l h g b in
    let inner = count_between-le k g (omega (arith, ints, c)) in
    let outer = count_between-le l h (omega (arith, ints, low.0, high.1, c)) in
    omega (arith, inner, outer, low.0, high.1)

-- a box that lies in another has no more cells
cells_within : (ls hs ks gs : List ℤ) → IsTrue (is_between ls hs ks) → IsTrue (is_between ls hs gs) → IsTrue (are_bounds ks gs) → cells_between ks gs ≤ cells_between ls hs
cells_within [] [] [] [] a b c = omega arith
cells_within [] [] [] (g ∷ gs) a b c = cc
cells_within [] [] (k ∷ ks) gs a b c = cc
cells_within [] (h ∷ hs) ks gs a b c = cc
cells_within (l ∷ ls) [] ks gs a b c = cc
cells_within (l ∷ ls) (h ∷ hs) [] gs a b c = cc
cells_within (l ∷ ls) (h ∷ hs) (k ∷ ks) [] a b c = cc
cells_within (l ∷ ls) (h ∷ hs) (k ∷ ks) (g ∷ gs) a b c =
    let first = and_parts (int_le l k && int_le k h) (is_between ls hs ks) a in
    let second = and_parts (int_le l g && int_le g h) (is_between ls hs gs) b in
    let bounds = and_parts (int_le k g) (are_bounds ks gs) c in
    mul-le-mul (count_within l h k g first.0 second.0 bounds.0) (cells_within ls hs ks gs first.1 second.1 bounds.1)

-- ---- cells that follow one another

-- some steps further on along a dimension it is that many more steps from where a lower number is
natural_more : (l x : ℤ) (k : ℕ) → IsTrue (int_le l x) → natural_of (x +ℤ pos k -ℤ l) ≡ natural_of (x -ℤ l) + k
natural_more l x k t = by (x -ℤ l) refl
  where
    by : (z : ℤ) → z ≡ x -ℤ l → natural_of (x +ℤ pos k -ℤ l) ≡ natural_of z + k
    by (pos n) e = let more : x +ℤ pos k -ℤ l ≡ pos (n + k) = omega (arith, ints, e) in ap natural_of more
    by (negsuc n) e = absurd (omega (arith, ints, e, t))

-- so it is of places, where that dimension changes fastest
follow : (ls hs ks gs : List ℤ) (l h x y : ℤ) (r k : ℕ) → length hs ≡ length ls → length ks ≡ length ls → length gs ≡ length ls → IsTrue (int_le l x) → k < count_between x y → r < cells_between ks gs → r * count_between x y + k < cells_between ks gs * count_between x y
    → place_of (ls ++ l ∷ []) (hs ++ h ∷ []) (coords_of_place (ks ++ x ∷ []) (gs ++ y ∷ []) (r * count_between x y + k)) ≡ place_of ls hs (coords_of_place ks gs r) * count_between l h + natural_of (x -ℤ l) + k
follow ls hs ks gs l h x y r k highs lows tops t within row below =
    let n = count_between x y in
    let same : length gs ≡ length ks = omega (arith, lows, tops) in
    let at = coords_of_place ks gs r in
    let long : length (coords_of_place ks gs r) ≡ length ls = omega (arith, lows, (length-is_between ks gs at (is_between-coords_of_place ks gs r same row)).0) in
    let there : coords_of_place (ks ++ x ∷ []) (gs ++ y ∷ []) (r * count_between x y + k) ≡ coords_of_place ks gs r ++ (x +ℤ pos k) ∷ [] =
    coords_of_place-push ks gs x y (r * n + k) same below
    ∙ ap (λ (m : ℕ). coords_of_place ks gs m ++ (x +ℤ pos ((r * n + k) % n)) ∷ []) (div-mul-add r n k within)
    ∙ ap (λ (m : ℕ). at ++ (x +ℤ pos m) ∷ []) (mod-mul-add r n k within) in
    ap (place_of (ls ++ l ∷ []) (hs ++ h ∷ [])) there ∙ place_of-push ls hs at l h (x +ℤ pos k) highs long
    ∙ ap (λ (m : ℕ). place_of ls hs at * count_between l h + m) (natural_more l x k t) ∙ omega arith

-- the last number of a list stands behind the others
split_last : (xs : List ℤ) (n : ℕ) → length xs ≡ n + 1 → xs ≡ take n xs ++ get_or xs n (pos 0) ∷ []
split_last xs n long = sym (take_all (n + 1) xs (omega (arith, long))) ∙ take_more xs n (pos 0) (omega (arith, long))

-- the place of the first cell of a run, where the dimension of the last numbers changes fastest
abbrev start_in : (ls hs ks gs : List ℤ) (n r : ℕ) → ℕ
start_in ls hs ks gs n r = place_of (take n ls) (take n hs) (coords_of_place (take n ks) (take n gs) r) * count_between (get_or ls n (pos 0)) (get_or hs n (pos 0)) + natural_of (get_or ks n (pos 0) -ℤ get_or ls n (pos 0))

-- a cell of the run stands so many places further on
run_on : (ls hs ks gs : List ℤ) (n r k : ℕ) → length ls ≡ n + 1 → length hs ≡ n + 1 → length ks ≡ n + 1 → length gs ≡ n + 1 → IsTrue (int_le (get_or ls n (pos 0)) (get_or ks n (pos 0)))
    → k < count_between (get_or ks n (pos 0)) (get_or gs n (pos 0)) → r < cells_between (take n ks) (take n gs)
    → place_of ls hs (coords_of_place ks gs (r * count_between (get_or ks n (pos 0)) (get_or gs n (pos 0)) + k)) ≡ start_in ls hs ks gs n r + k
run_on ls hs ks gs n r k ls_many hs_many ks_many gs_many low within row =
    let m = count_between (get_or ks n (pos 0)) (get_or gs n (pos 0)) in
    let l = split_last ls n ls_many in
    let h = split_last hs n hs_many in
    let x = split_last ks n ks_many in
    let y = split_last gs n gs_many in
    let rows : suc r * count_between (get_or ks n (pos 0)) (get_or gs n (pos 0)) ≤ cells_between (take n ks) (take n gs) * count_between (get_or ks n (pos 0)) (get_or gs n (pos 0)) = mul-le-mul row (omega arith) in
    (λ i. place_of (l i) (h i) (coords_of_place (x i) (y i) (r * m + k)))
    ∙ follow (take n ls) (take n hs) (take n ks) (take n gs) (get_or ls n (pos 0)) (get_or hs n (pos 0)) (get_or ks n (pos 0)) (get_or gs n (pos 0)) r k
    (omega (arith, length-take n ls, length-take n hs, ls_many, hs_many)) (omega (arith, length-take n ls, length-take n ks, ls_many, ks_many)) (omega (arith, length-take n ls, length-take n gs, ls_many, gs_many)) low within row (omega (arith, rows, within))

-- so many values of one function, and so many of another that goes on where it ends
grown : (F G : ℕ → ℕ) (n m : ℕ) → ((k : ℕ) → k < m → G k ≡ F (n + k)) → map F (range_with_len 0 n) ++ map G (range_with_len 0 m) ≡ map F (range_with_len 0 (n + m))
grown F G n zero each = let all : n ≡ n + zero = omega arith in append-nil (map F (range_with_len 0 n)) ∙ ap (λ k. map F (range_with_len 0 k)) all
grown F G n (suc m) each =
    let one : suc m ≡ m + 1 = omega arith in
    let next : n + m + 1 ≡ n + suc m = omega arith in
    ap (λ k. map F (range_with_len 0 n) ++ map G (range_with_len 0 k)) one
    ∙ ap (λ ys. map F (range_with_len 0 n) ++ ys) (map-range_with_len_more G 0 m m (omega arith))
    ∙ sym (append_assoc (map F (range_with_len 0 n)) (map G (range_with_len 0 m)) (G m ∷ []))
    ∙ ap (λ ys. ys ++ G m ∷ []) (grown F G n m (λ k within. each k (omega (arith, within))))
    ∙ ap (λ y. map F (range_with_len 0 (n + m)) ++ y ∷ []) (each m (omega arith))
    ∙ sym (map-range_with_len_more F 0 (n + m) (n + m) (omega arith)) ∙ ap (λ k. map F (range_with_len 0 k)) next

-- so many steps further on along a dimension that does not change fastest
spread : (p k n m : ℕ) → (p + k) * n + m ≡ p * n + m + k * n
spread p k n m = omega arith

-- so many items of a list, and so many more
take_on : {X : Type 0} (n m : ℕ) (xs : List X) → take (n + m) xs ≡ take n xs ++ take m (drop n xs)
take_on n m xs = sym (take-append-drop n (take (n + m) xs)) ∙ ap (λ ys. ys ++ drop n (take (n + m) xs)) (take-take n (n + m) xs (omega arith)) ∙ ap (λ ys. take n xs ++ ys) (drop-take n m xs)

module _ (order : Order) (outer inner : SubBox) (valid : IsBox inner) (covers : Covers outer inner) where
  low_in : IsTrue (is_in_box outer inner.low)
  low_in = covers inner.low (is_between-low inner.low inner.high valid)

  -- the box has no more cells than the one that it lies in
  pub fewer : cells_of inner ≤ cells_of outer
  fewer = cells_within outer.low outer.high inner.low inner.high low_in (covers inner.high (is_between-high inner.low inner.high valid)) valid

  -- the other is a box too
  pub outer_valid : IsBox outer
  outer_valid = are_bounds-is_between outer.low outer.high inner.low low_in

  outer_many : length (coords_in_order order outer) ≡ cells_of outer
  outer_many = length-coords_in_order order outer outer_valid

  -- the cell at a place of it lies in the other
  inside_at : (p : ℕ) → p < cells_of inner → IsTrue (is_in_box outer (get_or (coords_in_order order inner) p []))
  inside_at p below =
      let long : p < length (coords_in_order order inner) = omega (arith, below, length-coords_in_order order inner valid) in
      covers (get_or (coords_in_order order inner) p []) (is_in_box-slice_get order inner valid p (get_or (coords_in_order order inner) p []) (slice_get-get_or (coords_in_order order inner) p [] long))

  -- so its place there is one of a cell
  place_below : (p : ℕ) → p < cells_of inner → place_in order outer (get_or (coords_in_order order inner) p []) < cells_of outer
  place_below p below = place_of-cells order outer (get_or (coords_in_order order inner) p []) (inside_at p below)

  module _ (some : 1 ≤ length inner.low) where
    abbrev last : ℕ
    last = length inner.low - 1

    abbrev ls : List ℤ
    ls = turned order outer.low

    abbrev hs : List ℤ
    hs = turned order outer.high

    abbrev ks : List ℤ
    ks = turned order inner.low

    abbrev gs : List ℤ
    gs = turned order inner.high

    -- how many runs there are
    abbrev runs : ℕ
    runs = cells_between (take last ks) (take last gs)

    high_many : length inner.high ≡ length inner.low
    high_many = length-are_bounds inner.low inner.high valid

    ls_many : length ls ≡ last + 1
    ls_many = omega (arith, some, length-turned order outer.low, (length-is_between outer.low outer.high inner.low low_in).0)

    hs_many : length hs ≡ last + 1
    hs_many = omega (arith, some, length-turned order outer.high, (length-is_between outer.low outer.high inner.low low_in).1)

    ks_many : length ks ≡ last + 1
    ks_many = omega (arith, some, length-turned order inner.low)

    gs_many : length gs ≡ last + 1
    gs_many = omega (arith, some, length-turned order inner.high, high_many)

    -- the dimension that changes fastest
    run_is : run_in order inner ≡ count_between (get_or ks last (pos 0)) (get_or gs last (pos 0))
    run_is =
        let low = get_or-turned order inner.low last (pos 0) (omega (arith, some)) in
        let high = get_or-turned order inner.high last (pos 0) (omega (arith, some, high_many)) ∙ ap (λ (n : ℕ). get_or inner.high (dim_at order n last) (pos 0)) high_many in
        sym (λ i. count_between (low i) (high i))

    fronts : length (take last gs) ≡ length (take last ks)
    fronts = omega (arith, length-take last gs, length-take last ks, ks_many, gs_many)

    -- the runs have all cells
    pub cells_are : cells_of inner ≡ runs * run_in order inner
    cells_are =
        let low = split_last ks last ks_many in
        let high = split_last gs last gs_many in
        sym (cells_between-turned order inner.low inner.high high_many) ∙ (λ i. cells_between (low i) (high i))
        ∙ cells_between-push (take last ks) (take last gs) (get_or ks last (pos 0)) (get_or gs last (pos 0)) fronts ∙ ap (λ n. runs * n) (sym run_is)

    place_at : (p : ℕ) → p < cells_of inner → place_in order outer (get_or (coords_in_order order inner) p []) ≡ place_of ls hs (coords_of_place ks gs p)
    place_at p below =
        ap (place_in order outer) (get_or_from_slice_get (coords_in_order order inner) p (turned order (coords_of_place ks gs p)) [] (slice_get-coords_in_order order inner valid p below))
        ∙ ap (place_of ls hs) (turned-turned order (coords_of_place ks gs p))

    -- the place of the first cell of a run
    abbrev start : ℕ → ℕ
    start r = start_in ls hs ks gs last r

    in_run : (r k : ℕ) → k < run_in order inner → r < runs → r * run_in order inner + k < cells_of inner
    in_run r k within row =
        let rows : suc r * run_in order inner ≤ runs * run_in order inner = mul-le-mul row (omega arith) in
        omega (arith, rows, within, cells_are)

    -- along a dimension the other box begins no later
    low_at : (i : ℕ) → i < last + 1 → IsTrue (int_le (get_or ls i (pos 0)) (get_or ks i (pos 0)))
    low_at i within =
        (and_parts (int_le (get_or ls i (pos 0)) (get_or ks i (pos 0))) (int_le (get_or ks i (pos 0)) (get_or hs i (pos 0)))
        (is_between_at ls hs ks i (is_between-turned order outer.low outer.high inner.low low_in) (omega (arith, within, ls_many)))).0

    run_place : (r k : ℕ) → k < run_in order inner → r < runs → place_of ls hs (coords_of_place ks gs (r * run_in order inner + k)) ≡ start r + k
    run_place r k within row =
        ap (λ (m : ℕ). place_of ls hs (coords_of_place ks gs (r * m + k))) run_is
        ∙ run_on ls hs ks gs last r k ls_many hs_many ks_many gs_many (low_at last (omega arith)) (omega (arith, within, run_is)) row

    -- the place of a run in the other box
    abbrev pub begin_of : ℕ → ℕ
    begin_of r = place_in order outer (get_or (coords_in_order order inner) (r * run_in order inner) [])

    pub begin_found : (run r from : ℕ) (first : List ℤ) → run ≡ run_in order inner → slice_get (coords_in_order order inner) (r * run) ≡ Some first → slice_get (coords_in_order order outer) from ≡ Some first → from ≡ begin_of r
    begin_found run r from first is there found =
        let at : get_or (coords_in_order order inner) (r * run) [] ≡ first = get_or_from_slice_get (coords_in_order order inner) (r * run) first [] there in
        let in_it = covers first (is_in_box-slice_get order inner valid (r * run) first there) in
        place_of-only order outer first in_it from found ∙ sym (ap (λ n. place_in order outer (get_or (coords_in_order order inner) (r * n) [])) (sym is) ∙ ap (place_in order outer) at)

    -- a place of the list of them
    pub starts_many : (starts : List ℕ) → starts ≡ starts_over order outer inner → length starts ≡ cells_of inner / run_in order inner
    starts_many starts are = ap length are ∙ length-map-range_with_len begin_of 0 (cells_of inner / run_in order inner)

    pub starts_at : (starts : List ℕ) (r d : ℕ) → starts ≡ starts_over order outer inner → r < length starts → get_or starts r d ≡ begin_of r
    starts_at starts r d are within = ap (λ (xs : List ℕ). get_or xs r d) are ∙ get_or-map-range_with_len begin_of 0 (cells_of inner / run_in order inner) r r d (omega (arith, within, starts_many starts are)) (omega arith)

    begins_at : (r : ℕ) → 0 < run_in order inner → r < runs → begin_of r ≡ start r
    begins_at r filled row =
        let none : r * run_in order inner + 0 ≡ r * run_in order inner = omega arith in
        place_at (r * run_in order inner) (omega (arith, in_run r 0 filled row)) ∙ sym (ap (λ (p : ℕ). place_of ls hs (coords_of_place ks gs p)) none) ∙ run_place r 0 filled row ∙ omega arith

    -- the cells of a run follow one another in the other box
    followed : (r k : ℕ) → k < run_in order inner → r < runs
        → place_in order outer (get_or (coords_in_order order inner) (r * run_in order inner + k) []) ≡ place_in order outer (get_or (coords_in_order order inner) (r * run_in order inner) []) + k
    followed r k within row =
        let filled : 0 < run_in order inner = omega (arith, within) in
        place_at (r * run_in order inner + k) (in_run r k within row) ∙ run_place r k within row ∙ ap (λ (p : ℕ). p + k) (sym (begins_at r filled row))

    -- ---- runs that follow one another along the dimension that changes next

    abbrev front : List ℤ → List ℤ
    front xs = take last xs

    -- a run of the other box
    apart_is : run_in order outer ≡ count_between (get_or ls last (pos 0)) (get_or hs last (pos 0))
    apart_is =
        let dims = length-is_between outer.low outer.high inner.low low_in in
        let many : length outer.low ≡ last + 1 = omega (arith, some, dims.0) in
        let even : length outer.high ≡ length outer.low = omega (arith, dims.0, dims.1) in
        let place : length outer.low - 1 ≡ last = omega (arith, many) in
        let low = get_or-turned order outer.low last (pos 0) (omega (arith, many)) in
        let high = get_or-turned order outer.high last (pos 0) (omega (arith, many, even)) ∙ ap (λ (n : ℕ). get_or outer.high (dim_at order n last) (pos 0)) even in
        ap (λ (n : ℕ). count_between (get_or outer.low (dim_at order (length outer.low) n) (pos 0)) (get_or outer.high (dim_at order (length outer.low) n) (pos 0))) place ∙ sym (λ i. count_between (low i) (high i))

    module _ (two : 2 ≤ length inner.low) where
      abbrev next : ℕ
      next = length inner.low - 2

      front_long : (xs : List ℤ) → length xs ≡ last + 1 → length (front xs) ≡ next + 1
      front_long xs long = omega (arith, length-take last xs, long, two)

      in_front : (xs : List ℤ) → get_or (front xs) next (pos 0) ≡ get_or xs next (pos 0)
      in_front xs = get_or-take last xs next (pos 0) (omega (arith, two))

      -- how many there are
      abbrev side : ℕ
      side = count_between (get_or (front ks) next (pos 0)) (get_or (front gs) next (pos 0))

      side_is : side ≡ count_between (get_or inner.low (dim_at order (length inner.low) next) (pos 0)) (get_or inner.high (dim_at order (length inner.low) next) (pos 0))
      side_is =
          let low = in_front ks ∙ get_or-turned order inner.low next (pos 0) (omega (arith, two)) in
          let high = in_front gs ∙ get_or-turned order inner.high next (pos 0) (omega (arith, two, high_many)) ∙ ap (λ (n : ℕ). get_or inner.high (dim_at order n next) (pos 0)) high_many in
          λ i. count_between (low i) (high i)

      front_runs : runs ≡ cells_between (take next (front ks)) (take next (front gs)) * side
      front_runs =
          let low = split_last (front ks) next (front_long ks ks_many) in
          let high = split_last (front gs) next (front_long gs gs_many) in
          (λ i. cells_between (low i) (high i))
          ∙ cells_between-push (take next (front ks)) (take next (front gs)) (get_or (front ks) next (pos 0)) (get_or (front gs) next (pos 0)) (omega (arith, length-take next (front ks), length-take next (front gs), front_long ks ks_many, front_long gs gs_many))

      front_place : (q k : ℕ) → k < side → q < cells_between (take next (front ks)) (take next (front gs)) → place_of (front ls) (front hs) (coords_of_place (front ks) (front gs) (q * side + k)) ≡ start_in (front ls) (front hs) (front ks) (front gs) next q + k
      front_place q k within row =
          let low = subst (λ (z : ℤ). IsTrue (int_le z (get_or (front ks) next (pos 0)))) (sym (in_front ls)) (subst (λ (z : ℤ). IsTrue (int_le (get_or ls next (pos 0)) z)) (sym (in_front ks)) (low_at next (omega (arith, two)))) in
          run_on (front ls) (front hs) (front ks) (front gs) next q k (front_long ls ls_many) (front_long hs hs_many) (front_long ks ks_many) (front_long gs gs_many) low within row

      -- each begins as far from the one before as a run of the other box is long
      front_follows : (q k : ℕ) → k < side → q < cells_between (take next (front ks)) (take next (front gs)) → start (q * side + k) ≡ start (q * side) + k * run_in order outer
      front_follows q k within row =
          let none : q * side + 0 ≡ q * side = omega arith in
          let first : place_of (front ls) (front hs) (coords_of_place (front ks) (front gs) (q * side)) ≡ start_in (front ls) (front hs) (front ks) (front gs) next q = sym (ap (λ (p : ℕ). place_of (front ls) (front hs) (coords_of_place (front ks) (front gs) p)) none) ∙ front_place q 0 (omega (arith, within)) row ∙ omega arith in
          let here : place_of (front ls) (front hs) (coords_of_place (front ks) (front gs) (q * side + k)) ≡ place_of (front ls) (front hs) (coords_of_place (front ks) (front gs) (q * side)) + k = front_place q k within row ∙ ap (λ (p : ℕ). p + k) (sym first) in
          ap (λ (p : ℕ). p * count_between (get_or ls last (pos 0)) (get_or hs last (pos 0)) + natural_of (get_or ks last (pos 0) -ℤ get_or ls last (pos 0))) here
          ∙ spread (place_of (front ls) (front hs) (coords_of_place (front ks) (front gs) (q * side))) k (count_between (get_or ls last (pos 0)) (get_or hs last (pos 0))) (natural_of (get_or ks last (pos 0) -ℤ get_or ls last (pos 0)))
          ∙ ap (λ (m : ℕ). start (q * side) + k * m) (sym apart_is)

    module _ (rows : ℕ) (one : length inner.low ≤ 1 → rows ≡ 1) (more : 2 ≤ length inner.low → rows ≡ count_between (get_or inner.low (dim_at order (length inner.low) (length inner.low - 2)) (pos 0)) (get_or inner.high (dim_at order (length inner.low) (length inner.low - 2)) (pos 0)))
        (positive : 0 < rows) (filled : 0 < run_in order inner) where
      -- the runs are so many blocks of them
      in_blocks : (b : ℕ) × (runs ≡ b * rows)
      in_blocks = by (cases_lt (length inner.low) 2)
        where
          by : (length inner.low < 2) ⊎ (2 ≤ length inner.low) → (b : ℕ) × (runs ≡ b * rows)
          by (inl few) = let single : rows ≡ 1 = one (omega (arith, few)) in (runs, subst (λ (n : ℕ). runs ≡ runs * n) (sym single) (omega arith))
          by (inr two) = (cells_between (take (next two) (front ks)) (take (next two) (front gs)), front_runs two ∙ ap (λ (n : ℕ). cells_between (take (next two) (front ks)) (take (next two) (front gs)) * n) (side_is two ∙ sym (more two)))

      runs_are : cells_of inner / run_in order inner ≡ runs
      runs_are = ap (λ n. n / run_in order inner) cells_are ∙ mul-div_cancel runs filled

      blocks_are : cells_of inner / run_in order inner / rows ≡ in_blocks.0
      blocks_are = ap (λ n. n / rows) (runs_are ∙ in_blocks.1) ∙ mul-div_cancel in_blocks.0 positive

      -- all of them
      pub blocks_all : cells_of inner / run_in order inner / rows * rows ≡ cells_of inner / run_in order inner
      blocks_all = ap (λ n. n * rows) blocks_are ∙ sym (runs_are ∙ in_blocks.1)

      module _ (q : ℕ) (within : q < cells_of inner / run_in order inner / rows) where
        among_runs : (k : ℕ) → k < rows → q * rows + k < runs
        among_runs k here =
            let upto : suc q * rows ≤ in_blocks.0 * rows = mul-le-mul (omega (arith, within, blocks_are)) (omega arith) in
            omega (arith, upto, here, in_blocks.1)

        -- a run of a block is one of the box
        pub block_begins : q * rows * run_in order inner < cells_of inner
        block_begins = omega (arith, in_run (q * rows) 0 filled (omega (arith, among_runs 0 positive)))

        pub block_follows : (k : ℕ) → k < rows → begin_of (q * rows + k) ≡ begin_of (q * rows) + k * run_in order outer
        block_follows k here = by (cases_lt (length inner.low) 2)
          where
            by : (length inner.low < 2) ⊎ (2 ≤ length inner.low) → begin_of (q * rows + k) ≡ begin_of (q * rows) + k * run_in order outer
            by (inl few) =
                let none : k ≡ 0 = omega (arith, here, one (omega (arith, few))) in
                let same : q * rows + 0 ≡ q * rows = omega arith in
                let all : begin_of (q * rows) ≡ begin_of (q * rows) + 0 * run_in order outer = omega arith in
                subst (λ (j : ℕ). begin_of (q * rows + j) ≡ begin_of (q * rows) + j * run_in order outer) (sym none) (ap begin_of same ∙ all)
            by (inr two) =
                let are : rows ≡ side two = more two ∙ sym (side_is two) in
                let block : q < cells_between (take (next two) (front ks)) (take (next two) (front gs)) =
                omega (arith, within, runs_are, mul-div_cancel (cells_between (take (next two) (front ks)) (take (next two) (front gs))) positive, ap (λ n. n / rows) (runs_are ∙ front_runs two ∙ ap (λ n. cells_between (take (next two) (front ks)) (take (next two) (front gs)) * n) (sym are))) in
                let first : q * rows < runs = omega (arith, among_runs 0 positive) in
                begins_at (q * rows + k) filled (among_runs k here)
                ∙ subst (λ (n : ℕ). start (q * n + k) ≡ start (q * n) + k * run_in order outer) (sym are) (front_follows two q k (omega (arith, here, are)) block)
                ∙ ap (λ (p : ℕ). p + k * run_in order outer) (sym (begins_at (q * rows) filled first))

        -- so the places of the last of them is one of a cell of the other box
        pub block_ends : begin_of (q * rows) + (rows - 1) * run_in order outer < cells_of outer
        block_ends =
            let last_one : rows - 1 < rows = omega (arith, positive) in
            omega (arith, block_follows (rows - 1) last_one, place_below ((q * rows + (rows - 1)) * run_in order inner) (omega (arith, in_run (q * rows + (rows - 1)) 0 filled (among_runs (rows - 1) last_one))))

        -- the runs of one block more
        pub block_more : (starts more_starts : List ℕ) (first : ℕ) → starts ≡ map begin_of (range_with_len 0 (q * rows)) → first ≡ begin_of (q * rows) → more_starts ≡ starts ++ map (λ row. first + row * run_in order outer) (range_with_len 0 rows)
            → more_starts ≡ map begin_of (range_with_len 0 ((q + 1) * rows))
        block_more starts more_starts first so begins push =
            let upto : q * rows + rows ≡ (q + 1) * rows = omega arith in
            push ∙ ap (λ ys. ys ++ map (λ row. first + row * run_in order outer) (range_with_len 0 rows)) so
            ∙ grown begin_of (λ row. first + row * run_in order outer) (q * rows) rows (λ k here. ap (λ (p : ℕ). p + k * run_in order outer) begins ∙ sym (block_follows k here))
            ∙ ap (λ n. map begin_of (range_with_len 0 n)) upto

    -- behind the last run there are all cells
    pub runs_end : (run row : ℕ) → run ≡ run_in order inner → 0 < run → cells_of inner / run ≤ row → cells_of inner ≤ row * run
    runs_end run row is positive over =
        let rows : runs ≤ row = omega (arith, over, ap (λ n. n / run) (cells_are ∙ ap (λ n. runs * n) (sym is)) ∙ mul-div_cancel runs positive) in
        let all : runs * run ≤ row * run = mul-le-mul rows (omega arith) in
        omega (arith, all, cells_are ∙ ap (λ n. runs * n) (sym is))

    -- and so all values
    pub runs_all : (run row : ℕ) (column part : List Val) → run ≡ run_in order inner → 0 < run → cells_of inner / run ≤ row → part ≡ take (row * run) (vals_over order outer inner column) → part ≡ vals_over order outer inner column
    runs_all run row column part is positive over so =
        let many : length (vals_over order outer inner column) ≡ cells_of inner =
        length-map (places_over order outer inner) (λ (k : ℕ). get_or column k Null) ∙ length-map (coords_in_order order inner) (place_in order outer) ∙ length-coords_in_order order inner valid in
        so ∙ take_all (row * run) (vals_over order outer inner column) (omega (arith, many, runs_end run row is positive over))

    module _ (run row from : ℕ) (is : run ≡ run_in order inner) (positive : 0 < run) (within : row < cells_of inner / run) where
      among : row < runs
      among = omega (arith, within, ap (λ n. n / run) (cells_are ∙ ap (λ n. runs * n) (sym is)) ∙ mul-div_cancel runs positive)

      -- a run ends before the cells do
      pub run_ends : row * run + run ≤ cells_of inner
      run_ends =
          let rows : suc row * run ≤ runs * run = mul-le-mul among (omega arith) in
          omega (arith, rows, cells_are ∙ ap (λ n. runs * n) (sym is))

      module _ (begins : from ≡ place_in order outer (get_or (coords_in_order order inner) (row * run_in order inner) [])) where
        place_on : (k : ℕ) → k < run → place_in order outer (get_or (coords_in_order order inner) (row * run + k) []) ≡ from + k
        place_on k on = ap (λ n. place_in order outer (get_or (coords_in_order order inner) (row * n + k) [])) is ∙ followed row k (omega (arith, on, is)) among ∙ ap (λ (p : ℕ). p + k) (sym begins)

        -- in the other box it does so too
        pub run_fits : from + run ≤ cells_of outer
        run_fits =
            let end : row * run + (run - 1) < cells_of inner = omega (arith, run_ends, positive) in
            omega (arith, positive, place_below (row * run + (run - 1)) end, place_on (run - 1) (omega (arith, positive)))

        -- the cells of a run stand one after another in both boxes
        pub run_cells : take run (drop (row * run) (coords_in_order order inner)) ≡ take run (drop from (coords_in_order order outer))
        run_cells =
            let xs = drop (row * run) (coords_in_order order inner) in
            let ys = drop from (coords_in_order order outer) in
            let left : length (take run (drop (row * run) (coords_in_order order inner))) ≡ run = omega (arith, length-take run xs, length-drop (row * run) (coords_in_order order inner), length-coords_in_order order inner valid, run_ends) in
            let right : length (take run (drop from (coords_in_order order outer))) ≡ run = omega (arith, length-take run ys, length-drop from (coords_in_order order outer), outer_many, run_fits) in
            same_lists (take run xs) (take run ys) (left ∙ sym right)
            (λ k d there. let on : k < run = omega (arith, there, left) in
            let cell = get_or (coords_in_order order inner) (row * run + k) [] in
            let below : row * run + k < cells_of inner = omega (arith, on, run_ends) in
            let found : slice_get (coords_in_order order outer) (from + k) ≡ Some cell = subst (λ (p : ℕ). slice_get (coords_in_order order outer) p ≡ Some cell) (place_on k on) (slice_get-place_of order outer cell (inside_at (row * run + k) below)) in
            get_or-take run xs k d on ∙ get_or-drop (row * run) (coords_in_order order inner) k d
            ∙ get_or_default (coords_in_order order inner) (row * run + k) d [] (omega (arith, below, length-coords_in_order order inner valid))
            ∙ sym (get_or-take run ys k d on ∙ get_or-drop from (coords_in_order order outer) k d ∙ get_or_from_slice_get (coords_in_order order outer) (from + k) cell d found))

        module _ (column : List Val) (long : length column ≡ cells_of outer) where
          vals_many : length (vals_over order outer inner column) ≡ cells_of inner
          vals_many =
              length-map (places_over order outer inner) (λ (k : ℕ). get_or column k Null) ∙ length-map (coords_in_order order inner) (place_in order outer) ∙ length-coords_in_order order inner valid

          val_at : (p : ℕ) (d : Val) → p < cells_of inner → get_or (vals_over order outer inner column) p d ≡ get_or column (place_in order outer (get_or (coords_in_order order inner) p [])) Null
          val_at p d below =
              let few : p < length (coords_in_order order inner) = omega (arith, below, length-coords_in_order order inner valid) in
              let many : p < length (places_over order outer inner) = omega (arith, few, length-map (coords_in_order order inner) (place_in order outer)) in
              get_or-map (λ (k : ℕ). get_or column k Null) (places_over order outer inner) p 0 d many ∙ ap (λ (k : ℕ). get_or column k Null) (get_or-map (place_in order outer) (coords_in_order order inner) p [] 0 few)

          -- the values of a run
          run_vals : take run (drop (row * run) (vals_over order outer inner column)) ≡ take run (drop from column)
          run_vals =
              let xs = drop (row * run) (vals_over order outer inner column) in
              let ys = drop from column in
              let left : length (take run (drop (row * run) (vals_over order outer inner column))) ≡ run = omega (arith, length-take run xs, length-drop (row * run) (vals_over order outer inner column), vals_many, run_ends) in
              let right : length (take run (drop from column)) ≡ run = omega (arith, length-take run ys, length-drop from column, long, run_fits) in
              same_lists (take run xs) (take run ys) (left ∙ sym right)
              (λ k d there. let on : k < run = omega (arith, there, left) in
              get_or-take run xs k d on ∙ get_or-drop (row * run) (vals_over order outer inner column) k d ∙ val_at (row * run + k) d (omega (arith, on, run_ends))
              ∙ ap (λ (p : ℕ). get_or column p Null) (place_on k on) ∙ sym (get_or-take run ys k d on ∙ get_or-drop from column k d ∙ get_or_default column (from + k) d Null (omega (arith, on, long, run_fits))))

          -- one run more
          pub run_more : (part more : List Val) → part ≡ take (row * run) (vals_over order outer inner column) → more ≡ part ++ take run (drop from column) → more ≡ take ((row + 1) * run) (vals_over order outer inner column)
          run_more part more so push =
              let next : row * run + run ≡ (row + 1) * run = omega arith in
              push ∙ ap (λ vs. vs ++ take run (drop from column)) so ∙ ap (λ vs. take (row * run) (vals_over order outer inner column) ++ vs) (sym run_vals)
              ∙ sym (take_on (row * run) run (vals_over order outer inner column)) ∙ ap (λ n. take n (vals_over order outer inner column)) next

    -- run after run, the values of the first of them
    pub runs_joined : (run : ℕ) (starts : List ℕ) (column : List Val) → run ≡ run_in order inner → 0 < run → starts ≡ starts_over order outer inner → length column ≡ cells_of outer → (n : ℕ) → n ≤ length starts
        → flat_map (λ from. take run (drop from column)) (take n starts) ≡ take (n * run) (vals_over order outer inner column)
    runs_joined run starts column is positive are long zero few = let none : 0 ≡ zero * run = omega arith in ap (λ m. take m (vals_over order outer inner column)) none
    runs_joined run starts column is positive are long (suc n) few =
        let one : suc n ≡ n + 1 = omega arith in
        let there : n < length starts = omega (arith, few) in
        let within : n < cells_of inner / run = omega (arith, there, starts_many starts are, ap (λ m. cells_of inner / m) is) in
        let before = flat_map (λ from. take run (drop from column)) (take n starts) in
        let more = ap (λ m. flat_map (λ from. take run (drop from column)) (take m starts)) one
        ∙ ap (flat_map (λ from. take run (drop from column))) (take_more starts n 0 there)
        ∙ flat_map-append (λ from. take run (drop from column)) (take n starts) (get_or starts n 0 ∷ [])
        ∙ ap (λ vs. before ++ vs) (append-nil (take run (drop (get_or starts n 0) column))) in
        run_more run n (get_or starts n 0) is positive within (starts_at starts n 0 are there) column long before (flat_map (λ from. take run (drop from column)) (take (suc n) starts)) (runs_joined run starts column is positive are long n (omega (arith, few))) more
        ∙ ap (λ m. take (m * run) (vals_over order outer inner column)) (sym one)
