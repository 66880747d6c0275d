-- Space tiles in tile order: how many cells stand before one, and which meet a box.
use Rattle.std.proofs.Common.{◌≡◌, ℕ, zero, suc, ◌+◌, ◌<◌, ◌≤◌, Bool, true, false, ◌&&◌, cond, ℤ, pos, List, [], ◌∷◌, ◌++◌, reverse, length, map, get_or, take, Some, refl, sym, ap, subst, ◌∙◌, arith}
use Rattle.std.specs.Prelude.{IsTrue, int_le, slice_get, filter}
use Rattle.std.specs.Int.{int_min, int_max}
use Rattle.std.specs.List.{All, sum, sum_by}
use Rattle.std.proofs.lemmas.List.{reverse-append, length-reverse, take-map}
use Rattle.std.proofs.lemmas.List.Sums.{sum_by-cons, sum-map}
use Rattle.std.proofs.lemmas.List.Elements.{All-head, All-tail, All-nil, All-cons, All-append, All-take, All-weaker, All-from_get_or, All-map, filter_agree}
use Rattle.std.proofs.lemmas.Option.{get_or_from_slice_get, slice_get-get_or}
use Rattle.std.proofs.lemmas.Bool.{and_parts, and_from}
use Rattle.std.proofs.lemmas.Int.{ints, clamps}
use Rattle.ts_domain.specs.declared.dims.Dim.{Dim}
use Rattle.ts_domain.specs.declared.orders.Order.{Order}
use Rattle.ts_domain.specs.declared.orders.Order.TheVariants.{Row, Col}
use Rattle.ts_domain.specs.declared.boxes.SubBox.{SubBox}
use Rattle.ts_domain.specs.Bounds.{are_bounds, is_between, cells_between, coords_between, least_corner, greatest_corner, do_meet}
use Rattle.ts_domain.specs.Boxes.{IsBox, is_in_box, cells_of, do_boxes_meet}
use Rattle.ts_domain.specs.Rects.{places_from, places_meeting}
use Rattle.ts_domain.specs.Dims.{IsSoundDim, tile_number, tile_start, tile_end}
use Rattle.ts_domain.specs.Domains.{is_in_domain, LiesInDomain}
use Rattle.ts_domain.proofs.Between.{within_from, are_bounds-cons, are_bounds-is_between, is_between-low, is_between-greatest_corner, length-is_between, length-coords_between}
use Rattle.ts_order.specs.Orders.{turned, tile_numbers, coords_in_order}
use Rattle.ts_order.specs.Places.{coords_of_place, place_of}
use Rattle.ts_order.specs.Tiles.{cut_low, cut_high, cut_box, tile_box, tiles_in}
use Rattle.ts_order.proofs.OrderLemmas.{turned-turned, length-turned, length-is_in_domain, length-tile_numbers}
use Rattle.ts_order.proofs.TurnedLemmas.{are_bounds-turned, cells_between-turned, is_between-turned, turned-is_between}
use Rattle.ts_order.proofs.TileSteps.{length-cut_low, length-cut_high}
use Rattle.ts_order.proofs.PlaceLaws.{slice_get-coords_between, is_between-coords_of_place}
use Rattle.ts_order.proofs.OrderedCoords.{length-coords_in_order, is_in_box-slice_get}
use Rattle.ts_order.proofs.TileLaws.{is_between-tile_numbers}
use Rattle.ts_order.proofs.TilesLemmas.{IsBox-tile_box}
use Rattle.ts_gather.proofs.PartLaws.{between_on}
use Rattle.ts_dense_read.specs.TileRanges.{nearest, range_of, cells_before}
use Rattle.ts_dense_read.proofs.TileSums.{mapped, part_cells, parts_before}
use Rattle.ts_dense_read.proofs.TileRanges.{le, coords_within, same_test, meets_range}

-- ---- dimensions turned

reverse-cons : {A : Type 0} (x : A) (xs : List A) → reverse (x ∷ xs) ≡ reverse xs ++ x ∷ []
reverse-cons x xs = reverse-append (x ∷ []) xs

numbers_push : (ds : List Dim) (xs : List ℤ) (d : Dim) (x : ℤ) → length xs ≡ length ds → tile_numbers (ds ++ d ∷ []) (xs ++ x ∷ []) ≡ tile_numbers ds xs ++ tile_number d x ∷ []
numbers_push [] [] d x e = refl
numbers_push [] (y ∷ xs) d x e = absurd (omega (arith, e))
numbers_push (c ∷ ds) [] d x e = absurd (omega (arith, e))
numbers_push (c ∷ ds) (y ∷ xs) d x e = ap (λ zs. tile_number c y ∷ zs) (numbers_push ds xs d x (omega (arith, e)))

numbers_reverse : (ds : List Dim) (xs : List ℤ) → length xs ≡ length ds → reverse (tile_numbers ds xs) ≡ tile_numbers (reverse ds) (reverse xs)
numbers_reverse [] [] e = refl
numbers_reverse [] (x ∷ xs) e = absurd (omega (arith, e))
numbers_reverse (d ∷ ds) [] e = absurd (omega (arith, e))
numbers_reverse (d ∷ ds) (x ∷ xs) e =
    let same : length xs ≡ length ds = omega (arith, e) in
    reverse-cons (tile_number d x) (tile_numbers ds xs) ∙ ap (λ zs. zs ++ tile_number d x ∷ []) (numbers_reverse ds xs same)
    ∙ sym (numbers_push (reverse ds) (reverse xs) d x (length-reverse xs ∙ same ∙ sym (length-reverse ds)))
    ∙ (λ i. tile_numbers (sym (reverse-cons d ds) i) (sym (reverse-cons x xs) i))

pub numbers_turned : (order : Order) (ds : List Dim) (xs : List ℤ) → length xs ≡ length ds → turned order (tile_numbers ds xs) ≡ tile_numbers (turned order ds) (turned order xs)
numbers_turned Row ds xs e = refl
numbers_turned Col ds xs e = numbers_reverse ds xs e

-- what a cut makes of one bound
module _ (f : Dim → ℤ → ℤ → ℤ) (cut : List Dim → List ℤ → List ℤ → List ℤ) (none : cut [] [] [] ≡ []) (each : (d : Dim) (t l : ℤ) (ds : List Dim) (ts ls : List ℤ) → cut (d ∷ ds) (t ∷ ts) (l ∷ ls) ≡ f d t l ∷ cut ds ts ls) where
  cut_push : (ds : List Dim) (ts ls : List ℤ) (d : Dim) (t l : ℤ) → length ts ≡ length ds → length ls ≡ length ds → cut (ds ++ d ∷ []) (ts ++ t ∷ []) (ls ++ l ∷ []) ≡ cut ds ts ls ++ f d t l ∷ []
  cut_push [] [] [] d t l e g = each d t l [] [] [] ∙ ap (λ zs. f d t l ∷ zs) none ∙ ap (λ zs. zs ++ f d t l ∷ []) (sym none)
  cut_push [] [] (k ∷ ls) d t l e g = absurd (omega (arith, g))
  cut_push [] (n ∷ ts) ls d t l e g = absurd (omega (arith, e))
  cut_push (c ∷ ds) [] ls d t l e g = absurd (omega (arith, e))
  cut_push (c ∷ ds) (n ∷ ts) [] d t l e g = absurd (omega (arith, g))
  cut_push (c ∷ ds) (n ∷ ts) (k ∷ ls) d t l e g =
      each c n k (ds ++ d ∷ []) (ts ++ t ∷ []) (ls ++ l ∷ []) ∙ ap (λ zs. f c n k ∷ zs) (cut_push ds ts ls d t l (omega (arith, e)) (omega (arith, g)))
      ∙ ap (λ zs. zs ++ f d t l ∷ []) (sym (each c n k ds ts ls))

  cut_reverse : (ds : List Dim) (ts ls : List ℤ) → length ts ≡ length ds → length ls ≡ length ds → reverse (cut ds ts ls) ≡ cut (reverse ds) (reverse ts) (reverse ls)
  cut_reverse [] [] [] e g = ap reverse none ∙ sym none
  cut_reverse [] [] (k ∷ ls) e g = absurd (omega (arith, g))
  cut_reverse [] (n ∷ ts) ls e g = absurd (omega (arith, e))
  cut_reverse (d ∷ ds) [] ls e g = absurd (omega (arith, e))
  cut_reverse (d ∷ ds) (n ∷ ts) [] e g = absurd (omega (arith, g))
  cut_reverse (d ∷ ds) (n ∷ ts) (k ∷ ls) e g =
      let first : length ts ≡ length ds = omega (arith, e) in
      let second : length ls ≡ length ds = omega (arith, g) in
      ap reverse (each d n k ds ts ls) ∙ reverse-cons (f d n k) (cut ds ts ls) ∙ ap (λ zs. zs ++ f d n k ∷ []) (cut_reverse ds ts ls first second)
      ∙ sym (cut_push (reverse ds) (reverse ts) (reverse ls) d n k (length-reverse ts ∙ first ∙ sym (length-reverse ds)) (length-reverse ls ∙ second ∙ sym (length-reverse ds)))
      ∙ (λ i. cut (sym (reverse-cons d ds) i) (sym (reverse-cons n ts) i) (sym (reverse-cons k ls) i))

  cut_turned : (order : Order) (ds : List Dim) (ts ls : List ℤ) → length ts ≡ length ds → length ls ≡ length ds → turned order (cut ds ts ls) ≡ cut (turned order ds) (turned order ts) (turned order ls)
  cut_turned Row ds ts ls e g = refl
  cut_turned Col ds ts ls e g = cut_reverse ds ts ls e g

pub low_turned : (order : Order) (ds : List Dim) (ts ls : List ℤ) → length ts ≡ length ds → length ls ≡ length ds → turned order (cut_low ds ts ls) ≡ cut_low (turned order ds) (turned order ts) (turned order ls)
low_turned order ds ts ls e g = cut_turned (λ d t l. int_max l (tile_start d t)) cut_low refl (λ d t l ds ts ls. refl) order ds ts ls e g

pub high_turned : (order : Order) (ds : List Dim) (ts ls : List ℤ) → length ts ≡ length ds → length ls ≡ length ds → turned order (cut_high ds ts ls) ≡ cut_high (turned order ds) (turned order ts) (turned order ls)
high_turned order ds ts ls e g = cut_turned (λ d t h. int_min h (tile_end d t)) cut_high refl (λ d t l ds ts ls. refl) order ds ts ls e g

all_turned : {A : Type 0} (P : A → Type 0) (order : Order) (xs : List A) → All P xs → All P (turned order xs)
all_turned P Row xs all = all
all_turned {A} P Col xs all = back xs all
  where
    back : (ys : List A) → All P ys → All P (reverse ys)
    back [] every = every
    back (y ∷ ys) every =
        subst (All P) (sym (reverse-append (y ∷ []) ys)) (All-append P (reverse ys) (y ∷ []) (back ys (All-tail P y ys every)) (All-cons P y [] (All-head P y ys every) (All-nil P)))

map_turned : {A B : Type 0} (f : A → B) (order : Order) (xs : List A) → map f (turned order xs) ≡ turned order (map f xs)
map_turned f Row xs = refl
map_turned {A} f Col xs = back xs
  where
    back : (ys : List A) → map f (reverse ys) ≡ reverse (map f ys)
    back [] = refl
    back (y ∷ ys) = ap (map f) (reverse-cons y ys) ∙ map_push (reverse ys) y ∙ ap (λ zs. zs ++ f y ∷ []) (back ys) ∙ sym (reverse-cons (f y) (map f ys))
      where
        map_push : (zs : List A) (z : A) → map f (zs ++ z ∷ []) ≡ map f zs ++ f z ∷ []
        map_push [] z = refl
        map_push (w ∷ zs) z = ap (λ vs. f w ∷ vs) (map_push zs z)

-- ---- lists

same_sums : {X : Type 0} (f g : X → ℕ) (xs : List X) → All (λ x. f x ≡ g x) xs → sum_by f xs ≡ sum_by g xs
same_sums f g [] all = refl
same_sums {X = X} f g (x ∷ xs) all =
    let E = λ (y : X). f y ≡ g y in
    sum_by-cons f x xs ∙ (λ i. All-head E x xs all i + same_sums f g xs (All-tail E x xs all) i) ∙ sym (sum_by-cons g x xs)

filter_mapped : {X Y : Type 0} (test : Y → Bool) (f : X → Y) (xs : List X) → filter test (map f xs) ≡ map f (filter (λ x. test (f x)) xs)
filter_mapped test f [] = refl
filter_mapped test f (x ∷ xs) = ap (λ ys. cond (test (f x)) (f x ∷ ys) ys) (filter_mapped test f xs) ∙ go (test (f x))
  where
    go : (b : Bool) → cond b (f x ∷ map f (filter (λ y. test (f y)) xs)) (map f (filter (λ y. test (f y)) xs)) ≡ map f (cond b (x ∷ filter (λ y. test (f y)) xs) (filter (λ y. test (f y)) xs))
    go true = refl
    go false = refl

-- no more pass than there are
fewer_pass : {X : Type 0} (test : X → Bool) (xs : List X) → length (filter test xs) ≤ length xs
fewer_pass test [] = omega arith
fewer_pass test (x ∷ xs) = go (fewer_pass test xs) (test x)
  where
    go : length (filter test xs) ≤ length xs → (b : Bool) → length (cond b (x ∷ filter test xs) (filter test xs)) ≤ suc (length xs)
    go rest true = omega (arith, rest)
    go rest false = omega (arith, rest)

-- the coordinates between two corners have a number for each dimension
between_long : (ls hs : List ℤ) → length hs ≡ length ls → All (λ (c : List ℤ). length c ≡ length ls) (coords_between ls hs)
between_long ls hs same = All-from_get_or (λ (c : List ℤ). length c ≡ length ls) (coords_between ls hs) [] (λ i inside.
    let below : i < cells_between ls hs = subst (λ (n : ℕ). i < n) (length-coords_between ls hs) inside in
    let at = get_or_from_slice_get (coords_between ls hs) i (coords_of_place ls hs i) [] (slice_get-coords_between ls hs i same below) in
    ap length at ∙ sym (length-is_between ls hs (coords_of_place ls hs i) (is_between-coords_of_place ls hs i same below)).0)

-- ---- cells before a tile

module _ (dims : List Dim) (tile : Order) (hull : SubBox) (sound : All IsSoundDim dims) (box : IsBox hull) (inside : LiesInDomain dims hull) where
  lows : length hull.low ≡ length dims
  lows = length-is_in_domain dims hull.low inside.0

  highs : length hull.high ≡ length dims
  highs = length-is_in_domain dims hull.high inside.1

  -- the numbers of the tiles, in tile order
  abbrev numbers : SubBox
  numbers = tile_box dims hull

  low_numbers : turned tile numbers.low ≡ tile_numbers (turned tile dims) (turned tile hull.low)
  low_numbers = numbers_turned tile dims hull.low lows

  high_numbers : turned tile numbers.high ≡ tile_numbers (turned tile dims) (turned tile hull.high)
  high_numbers = numbers_turned tile dims hull.high highs

  sound_turned : All IsSoundDim (turned tile dims)
  sound_turned = all_turned IsSoundDim tile dims sound

  inside_turned : IsTrue (is_in_domain (turned tile dims) (turned tile hull.low))
  inside_turned =
      let first = map_turned (λ (d : Dim). d.low) tile dims in
      let second = map_turned (λ (d : Dim). d.high) tile dims in
      subst (λ (b : Bool). IsTrue b) (λ i. is_between (sym first i) (sym second i) (turned tile hull.low)) (is_between-turned tile (map (λ (d : Dim). d.low) dims) (map (λ (d : Dim). d.high) dims) hull.low inside.0)

  -- a tile has as many cells as its part
  part_is : (c : List ℤ) → length c ≡ length dims → cells_of (cut_box dims hull (turned tile c)) ≡ part_cells (turned tile dims) (turned tile hull.low) (turned tile hull.high) c
  part_is c long =
      let n = turned tile c in
      let same : length n ≡ length dims = length-turned tile c ∙ long in
      let low = low_turned tile dims n hull.low same lows ∙ ap (λ (ts : List ℤ). cut_low (turned tile dims) ts (turned tile hull.low)) (turned-turned tile c) in
      let high = high_turned tile dims n hull.high same highs ∙ ap (λ (ts : List ℤ). cut_high (turned tile dims) ts (turned tile hull.high)) (turned-turned tile c) in
      let even = length-cut_high dims n hull.high same highs ∙ sym (length-cut_low dims n hull.low same lows) in
      sym (cells_between-turned tile (cut_low dims n hull.low) (cut_high dims n hull.high) even) ∙ (λ i. cells_between (low i) (high i))

  pub before_is : (n : List ℤ) → IsTrue (is_in_box (tile_box dims hull) n)
      → sum (take (place_of (turned tile (tile_box dims hull).low) (turned tile (tile_box dims hull).high) (turned tile n)) (map cells_of (tiles_in dims tile hull)))
      ≡ cells_before (turned tile hull.low) (turned tile hull.high) (turned tile (cut_box dims hull n).low) (turned tile (cut_box dims hull n).high)
  before_is n within =
      let all = coords_between (turned tile numbers.low) (turned tile numbers.high) in
      let place = place_of (turned tile numbers.low) (turned tile numbers.high) (turned tile n) in
      let cut = cut_box dims hull in
      let F = part_cells (turned tile dims) (turned tile hull.low) (turned tile hull.high) in
      let first : length (turned tile numbers.low) ≡ length dims = length-turned tile numbers.low ∙ length-tile_numbers dims hull.low lows in
      let second : length (turned tile numbers.high) ≡ length dims = length-turned tile numbers.high ∙ length-tile_numbers dims hull.high highs in
      let long = between_long (turned tile numbers.low) (turned tile numbers.high) (second ∙ sym first) in
      let parts = All-weaker (λ (c : List ℤ). length c ≡ length (turned tile numbers.low)) (λ (c : List ℤ). cells_of (cut (turned tile c)) ≡ F c) (λ c same. part_is c (same ∙ first)) (take place all)
      (All-take (λ (c : List ℤ). length c ≡ length (turned tile numbers.low)) place all long) in
      let t = subst (λ (b : Bool). IsTrue b) (λ i. is_between (low_numbers i) (high_numbers i) (turned tile n)) (is_between-turned tile numbers.low numbers.high n within) in
      let known : length n ≡ length dims = sym (length-is_between numbers.low numbers.high n within).0 ∙ length-tile_numbers dims hull.low lows in
      let low = low_turned tile dims n hull.low known lows in
      let high = high_turned tile dims n hull.high known highs in
      ap sum (take-map cells_of place (tiles_in dims tile hull)) ∙ sum-map cells_of (take place (tiles_in dims tile hull))
      ∙ ap (sum_by cells_of) (take-map cut place (map (turned tile) all) ∙ ap (map cut) (take-map (turned tile) place all))
      ∙ mapped cells_of cut (map (turned tile) (take place all)) ∙ mapped (λ c. cells_of (cut c)) (turned tile) (take place all)
      ∙ same_sums (λ c. cells_of (cut (turned tile c))) F (take place all) parts
      ∙ (λ i. sum_by F (take (place_of (low_numbers i) (high_numbers i) (turned tile n)) (coords_between (low_numbers i) (high_numbers i))))
      ∙ parts_before (turned tile dims) (turned tile hull.low) (turned tile hull.high) (turned tile n) sound_turned inside_turned (are_bounds-turned tile hull.low hull.high box) t
      ∙ (λ i. cells_before (turned tile hull.low) (turned tile hull.high) (sym low i) (sym high i))

-- ---- tiles that meet a box

-- the coordinates of a box in another are those of the other that lie in it, in their order
pub range_is : (order : Order) (outer range : SubBox) → IsTrue (is_in_box outer range.low) → IsTrue (is_in_box outer range.high) → IsBox range → coords_in_order order range ≡ filter (is_in_box range) (coords_in_order order outer)
range_is order outer range low high box =
    let all = coords_between (turned order outer.low) (turned order outer.high) in
    let test = is_between (turned order range.low) (turned order range.high) in
    sym (ap (map (turned order)) (coords_within (turned order outer.low) (turned order outer.high) (turned order range.low) (turned order range.high) (is_between-turned order outer.low outer.high range.low low) (is_between-turned order outer.low outer.high range.high high) (are_bounds-turned order range.low range.high box)))
    ∙ ap (map (turned order)) (filter_agree test (λ c. is_in_box range (turned order c)) (λ c. same_test (test c) (is_in_box range (turned order c)) (turned-is_between order range.low range.high c) (back c)) all)
    ∙ sym (filter_mapped (is_in_box range) (turned order) all)
  where
    back : (c : List ℤ) → is_in_box range (turned order c) ≡ true → is_between (turned order range.low) (turned order range.high) c ≡ true
    back c is = subst (λ (x : List ℤ). IsTrue (is_between (turned order range.low) (turned order range.high) x)) (turned-turned order c) (is_between-turned order range.low range.high (turned order c) is)

-- what is made of the numbers of the tiles that meet a box is what is made of their places
pub made_there : {W : Type 0} (made : List ℤ → W) (there : ℕ → W) (test : List ℤ → Bool) (cut : List ℤ → SubBox) (sub : SubBox) (ns : List (List ℤ)) (at : ℕ)
    → ((i : ℕ) (n : List ℤ) → slice_get ns i ≡ Some n → (made n ≡ there (at + i)) × (do_boxes_meet (cut n) sub ≡ test n)) → map made (filter test ns) ≡ map there (places_from sub at (map cut ns))
made_there made there test cut sub [] at each = refl
made_there made there test cut sub (n ∷ ns) at each =
    let none : at + 0 ≡ at = omega arith in
    let here = each 0 n refl in
    let rest = made_there made there test cut sub ns (at + 1) (λ i m is. let next : at + suc i ≡ at + 1 + i = omega arith in let e = each (suc i) m is in (e.0 ∙ ap there next, e.1)) in
    go (test n) (here.0 ∙ ap there none) rest ∙ ap (λ b. map there (cond b (at ∷ places_from sub (at + 1) (map cut ns)) (places_from sub (at + 1) (map cut ns)))) (sym here.1)
  where
    go : (b : Bool) → made n ≡ there at → map made (filter test ns) ≡ map there (places_from sub (at + 1) (map cut ns))
        → map made (cond b (n ∷ filter test ns) (filter test ns)) ≡ map there (cond b (at ∷ places_from sub (at + 1) (map cut ns)) (places_from sub (at + 1) (map cut ns)))
    go true one rest = λ i. one i ∷ rest i
    go false one rest = rest

-- ---- the tiles between two

-- those numbers, by the corners of what both boxes have
abbrev corners_of : List Dim → SubBox → SubBox → SubBox
corners_of dims hull sub = record { low = tile_numbers dims (greatest_corner hull.low sub.low); high = tile_numbers dims (least_corner hull.high sub.high) }

bounds_of_both : (ls hs ks gs : List ℤ) → IsTrue (are_bounds ls hs) → IsTrue (are_bounds ks gs) → length ks ≡ length ls → IsTrue (do_meet ls hs ks gs) → IsTrue (are_bounds (greatest_corner ls ks) (least_corner hs gs)) × IsTrue (is_between ls hs (least_corner hs gs))
bounds_of_both [] [] [] [] a b e m = (refl, refl)
bounds_of_both [] [] [] (g ∷ gs) a b e m = cc
bounds_of_both [] [] (k ∷ ks) gs a b e m = absurd (omega (arith, e))
bounds_of_both [] (h ∷ hs) ks gs a b e m = cc
bounds_of_both (l ∷ ls) [] ks gs a b e m = cc
bounds_of_both (l ∷ ls) (h ∷ hs) [] gs a b e m = absurd (omega (arith, e))
bounds_of_both (l ∷ ls) (h ∷ hs) (k ∷ ks) [] a b e m = cc
bounds_of_both (l ∷ ls) (h ∷ hs) (k ∷ ks) (g ∷ gs) a b e m =
    let first = are_bounds-cons l h ls hs a in
    let second = are_bounds-cons k g ks gs b in
    let meet = and_parts (int_le l g && int_le k h) (do_meet ls hs ks gs) m in
    let cross = and_parts (int_le l g) (int_le k h) meet.0 in
    let rest = bounds_of_both ls hs ks gs first.1 second.1 (omega (arith, e)) meet.1 in (
      and_from (int_le (int_max l k) (int_min h g)) (are_bounds (greatest_corner ls ks) (least_corner hs gs)) (le (int_max l k) (int_min h g) (omega (arith, ints, clamps, first.0, second.0, cross.0, cross.1))) rest.0,
      and_from (int_le l (int_min h g) && int_le (int_min h g) h) (is_between ls hs (least_corner hs gs)) (within_from l h (int_min h g) (omega (arith, ints, clamps, first.0, cross.0)) (omega (arith, ints, clamps))) rest.1,
    )

near_both : (ls hs ks gs : List ℤ) → IsTrue (are_bounds ls hs) → IsTrue (are_bounds ks gs) → length ks ≡ length ls → IsTrue (do_meet ls hs ks gs) → (nearest ls hs ks ≡ greatest_corner ls ks) × (nearest ls hs gs ≡ least_corner hs gs)
near_both [] [] [] [] a b e m = (refl, refl)
near_both [] [] [] (g ∷ gs) a b e m = cc
near_both [] [] (k ∷ ks) gs a b e m = absurd (omega (arith, e))
near_both [] (h ∷ hs) ks gs a b e m = cc
near_both (l ∷ ls) [] ks gs a b e m = cc
near_both (l ∷ ls) (h ∷ hs) [] gs a b e m = absurd (omega (arith, e))
near_both (l ∷ ls) (h ∷ hs) (k ∷ ks) [] a b e m = cc
near_both (l ∷ ls) (h ∷ hs) (k ∷ ks) (g ∷ gs) a b e m =
    let first = are_bounds-cons l h ls hs a in
    let second = are_bounds-cons k g ks gs b in
    let meet = and_parts (int_le l g && int_le k h) (do_meet ls hs ks gs) m in
    let cross = and_parts (int_le l g) (int_le k h) meet.0 in
    let rest = near_both ls hs ks gs first.1 second.1 (omega (arith, e)) meet.1 in
    let low : int_max l (int_min h k) ≡ int_max l k = omega (arith, ints, clamps, cross.1) in
    let high : int_max l (int_min h g) ≡ int_min h g = omega (arith, ints, clamps, cross.0, first.0) in
    ((λ i. low i ∷ rest.0 i), (λ i. high i ∷ rest.1 i))

module _ (dims : List Dim) (hull sub : SubBox) (sound : All IsSoundDim dims) (box : IsBox hull) (inside : LiesInDomain dims hull) (other : IsBox sub) (same : length sub.low ≡ length hull.low) (meet : IsTrue (do_boxes_meet hull sub)) where
  both : IsTrue (are_bounds (greatest_corner hull.low sub.low) (least_corner hull.high sub.high)) × IsTrue (is_between hull.low hull.high (least_corner hull.high sub.high))
  both = bounds_of_both hull.low hull.high sub.low sub.high box other same meet

  low_between : IsTrue (is_between hull.low hull.high (greatest_corner hull.low sub.low))
  low_between = (is_between-greatest_corner hull.low hull.high sub.low sub.high box other same meet).0

  -- the corners of what both have lie in the domain
  low_inside : IsTrue (is_in_domain dims (greatest_corner hull.low sub.low))
  low_inside = between_on (map (λ (d : Dim). d.low) dims) (map (λ (d : Dim). d.high) dims) hull.low hull.high (greatest_corner hull.low sub.low) inside.0 inside.1 low_between

  high_inside : IsTrue (is_in_domain dims (least_corner hull.high sub.high))
  high_inside = between_on (map (λ (d : Dim). d.low) dims) (map (λ (d : Dim). d.high) dims) hull.low hull.high (least_corner hull.high sub.high) inside.0 inside.1 both.1

  -- those numbers are a box among the numbers of the tiles
  corners_low : IsTrue (is_in_box (tile_box dims hull) (corners_of dims hull sub).low)
  corners_low = is_between-tile_numbers dims hull.low hull.high (greatest_corner hull.low sub.low) sound inside.0 low_between

  corners_high : IsTrue (is_in_box (tile_box dims hull) (corners_of dims hull sub).high)
  corners_high = is_between-tile_numbers dims hull.low hull.high (least_corner hull.high sub.high) sound inside.0 both.1

  corners_box : IsBox (corners_of dims hull sub)
  corners_box =
      are_bounds-is_between (corners_of dims hull sub).low (corners_of dims hull sub).high (corners_of dims hull sub).low
      (is_between-tile_numbers dims (greatest_corner hull.low sub.low) (least_corner hull.high sub.high) (greatest_corner hull.low sub.low) sound low_inside (is_between-low (greatest_corner hull.low sub.low) (least_corner hull.high sub.high) both.0))

  -- what is made of them is what is made of the places of the tiles that meet the box
  corners_made : {W : Type 0} (tile : Order) (made : List ℤ → W) (there : ℕ → W) → ((i : ℕ) (n : List ℤ) → slice_get (coords_in_order tile (tile_box dims hull)) i ≡ Some n → IsTrue (is_in_box (tile_box dims hull) n) → made n ≡ there i)
      → map made (coords_in_order tile (corners_of dims hull sub)) ≡ map there (places_meeting sub (tiles_in dims tile hull))
  corners_made tile made there each =
      let all = coords_in_order tile (tile_box dims hull) in
      ap (map made) (range_is tile (tile_box dims hull) (corners_of dims hull sub) corners_low corners_high corners_box)
      ∙ made_there made there (is_in_box (corners_of dims hull sub)) (cut_box dims hull) sub all 0 (λ i n at.
      let within = is_in_box-slice_get tile (tile_box dims hull) (IsBox-tile_box dims tile hull sound box inside) i n at in
      let none : 0 + i ≡ i = omega arith in
      (each i n at within ∙ ap there (sym none), meets_range dims hull.low hull.high sub.low sub.high n sound inside.0 box other same meet within))

  near : (nearest hull.low hull.high sub.low ≡ greatest_corner hull.low sub.low) × (nearest hull.low hull.high sub.high ≡ least_corner hull.high sub.high)
  near = near_both hull.low hull.high sub.low sub.high box other same meet

  range_corners : range_of dims hull sub ≡ corners_of dims hull sub
  range_corners = λ i. record { low = tile_numbers dims (near.0 i); high = tile_numbers dims (near.1 i) }

  -- the corners of what both boxes have lie in the domain
  pub near_low_inside : IsTrue (is_in_domain dims (nearest hull.low hull.high sub.low))
  near_low_inside = subst (λ (xs : List ℤ). IsTrue (is_in_domain dims xs)) (sym near.0) low_inside

  pub near_high_inside : IsTrue (is_in_domain dims (nearest hull.low hull.high sub.high))
  near_high_inside = subst (λ (xs : List ℤ). IsTrue (is_in_domain dims xs)) (sym near.1) high_inside

  -- the numbers of the tiles that meet the box are a box among those of all tiles
  pub range_box : IsBox (range_of dims hull sub)
  range_box = subst IsBox (sym range_corners) corners_box

  pub range_inside : (n : List ℤ) → IsTrue (is_in_box (range_of dims hull sub) n) → IsTrue (is_in_box (tile_box dims hull) n)
  range_inside n inside_range =
      let t = subst (λ (b : SubBox). IsTrue (is_in_box b n)) range_corners inside_range in
      between_on (tile_box dims hull).low (tile_box dims hull).high (corners_of dims hull sub).low (corners_of dims hull sub).high n corners_low corners_high t

  -- there are no more of them
  pub range_few : cells_of (range_of dims hull sub) ≤ cells_of (tile_box dims hull)
  range_few =
      let all = coords_in_order Row (tile_box dims hull) in
      let corners = corners_of dims hull sub in
      let valid = IsBox-tile_box dims Row hull sound box inside in
      let same_cells = ap cells_of range_corners in
      let here = ap length (range_is Row (tile_box dims hull) corners corners_low corners_high corners_box) in
      omega (arith, same_cells, here, fewer_pass (is_in_box corners) all, length-coords_in_order Row corners corners_box, length-coords_in_order Row (tile_box dims hull) valid)

  -- what is made of them is what is made of the places of those tiles
  pub range_made : {W : Type 0} (tile : Order) (made : List ℤ → W) (there : ℕ → W) → ((i : ℕ) (n : List ℤ) → slice_get (coords_in_order tile (tile_box dims hull)) i ≡ Some n → IsTrue (is_in_box (tile_box dims hull) n) → made n ≡ there i)
      → map made (coords_in_order tile (range_of dims hull sub)) ≡ map there (places_meeting sub (tiles_in dims tile hull))
  range_made tile made there each = ap (λ (b : SubBox). map made (coords_in_order tile b)) range_corners ∙ corners_made tile made there each

-- where the boxes do not meet no tile does
cut_meets : (dims : List Dim) (ts ls hs ks gs : List ℤ) → length ts ≡ length dims → length ls ≡ length dims → length hs ≡ length dims → length ks ≡ length dims → length gs ≡ length dims → IsTrue (do_meet (cut_low dims ts ls) (cut_high dims ts hs) ks gs) → IsTrue (do_meet ls hs ks gs)
cut_meets [] ts [] hs ks gs a b c d e m = refl
cut_meets [] ts (l ∷ ls) hs ks gs a b c d e m = absurd (omega (arith, b))
cut_meets (q ∷ ds) [] ls hs ks gs a b c d e m = absurd (omega (arith, a))
cut_meets (q ∷ ds) (n ∷ ts) [] hs ks gs a b c d e m = absurd (omega (arith, b))
cut_meets (q ∷ ds) (n ∷ ts) (l ∷ ls) [] ks gs a b c d e m = absurd (omega (arith, c))
cut_meets (q ∷ ds) (n ∷ ts) (l ∷ ls) (h ∷ hs) [] gs a b c d e m = absurd (omega (arith, d))
cut_meets (q ∷ ds) (n ∷ ts) (l ∷ ls) (h ∷ hs) (k ∷ ks) [] a b c d e m = absurd (omega (arith, e))
cut_meets (q ∷ ds) (n ∷ ts) (l ∷ ls) (h ∷ hs) (k ∷ ks) (g ∷ gs) a b c d e m =
    let parts = and_parts (int_le (int_max l (tile_start q n)) g && int_le k (int_min h (tile_end q n))) (do_meet (cut_low ds ts ls) (cut_high ds ts hs) ks gs) m in
    let sides = and_parts (int_le (int_max l (tile_start q n)) g) (int_le k (int_min h (tile_end q n))) parts.0 in
    and_from (int_le l g && int_le k h) (do_meet ls hs ks gs) (and_from (int_le l g) (int_le k h) (le l g (omega (arith, ints, clamps, sides.0))) (le k h (omega (arith, ints, clamps, sides.1))))
    (cut_meets ds ts ls hs ks gs (omega (arith, a)) (omega (arith, b)) (omega (arith, c)) (omega (arith, d)) (omega (arith, e)) parts.1)

none_meet : (sub : SubBox) (at : ℕ) (boxes : List SubBox) → All (λ b. do_boxes_meet b sub ≡ false) boxes → places_from sub at boxes ≡ []
none_meet sub at [] all = refl
none_meet sub at (b ∷ boxes) all =
    let N = λ (c : SubBox). do_boxes_meet c sub ≡ false in
    ap (λ t. cond t (at ∷ places_from sub (at + 1) boxes) (places_from sub (at + 1) boxes)) (All-head N b boxes all) ∙ none_meet sub (at + 1) boxes (All-tail N b boxes all)

refused : (a b : Bool) → a ≡ false → (b ≡ true → a ≡ true) → b ≡ false
refused a true out to = let t : a ≡ true = to refl in absurd (cc)
refused a false out to = refl

pub apart_none : (dims : List Dim) (tile : Order) (hull sub : SubBox) → All IsSoundDim dims → IsBox hull → LiesInDomain dims hull → length sub.low ≡ length dims → length sub.high ≡ length dims → do_boxes_meet hull sub ≡ false
    → places_meeting sub (tiles_in dims tile hull) ≡ []
apart_none dims tile hull sub sound box inside sub_lows sub_highs apart =
    let lows = length-is_in_domain dims hull.low inside.0 in
    let highs = length-is_in_domain dims hull.high inside.1 in
    let numbers = tile_box dims hull in
    let all = coords_in_order tile numbers in
    let valid = IsBox-tile_box dims tile hull sound box inside in
    let long = All-from_get_or (λ (n : List ℤ). length n ≡ length dims) all [] (λ i within. sym (length-is_between numbers.low numbers.high (get_or all i []) (is_in_box-slice_get tile numbers valid i (get_or all i []) (slice_get-get_or all i [] within))).0 ∙ length-tile_numbers dims hull.low lows) in
    none_meet sub 0 (tiles_in dims tile hull) (All-map (λ (b : SubBox). do_boxes_meet b sub ≡ false) (cut_box dims hull) all
    (All-weaker (λ (n : List ℤ). length n ≡ length dims) (λ (n : List ℤ). do_boxes_meet (cut_box dims hull n) sub ≡ false) (λ n same. refused (do_boxes_meet hull sub) (do_boxes_meet (cut_box dims hull n) sub) apart (cut_meets dims n hull.low hull.high sub.low sub.high same lows highs sub_lows sub_highs)) all long))

-- ---- the nearest numbers

pub length-nearest : (ls hs xs : List ℤ) → length ls ≡ length xs → length hs ≡ length xs → length (nearest ls hs xs) ≡ length xs
length-nearest [] [] [] a b = refl
length-nearest [] [] (x ∷ xs) a b = absurd (omega (arith, a))
length-nearest [] (h ∷ hs) [] a b = absurd (omega (arith, b))
length-nearest [] (h ∷ hs) (x ∷ xs) a b = absurd (omega (arith, a))
length-nearest (l ∷ ls) [] [] a b = absurd (omega (arith, a))
length-nearest (l ∷ ls) [] (x ∷ xs) a b = absurd (omega (arith, b))
length-nearest (l ∷ ls) (h ∷ hs) [] a b = absurd (omega (arith, a))
length-nearest (l ∷ ls) (h ∷ hs) (x ∷ xs) a b = ap suc (length-nearest ls hs xs (omega (arith, a)) (omega (arith, b)))

pub get_or-nearest : (ls hs xs : List ℤ) (i : ℕ) → length ls ≡ length xs → length hs ≡ length xs → i < length xs → get_or (nearest ls hs xs) i (pos 0) ≡ int_max (get_or ls i (pos 0)) (int_min (get_or hs i (pos 0)) (get_or xs i (pos 0)))
get_or-nearest [] hs [] i a b within = absurd (omega (arith, within))
get_or-nearest [] hs (x ∷ xs) i a b within = absurd (omega (arith, a))
get_or-nearest (l ∷ ls) [] [] i a b within = absurd (omega (arith, within))
get_or-nearest (l ∷ ls) [] (x ∷ xs) i a b within = absurd (omega (arith, b))
get_or-nearest (l ∷ ls) (h ∷ hs) [] i a b within = absurd (omega (arith, within))
get_or-nearest (l ∷ ls) (h ∷ hs) (x ∷ xs) zero a b within = refl
get_or-nearest (l ∷ ls) (h ∷ hs) (x ∷ xs) (suc i) a b within = get_or-nearest ls hs xs i (omega (arith, a)) (omega (arith, b)) (omega (arith, within))
