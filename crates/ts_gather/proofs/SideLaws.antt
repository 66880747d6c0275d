-- The coordinates of the cells of a box, along one dimension and along all.
use Rattle.std.proofs.Common.{◌≡◌, ℕ, zero, suc, ◌+◌, ◌*◌, ◌/◌, ◌<◌, min, ◌≤◌, ℤ, pos, ◌+ℤ◌, List, [], ◌∷◌, ◌++◌, length, map, get_or, take, drop, reverse, replicate, refl, sym, ap, subst, ◌∙◌, arith, append_assoc, add-one}
use Rattle.std.specs.Prelude.{IsTrue}
use Rattle.std.specs.List.{All, flat_map, range_with_len}
use Rattle.std.proofs.lemmas.Int.{ints}
use Rattle.std.proofs.Math.Nat.{mul-div_cancel_left}
use Rattle.std.proofs.lemmas.List.{append-nil, reverse-append, length-map, length-take, get_or-map, map-append, drop_more, take_more, same_lists, get_or_default}
use Rattle.std.proofs.lemmas.List.FromFn.{get_or-map-range_with_len, length-map-range_with_len, map-range_with_len_more}
use Rattle.std.proofs.lemmas.List.Elements.{All-nil, All-cons, All-head, All-tail, All-append}
use Rattle.std.proofs.lemmas.Option.{get_or_from_slice_get}
use Rattle.ts_domain.specs.declared.orders.Order.{Order}
use Rattle.ts_domain.specs.declared.orders.Order.TheVariants.{Row, Col}
use Rattle.ts_domain.specs.declared.boxes.SubBox.{SubBox}
use Rattle.ts_domain.specs.Bounds.{are_bounds, count_between, cells_between, numbers_from, coords_between}
use Rattle.ts_domain.specs.Boxes.{IsBox, cells_of}
use Rattle.ts_domain.proofs.Between.{length-are_bounds, length-is_between, length-coords_between}
use Rattle.ts_order.specs.Orders.{turned}
use Rattle.ts_order.specs.Places.{coords_of_place}
use Rattle.ts_order.proofs.PlaceLaws.{slice_get-coords_between, is_between-coords_of_place, cells_between-push}
use Rattle.ts_order.proofs.PlaceSteps.{cells_between-take}
use Rattle.ts_order.proofs.OrderLemmas.{length-turned}
use Rattle.ts_order.proofs.TurnedLemmas.{cells_between-turned}
use Rattle.ts_gather.specs.Sides.{AreCoords, along, stretched, repeated}

-- ---- along one dimension

at_front : (x : ℤ) (cs : List (List ℤ)) → map (λ coords. get_or coords 0 (pos 0)) (map (λ c. x ∷ c) cs) ≡ replicate (length cs) x
at_front x [] = refl
at_front x (c ∷ cs) = ap (λ xs. x ∷ xs) (at_front x cs)

behind_front : (x : ℤ) (rank : ℕ) (cs : List (List ℤ)) → map (λ coords. get_or coords (suc rank) (pos 0)) (map (λ c. x ∷ c) cs) ≡ map (λ coords. get_or coords rank (pos 0)) cs
behind_front x rank [] = refl
behind_front x rank (c ∷ cs) = ap (λ xs. get_or c rank (pos 0) ∷ xs) (behind_front x rank cs)

along_first : (ls hs : List ℤ) (xs : List ℤ) → map (λ coords. get_or coords 0 (pos 0)) (flat_map (λ x. map (λ c. x ∷ c) (coords_between ls hs)) xs) ≡ stretched (cells_between ls hs) xs
along_first ls hs [] = refl
along_first ls hs (x ∷ xs) =
    let F = λ (coords : List ℤ). get_or coords 0 (pos 0) in
    let rest = flat_map (λ y. map (λ c. y ∷ c) (coords_between ls hs)) xs in
    map-append F (map (λ c. x ∷ c) (coords_between ls hs)) rest
    ∙ ap (λ ys. ys ++ map F rest) (at_front x (coords_between ls hs) ∙ ap (λ n. replicate n x) (length-coords_between ls hs))
    ∙ ap (λ ys. replicate (cells_between ls hs) x ++ ys) (along_first ls hs xs)

along_next : (ls hs : List ℤ) (rank n : ℕ) (x : ℤ) → map (λ coords. get_or coords (suc rank) (pos 0)) (flat_map (λ x. map (λ c. x ∷ c) (coords_between ls hs)) (numbers_from x n)) ≡ repeated n (along ls hs rank)
along_next ls hs rank zero x = refl
along_next ls hs rank (suc n) x =
    let F = λ (coords : List ℤ). get_or coords (suc rank) (pos 0) in
    let rest = flat_map (λ y. map (λ c. y ∷ c) (coords_between ls hs)) (numbers_from (x +ℤ pos 1) n) in
    map-append F (map (λ c. x ∷ c) (coords_between ls hs)) rest
    ∙ ap (λ ys. ys ++ map F rest) (behind_front x rank (coords_between ls hs))
    ∙ ap (λ ys. along ls hs rank ++ ys) (along_next ls hs rank n (x +ℤ pos 1))

repeated_sum : (n m : ℕ) (xs : List ℤ) → repeated (n + m) xs ≡ repeated n xs ++ repeated m xs
repeated_sum zero m xs = let none : zero + m ≡ m = omega arith in ap (λ k. repeated k xs) none
repeated_sum (suc n) m xs =
    let one : suc n + m ≡ suc (n + m) = omega arith in
    ap (λ k. repeated k xs) one ∙ ap (λ ys. xs ++ ys) (repeated_sum n m xs) ∙ sym (append_assoc xs (repeated n xs) (repeated m xs))

repeated_twice : (n m : ℕ) (xs : List ℤ) → repeated n (repeated m xs) ≡ repeated (n * m) xs
repeated_twice zero m xs = let none : zero * m ≡ 0 = omega arith in ap (λ k. repeated k xs) (sym none)
repeated_twice (suc n) m xs =
    let more : suc n * m ≡ m + n * m = omega arith in
    ap (λ ys. repeated m xs ++ ys) (repeated_twice n m xs) ∙ sym (repeated_sum m (n * m) xs) ∙ ap (λ k. repeated k xs) (sym more)

-- the numbers along the dimension of a rank
abbrev side : List ℤ → List ℤ → ℕ → List ℤ
side ls hs rank = numbers_from (get_or ls rank (pos 0)) (count_between (get_or ls rank (pos 0)) (get_or hs rank (pos 0)))

-- each as often as there are cells of the dimensions behind it, and that as often as there are of those before it
pub along_is : (ls hs : List ℤ) (rank : ℕ) → length hs ≡ length ls → rank < length ls
    → along ls hs rank ≡ repeated (cells_between (take rank ls) (take rank hs)) (stretched (cells_between (drop (suc rank) ls) (drop (suc rank) hs)) (side ls hs rank))
along_is [] hs rank same within = absurd (omega (arith, within))
along_is (l ∷ ls) [] rank same within = absurd (omega (arith, same))
along_is (l ∷ ls) (h ∷ hs) zero same within =
    along_first ls hs (numbers_from l (count_between l h)) ∙ sym (append-nil (stretched (cells_between ls hs) (numbers_from l (count_between l h))))
along_is (l ∷ ls) (h ∷ hs) (suc rank) same within =
    let inner = stretched (cells_between (drop (suc rank) ls) (drop (suc rank) hs)) (side ls hs rank) in
    along_next ls hs rank (count_between l h) l
    ∙ ap (repeated (count_between l h)) (along_is ls hs rank (omega (arith, same)) (omega (arith, within)))
    ∙ repeated_twice (count_between l h) (cells_between (take rank ls) (take rank hs)) inner

-- ---- along all

along_long : (ls hs : List ℤ) (rank : ℕ) → length (along ls hs rank) ≡ cells_between ls hs
along_long ls hs rank = length-map (coords_between ls hs) (λ coords. get_or coords rank (pos 0)) ∙ length-coords_between ls hs

-- the coordinates at a place
at_place : (ls hs : List ℤ) (k : ℕ) → length hs ≡ length ls → k < cells_between ls hs → get_or (coords_between ls hs) k [] ≡ coords_of_place ls hs k
at_place ls hs k same within = get_or_from_slice_get (coords_between ls hs) k (coords_of_place ls hs k) [] (slice_get-coords_between ls hs k same within)

place_long : (ls hs : List ℤ) (k : ℕ) → length hs ≡ length ls → k < cells_between ls hs → length (coords_of_place ls hs k) ≡ length ls
place_long ls hs k same within = sym (length-is_between ls hs (coords_of_place ls hs k) (is_between-coords_of_place ls hs k same within)).0

ranks_there : (ls hs : List ℤ) (k : ℕ) → length hs ≡ length ls → k < cells_between ls hs
    → map (λ column. get_or column k (pos 0)) (map (along ls hs) (range_with_len 0 (length ls))) ≡ get_or (coords_between ls hs) k []
ranks_there ls hs k same within =
    let C = λ (column : List ℤ). get_or column k (pos 0) in
    let ranks = range_with_len 0 (length ls) in
    let columns = map (along ls hs) ranks in
    let c = get_or (coords_between ls hs) k [] in
    let many : length columns ≡ length ls = length-map-range_with_len (along ls hs) 0 (length ls) in
    let long : length c ≡ length ls = ap length (at_place ls hs k same within) ∙ place_long ls hs k same within in
    same_lists (map C columns) c (length-map columns C ∙ many ∙ sym long)
    (λ rank d here.
    let below : rank < length columns = subst (λ n. rank < n) (length-map columns C) here in
    let inside : rank < length ls = omega (arith, many, below) in
    let within_all : k < length (coords_between ls hs) = omega (arith, within, length-coords_between ls hs) in
    get_or-map C columns rank [] d below
    ∙ ap C (get_or-map-range_with_len (along ls hs) 0 (length ls) rank rank [] inside (omega arith))
    ∙ get_or-map (λ (coords : List ℤ). get_or coords rank (pos 0)) (coords_between ls hs) k [] (pos 0) within_all
    ∙ get_or_default c rank (pos 0) d (omega (arith, long, inside)))

-- ---- in an order

map_turned : {A B : Type 0} (f : A → B) (order : Order) (xs : List A) → map f (turned order xs) ≡ turned order (map f xs)
map_turned f Row xs = refl
map_turned {A} f Col xs = back xs
  where
    back : (ys : List A) → map f (reverse ys) ≡ reverse (map f ys)
    back [] = refl
    back (y ∷ ys) =
        ap (map f) (reverse-append (y ∷ []) ys) ∙ map-append f (reverse ys) (y ∷ []) ∙ ap (λ zs. zs ++ f y ∷ []) (back ys)
        ∙ sym (reverse-append (f y ∷ []) (map f ys))

all_turned : {A : Type 0} (P : A → Type 0) (order : Order) (xs : List A) → All P xs → All P (turned order xs)
all_turned P Row xs all = all
all_turned {A} P Col xs all = back xs all
  where
    back : (ys : List A) → All P ys → All P (reverse ys)
    back [] every = every
    back (y ∷ ys) every =
        subst (All P) (sym (reverse-append (y ∷ []) ys)) (All-append P (reverse ys) (y ∷ []) (back ys (All-tail P y ys every)) (All-cons P y [] (All-head P y ys every) (All-nil P)))

all_along : (ls hs : List ℤ) (cells : ℕ) (ranks : List ℕ) → cells_between ls hs ≡ cells → All (λ (column : List ℤ). length column ≡ cells) (map (along ls hs) ranks)
all_along ls hs cells [] is = All-nil (λ (column : List ℤ). length column ≡ cells)
all_along ls hs cells (r ∷ ranks) is =
    All-cons (λ (column : List ℤ). length column ≡ cells) (along ls hs r) (map (along ls hs) ranks) (along_long ls hs r ∙ is) (all_along ls hs cells ranks is)

-- the columns of the cells of a box
pub sides_are : (order : Order) (sub : SubBox) (ranked columns : List (List ℤ)) → IsBox sub → ranked ≡ map (along (turned order sub.low) (turned order sub.high)) (range_with_len 0 (length sub.low)) → columns ≡ turned order ranked
    → AreCoords order sub columns
sides_are order sub ranked columns box is turn =
    let ls = turned order sub.low in
    let hs = turned order sub.high in
    let as_many : length sub.high ≡ length sub.low = length-are_bounds sub.low sub.high box in
    let dims : length ls ≡ length sub.low = length-turned order sub.low in
    let same : length hs ≡ length ls = length-turned order sub.high ∙ as_many ∙ sym dims in
    let cells : cells_between ls hs ≡ cells_of sub = cells_between-turned order sub.low sub.high as_many in
    let ranks : ranked ≡ map (along ls hs) (range_with_len 0 (length ls)) = is ∙ ap (λ n. map (along ls hs) (range_with_len 0 n)) (sym dims) in
    let L = λ (column : List ℤ). length column ≡ cells_of sub in
    record {
      many = ap length turn ∙ length-turned order ranked ∙ ap length ranks ∙ length-map-range_with_len (along ls hs) 0 (length ls) ∙ dims;
      long = subst (All L) (sym turn) (all_turned L order ranked (subst (All L) (sym ranks) (all_along ls hs (cells_of sub) (range_with_len 0 (length ls)) cells)));
      there = λ k within.
          let C = λ (column : List ℤ). get_or column k (pos 0) in
          let inside : k < cells_between ls hs = omega (arith, within, cells) in
          let below : k < length (coords_between ls hs) = omega (arith, inside, length-coords_between ls hs) in
          ap (map C) turn ∙ map_turned C order ranked ∙ ap (λ cs. turned order (map C cs)) ranks ∙ ap (turned order) (ranks_there ls hs k same inside)
          ∙ sym (get_or-map (turned order) (coords_between ls hs) k [] [] below);
    }

-- ---- one rank after another

-- the columns so far, how many cells the ranks that are left have, and how many those so far
pub record Ranking (ls hs : List ℤ) (columns : List (List ℤ)) (rest times rank : ℕ) : Type 0 where
  pub made : columns ≡ map (along ls hs) (range_with_len 0 rank)
  pub left : rest ≡ cells_between (drop rank ls) (drop rank hs)
  pub done : times ≡ cells_between (take rank ls) (take rank hs)

pub ranking_none : (ls hs : List ℤ) (columns : List (List ℤ)) (cells : ℕ) → columns ≡ [] → cells ≡ cells_between ls hs → Ranking ls hs columns cells 1 0
ranking_none ls hs columns cells none count = record { made = none; left = count; done = refl }

module _ (ls hs : List ℤ) (columns : List (List ℤ)) (rest times rank n : ℕ) (ranking : Ranking ls hs columns rest times rank) (same : length hs ≡ length ls) (within : rank < length ls)
    (side_is : n ≡ count_between (get_or ls rank (pos 0)) (get_or hs rank (pos 0))) (some : 0 < n) where
  -- the cells that are left are so many of the ranks behind
  pub rest_is : rest / n ≡ cells_between (drop (rank + 1) ls) (drop (rank + 1) hs)
  rest_is =
      let low = drop_more ls rank (pos 0) within in
      let high = drop_more hs rank (pos 0) (omega (arith, within, same)) in
      let whole : rest ≡ n * cells_between (drop (rank + 1) ls) (drop (rank + 1) hs) =
      ranking.left ∙ ap (λ xs. cells_between xs (drop rank hs)) low ∙ ap (cells_between (get_or ls rank (pos 0) ∷ drop (rank + 1) ls)) high
      ∙ ap (λ m. m * cells_between (drop (rank + 1) ls) (drop (rank + 1) hs)) (sym side_is) in
      ap (λ m. m / n) whole ∙ mul-div_cancel_left (cells_between (drop (rank + 1) ls) (drop (rank + 1) hs)) some

  -- there are so many times that of the ranks before
  pub times_are : times * n ≡ cells_between (take (rank + 1) ls) (take (rank + 1) hs)
  times_are =
      let low = take_more ls rank (pos 0) within in
      let high = take_more hs rank (pos 0) (omega (arith, within, same)) in
      let fit : length (take rank hs) ≡ length (take rank ls) = length-take rank hs ∙ ap (min rank) same ∙ sym (length-take rank ls) in
      ap (λ m. m * n) ranking.done ∙ ap (λ m. cells_between (take rank ls) (take rank hs) * m) side_is
      ∙ sym (cells_between-push (take rank ls) (take rank hs) (get_or ls rank (pos 0)) (get_or hs rank (pos 0)) fit)
      ∙ ap (λ xs. cells_between xs (take rank hs ++ get_or hs rank (pos 0) ∷ [])) (sym low) ∙ ap (cells_between (take (rank + 1) ls)) (sym high)

  pub ranking_more : (more : List (List ℤ)) (column : List ℤ) → column ≡ repeated times (stretched (rest / n) (side ls hs rank)) → more ≡ columns ++ column ∷ [] → Ranking ls hs more (rest / n) (times * n) (rank + 1)
  ranking_more more column is push =
      let next : suc rank ≡ rank + 1 = omega arith in
      let whole : column ≡ along ls hs rank =
      is ∙ ap (λ m. repeated times (stretched m (side ls hs rank))) rest_is ∙ ap (λ m. repeated m (stretched (cells_between (drop (rank + 1) ls) (drop (rank + 1) hs)) (side ls hs rank))) ranking.done
      ∙ ap (λ j. repeated (cells_between (take rank ls) (take rank hs)) (stretched (cells_between (drop j ls) (drop j hs)) (side ls hs rank))) (sym next) ∙ sym (along_is ls hs rank same within) in
      record {
        made = push ∙ ap (λ cs. cs ++ column ∷ []) ranking.made ∙ ap (λ c. map (along ls hs) (range_with_len 0 rank) ++ c ∷ []) whole ∙ sym (map-range_with_len_more (along ls hs) 0 rank rank (omega arith));
        left = rest_is;
        done = times_are;
      }

  -- so they are no more than all cells
  pub times_few : (cells : ℕ) → IsTrue (are_bounds ls hs) → cells ≡ cells_between ls hs → times * n ≤ cells
  times_few cells valid count = omega (arith, times_are, count, cells_between-take ls hs (rank + 1) valid)

-- behind the last rank there are all columns
pub ranking_all : (order : Order) (low high : List ℤ) (columns : List (List ℤ)) (rest times rank : ℕ) → Ranking (turned order low) (turned order high) columns rest times rank → length low ≤ rank → rank ≤ length low
    → columns ≡ map (along (turned order low) (turned order high)) (range_with_len 0 (length low))
ranking_all order low high columns rest times rank ranking over under =
    let same : rank ≡ length low = omega (arith, over, under) in
    ranking.made ∙ ap (λ n. map (along (turned order low) (turned order high)) (range_with_len 0 n)) same

-- ---- one side

-- one number more
pub stretched_more : (each n : ℕ) (x y : ℤ) → y ≡ x +ℤ pos n → stretched each (numbers_from x (n + 1)) ≡ stretched each (numbers_from x n) ++ replicate each y
stretched_more each n x y is = ap (λ k. stretched each (numbers_from x k)) (add-one n) ∙ go n x is
  where
    go : (k : ℕ) (z : ℤ) → y ≡ z +ℤ pos k → stretched each (numbers_from z (suc k)) ≡ stretched each (numbers_from z k) ++ replicate each y
    go zero z e = let same : z ≡ y = omega (arith, ints) in append-nil (replicate each z) ∙ ap (replicate each) same
    go (suc k) z e =
        let next : y ≡ (z +ℤ pos 1) +ℤ pos k = omega (arith, ints) in
        ap (λ ys. replicate each z ++ ys) (go k (z +ℤ pos 1) next) ∙ sym (append_assoc (replicate each z) (stretched each (numbers_from (z +ℤ pos 1) k)) (replicate each y))

-- one time more
pub repeated_more : (n : ℕ) (xs : List ℤ) → repeated (n + 1) xs ≡ repeated n xs ++ xs
repeated_more n xs = repeated_sum n 1 xs ∙ ap (λ ys. repeated n xs ++ ys) (append-nil xs)
