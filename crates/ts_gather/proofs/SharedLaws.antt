-- The cells of a box that lie in another are those of a box, if there are any.
use Rattle.std.proofs.Common.{◌≡◌, ℕ, zero, suc, ◌+◌, ◌*◌, ◌≤◌, Bool, true, false, cond, ◌&&◌, ℤ, pos, negsuc, ◌+ℤ◌, ◌-ℤ◌, List, [], ◌∷◌, ◌++◌, length, map, reverse, get_or, refl, sym, ap, subst, ◌∙◌, arith}
use Rattle.std.specs.Prelude.{IsTrue, int_le, filter}
use Rattle.std.specs.List.{All, flat_map}
use Rattle.std.specs.Int.{int_min, int_max}
use Rattle.std.proofs.lemmas.Bool.{and_parts, and_from}
use Rattle.std.proofs.lemmas.Int.{ints, clamps}
use Rattle.std.proofs.lemmas.List.{length-map, reverse-append, length-reverse, nil_from_length}
use Rattle.std.proofs.lemmas.List.Elements.{filter-append, All-head, All-tail, All-from_get_or}
use Rattle.std.proofs.lemmas.Option.{slice_get-get_or}
use borrow.Author.Differences.{up, down}
use Rattle.ts_domain.specs.declared.orders.Order.{Order}
use Rattle.ts_domain.specs.declared.orders.Order.TheVariants.{Row, Col}
use Rattle.ts_domain.specs.declared.boxes.SubBox.{SubBox}
use Rattle.ts_domain.specs.Bounds.{are_bounds, is_between, natural_of, count_between, cells_between, numbers_from, coords_between, least_corner, greatest_corner}
use Rattle.ts_domain.specs.Boxes.{IsBox, is_in_box}
use Rattle.ts_domain.proofs.Between.{length-are_bounds, length-is_between, length-coords_between, are_bounds-is_between, is_between-low, within_parts, within_from, count_between-le}
use Rattle.ts_order.specs.Orders.{turned, coords_in_order}
use Rattle.ts_order.proofs.OrderLemmas.{turned-turned, length-turned}
use Rattle.ts_order.proofs.TurnedLemmas.{are_bounds-turned, cells_between-turned, is_between-turned, turned-is_between}
use Rattle.ts_order.proofs.OrderedCoords.{is_in_box-slice_get}
use Rattle.ts_gather.specs.Parts.{shared_cells, IsSharedPart}

-- ---- lists

-- those that pass among images are the images of those that pass before
pub kept_map : {A B : Type 0} (p : B → Bool) (q : A → Bool) (f : A → B) → ((x : A) → p (f x) ≡ q x) → (xs : List A) → filter p (map f xs) ≡ map f (filter q xs)
kept_map p q f same [] = refl
kept_map p q f same (x ∷ xs) = ap (λ b. cond b (f x ∷ filter p (map f xs)) (filter p (map f xs))) (same x) ∙ by (q x) (kept_map p q f same xs)
  where
    by : (b : Bool) → filter p (map f xs) ≡ map f (filter q xs) → cond b (f x ∷ filter p (map f xs)) (filter p (map f xs)) ≡ map f (cond b (x ∷ filter q xs) (filter q xs))
    by true rest = ap (λ ys. f x ∷ ys) rest
    by false rest = rest

-- where none passes none is left
pub kept_none : {A : Type 0} (p : A → Bool) (xs : List A) → All (λ x. p x ≡ false) xs → filter p xs ≡ []
kept_none p [] all = refl
kept_none p (x ∷ xs) all =
    ap (λ b. cond b (x ∷ filter p xs) (filter p xs)) (All-head (λ y. p y ≡ false) x xs all) ∙ kept_none p xs (All-tail (λ y. p y ≡ false) x xs all)

-- ---- one dimension

le_from : (x y : ℤ) → up x + down y ≤ up y + down x → int_le x y ≡ true
le_from x y h = grind (arith, ints)

no_more : (z : ℤ) → IsTrue (int_le z (pos 0)) → natural_of z ≡ 0
no_more (pos n) t = omega (arith, ints, t)
no_more (negsuc n) t = refl

one_more : (y z : ℤ) → IsTrue (int_le (pos 0) y) → z ≡ y +ℤ pos 1 → natural_of z ≡ suc (natural_of y)
one_more (pos n) z t e = let is : z ≡ pos (suc n) = omega (arith, ints, e) in ap natural_of is
one_more (negsuc n) z t e = absurd (omega (arith, ints, t))

-- whether a number lies between two others
abbrev lies : ℤ → ℤ → ℤ → Bool
lies k g x = int_le k x && int_le x g

-- how many of so many numbers from l on lie between two others
abbrev left_of : ℤ → ℕ → ℤ → ℤ → ℤ
left_of l n k g = int_min (l +ℤ pos n) (g +ℤ pos 1) -ℤ int_max l k

numbers_kept : (k g l : ℤ) (n : ℕ) → filter (lies k g) (numbers_from l n) ≡ numbers_from (int_max l k) (natural_of (left_of l n k g))
numbers_kept k g l zero =
    let none : IsTrue (int_le (left_of l zero k g) (pos 0)) = grind (arith, ints, clamps) in
    sym (ap (numbers_from (int_max l k)) (no_more (left_of l zero k g) none))
numbers_kept k g l (suc n) = by (numbers_kept k g (l +ℤ pos 1) n) (int_le k l) (int_le l g) refl refl
  where
    by : filter (lies k g) (numbers_from (l +ℤ pos 1) n) ≡ numbers_from (int_max (l +ℤ pos 1) k) (natural_of (left_of (l +ℤ pos 1) n k g)) → (a b : Bool) → int_le k l ≡ a → int_le l g ≡ b
        → cond (a && b) (l ∷ filter (lies k g) (numbers_from (l +ℤ pos 1) n)) (filter (lies k g) (numbers_from (l +ℤ pos 1) n)) ≡ numbers_from (int_max l k) (natural_of (left_of l (suc n) k g))
    by rest true true a b =
        let here : int_max l k ≡ l = omega (arith, ints, clamps, a) in
        let next : int_max (l +ℤ pos 1) k ≡ l +ℤ pos 1 = omega (arith, ints, clamps, a) in
        let some : IsTrue (int_le (pos 0) (left_of (l +ℤ pos 1) n k g)) = le_from (pos 0) (left_of (l +ℤ pos 1) n k g) (omega (arith, ints, clamps, a, b)) in
        let more : left_of l (suc n) k g ≡ left_of (l +ℤ pos 1) n k g +ℤ pos 1 = omega (arith, ints, clamps, a, b) in
        ap (λ xs. l ∷ xs) (rest ∙ ap (λ (x : ℤ). numbers_from x (natural_of (left_of (l +ℤ pos 1) n k g))) next)
        ∙ sym ((λ i. numbers_from (here i) (natural_of (left_of l (suc n) k g))) ∙ ap (numbers_from l) (one_more (left_of (l +ℤ pos 1) n k g) (left_of l (suc n) k g) some more))
    by rest false b a c =
        let same : int_max (l +ℤ pos 1) k ≡ int_max l k = omega (arith, ints, clamps, a) in
        let many : left_of (l +ℤ pos 1) n k g ≡ left_of l (suc n) k g = omega (arith, ints, clamps, a) in
        rest ∙ (λ i. numbers_from (same i) (natural_of (many i)))
    by rest true false a b =
        let none : IsTrue (int_le (left_of (l +ℤ pos 1) n k g) (pos 0)) = grind (arith, ints, clamps, b) in
        let none_here : IsTrue (int_le (left_of l (suc n) k g) (pos 0)) = grind (arith, ints, clamps, b) in
        rest ∙ ap (numbers_from (int_max (l +ℤ pos 1) k)) (no_more (left_of (l +ℤ pos 1) n k g) none)
        ∙ sym (ap (numbers_from (int_max l k)) (no_more (left_of l (suc n) k g) none_here))

-- the numbers of a side that lie between two others
side_kept : (l h k g : ℤ) → IsTrue (int_le l h) → filter (lies k g) (numbers_from l (count_between l h)) ≡ numbers_from (int_max l k) (count_between (int_max l k) (int_min h g))
side_kept l h k g t =
    let count = count_between-le l h (omega (arith, ints, t)) in
    let end : l +ℤ pos (count_between l h) ≡ h +ℤ pos 1 = omega (arith, ints, count) in
    let many : left_of l (count_between l h) k g ≡ int_min h g -ℤ int_max l k +ℤ pos 1 = omega (arith, ints, clamps, end) in
    numbers_kept k g l (count_between l h) ∙ ap (λ (z : ℤ). numbers_from (int_max l k) (natural_of z)) many

-- ---- all dimensions

-- a row whose number lies between has those that lie between, and another one none
row_kept : (p q : List ℤ → Bool) (x : ℤ) (b : Bool) → ((c : List ℤ) → p (x ∷ c) ≡ (b && q c)) → (cs : List (List ℤ)) → filter p (map (λ c. x ∷ c) cs) ≡ cond b (map (λ c. x ∷ c) (filter q cs)) []
row_kept p q x true same cs = kept_map p q (λ c. x ∷ c) same cs
row_kept p q x false same [] = refl
row_kept p q x false same (c ∷ cs) = ap (λ b. cond b ((x ∷ c) ∷ filter p (map (λ d. x ∷ d) cs)) (filter p (map (λ d. x ∷ d) cs))) (same c) ∙ row_kept p q x false same cs

rows_kept : (k g : ℤ) (ks gs : List ℤ) (cs : List (List ℤ)) (xs : List ℤ)
    → filter (is_between (k ∷ ks) (g ∷ gs)) (flat_map (λ x. map (λ c. x ∷ c) cs) xs) ≡ flat_map (λ x. map (λ c. x ∷ c) (filter (is_between ks gs) cs)) (filter (lies k g) xs)
rows_kept k g ks gs cs [] = refl
rows_kept k g ks gs cs (x ∷ xs) =
    let p = is_between (k ∷ ks) (g ∷ gs) in
    let F = λ (y : ℤ). map (λ c. y ∷ c) (filter (is_between ks gs) cs) in
    filter-append p (map (λ c. x ∷ c) cs) (flat_map (λ y. map (λ c. y ∷ c) cs) xs)
    ∙ ap (λ ys. ys ++ filter p (flat_map (λ y. map (λ c. y ∷ c) cs) xs)) (row_kept p (is_between ks gs) x (lies k g x) (λ c. refl) cs)
    ∙ ap (λ ys. cond (lies k g x) (F x) [] ++ ys) (rows_kept k g ks gs cs xs) ∙ by (lies k g x)
  where
    by : (b : Bool)
        → cond b (map (λ c. x ∷ c) (filter (is_between ks gs) cs)) [] ++ flat_map (λ y. map (λ c. y ∷ c) (filter (is_between ks gs) cs)) (filter (lies k g) xs)
        ≡ flat_map (λ y. map (λ c. y ∷ c) (filter (is_between ks gs) cs)) (cond b (x ∷ filter (lies k g) xs) (filter (lies k g) xs))
    by true = refl
    by false = refl

-- the coordinates between two corners that lie between two others
between_kept : (ls hs ks gs : List ℤ) → IsTrue (are_bounds ls hs) → length ks ≡ length ls → length gs ≡ length ls → filter (is_between ks gs) (coords_between ls hs) ≡ coords_between (greatest_corner ls ks) (least_corner hs gs)
between_kept [] [] [] [] t e f = refl
between_kept [] [] [] (g ∷ gs) t e f = cc
between_kept [] [] (k ∷ ks) gs t e f = cc
between_kept [] (h ∷ hs) ks gs t e f = cc
between_kept (l ∷ ls) [] ks gs t e f = cc
between_kept (l ∷ ls) (h ∷ hs) [] gs t e f = cc
between_kept (l ∷ ls) (h ∷ hs) (k ∷ ks) [] t e f = cc
between_kept (l ∷ ls) (h ∷ hs) (k ∷ ks) (g ∷ gs) t e f =
    let parts = and_parts (int_le l h) (are_bounds ls hs) t in
    let rest = between_kept ls hs ks gs parts.1 (cc) (cc) in
    let side = side_kept l h k g parts.0 in
    rows_kept k g ks gs (coords_between ls hs) (numbers_from l (count_between l h)) ∙ (λ i. flat_map (λ x. map (λ c. x ∷ c) (rest i)) (side i))

-- what lies in the part lies in the first box
part_within : (ls hs ks gs xs : List ℤ) → length hs ≡ length ls → length ks ≡ length ls → length gs ≡ length ls → IsTrue (is_between (greatest_corner ls ks) (least_corner hs gs) xs) → IsTrue (is_between ls hs xs)
part_within [] [] [] [] xs e f k t = t
part_within [] [] [] (g ∷ gs) xs e f k t = cc
part_within [] [] (k ∷ ks) gs xs e f m t = cc
part_within [] (h ∷ hs) ks gs xs e f k t = cc
part_within (l ∷ ls) [] ks gs xs e f k t = cc
part_within (l ∷ ls) (h ∷ hs) [] gs xs e f k t = cc
part_within (l ∷ ls) (h ∷ hs) (k ∷ ks) [] xs e f m t = cc
part_within (l ∷ ls) (h ∷ hs) (k ∷ ks) (g ∷ gs) [] e f m t = cc
part_within (l ∷ ls) (h ∷ hs) (k ∷ ks) (g ∷ gs) (x ∷ xs) e f m t =
    let parts = and_parts (lies (int_max l k) (int_min h g) x) (is_between (greatest_corner ls ks) (least_corner hs gs) xs) t in
    let here = within_parts (int_max l k) (int_min h g) x parts.0 in
    and_from (lies l h x) (is_between ls hs xs) (within_from l h x (omega (arith, ints, clamps)) (omega (arith, ints, clamps))) (part_within ls hs ks gs xs (cc) (cc) (cc) parts.1)

-- between corners that are no bounds there is nothing
no_cells : (ls hs : List ℤ) → length hs ≡ length ls → are_bounds ls hs ≡ false → cells_between ls hs ≡ 0
no_cells [] [] e f = cc
no_cells [] (h ∷ hs) e f = cc
no_cells (l ∷ ls) [] e f = cc
no_cells (l ∷ ls) (h ∷ hs) e f = by (no_cells ls hs (cc)) (int_le l h) refl f
  where
    by : (are_bounds ls hs ≡ false → cells_between ls hs ≡ 0) → (b : Bool) → int_le l h ≡ b → (b && are_bounds ls hs) ≡ false → count_between l h * cells_between ls hs ≡ 0
    by rest true a f = ap (λ n. count_between l h * n) (rest f) ∙ omega arith
    by rest false a f =
        let less : IsTrue (int_le (h -ℤ l +ℤ pos 1) (pos 0)) = grind (arith, ints, a) in
        ap (λ n. n * cells_between ls hs) (no_more (h -ℤ l +ℤ pos 1) less) ∙ omega arith

-- ---- turned

module _ (f : ℤ → ℤ → ℤ) (corner : List ℤ → List ℤ → List ℤ) (ends : corner [] [] ≡ []) (steps : (x y : ℤ) (xs ys : List ℤ) → corner (x ∷ xs) (y ∷ ys) ≡ f x y ∷ corner xs ys) where
  corner_push : (xs ys : List ℤ) (x y : ℤ) → length ys ≡ length xs → corner (xs ++ x ∷ []) (ys ++ y ∷ []) ≡ corner xs ys ++ f x y ∷ []
  corner_push [] [] x y e = steps x y [] [] ∙ ap (λ zs. f x y ∷ zs) ends ∙ sym (ap (λ zs. zs ++ f x y ∷ []) ends)
  corner_push [] (b ∷ ys) x y e = cc
  corner_push (a ∷ xs) [] x y e = cc
  corner_push (a ∷ xs) (b ∷ ys) x y e =
      steps a b (xs ++ x ∷ []) (ys ++ y ∷ []) ∙ ap (λ zs. f a b ∷ zs) (corner_push xs ys x y (cc)) ∙ sym (ap (λ zs. zs ++ f x y ∷ []) (steps a b xs ys))

  corner_reverse : (xs ys : List ℤ) → length ys ≡ length xs → corner (reverse xs) (reverse ys) ≡ reverse (corner xs ys)
  corner_reverse [] [] e = ends ∙ sym (ap reverse ends)
  corner_reverse [] (y ∷ ys) e = cc
  corner_reverse (x ∷ xs) [] e = cc
  corner_reverse (x ∷ xs) (y ∷ ys) e =
      let short : length ys ≡ length xs = cc in
      let many : length (reverse ys) ≡ length (reverse xs) = length-reverse ys ∙ short ∙ sym (length-reverse xs) in
      (λ i. corner (reverse-append (x ∷ []) xs i) (reverse-append (y ∷ []) ys i)) ∙ corner_push (reverse xs) (reverse ys) x y many
      ∙ ap (λ zs. zs ++ f x y ∷ []) (corner_reverse xs ys short) ∙ sym (reverse-append (f x y ∷ []) (corner xs ys)) ∙ ap reverse (sym (steps x y xs ys))

  corner_turned : (order : Order) (xs ys : List ℤ) → length ys ≡ length xs → corner (turned order xs) (turned order ys) ≡ turned order (corner xs ys)
  corner_turned Row xs ys e = refl
  corner_turned Col xs ys e = corner_reverse xs ys e

lows_turned : (order : Order) (xs ys : List ℤ) → length ys ≡ length xs → greatest_corner (turned order xs) (turned order ys) ≡ turned order (greatest_corner xs ys)
lows_turned order xs ys e = corner_turned int_max greatest_corner refl (λ x y xs ys. refl) order xs ys e

highs_turned : (order : Order) (xs ys : List ℤ) → length ys ≡ length xs → least_corner (turned order xs) (turned order ys) ≡ turned order (least_corner xs ys)
highs_turned order xs ys e = corner_turned int_min least_corner refl (λ x y xs ys. refl) order xs ys e

-- coordinates lie between bounds as turned ones do between turned ones
turned_test : (order : Order) (ls hs xs : List ℤ) → is_between ls hs (turned order xs) ≡ is_between (turned order ls) (turned order hs) xs
turned_test order ls hs xs = by (is_between ls hs (turned order xs)) (is_between (turned order ls) (turned order hs) xs) refl refl
  where
    by : (a b : Bool) → is_between ls hs (turned order xs) ≡ a → is_between (turned order ls) (turned order hs) xs ≡ b → a ≡ b
    by true true e f = refl
    by false false e f = refl
    by true false e f = let on = is_between-turned order ls hs (turned order xs) e in let same : is_between (turned order ls) (turned order hs) xs ≡ true = rw (turned-turned order xs) at on in absurd (cc)
    by false true e f = let back : is_between ls hs (turned order xs) ≡ true = turned-is_between order ls hs xs f in absurd (cc)

-- ---- boxes

length-corner : (f : ℤ → ℤ → ℤ) (corner : List ℤ → List ℤ → List ℤ) → corner [] [] ≡ [] → ((x y : ℤ) (xs ys : List ℤ) → corner (x ∷ xs) (y ∷ ys) ≡ f x y ∷ corner xs ys) → (xs ys : List ℤ) → length ys ≡ length xs
    → length (corner xs ys) ≡ length xs
length-corner f corner ends steps [] [] e = ap length ends
length-corner f corner ends steps [] (y ∷ ys) e = cc
length-corner f corner ends steps (x ∷ xs) [] e = cc
length-corner f corner ends steps (x ∷ xs) (y ∷ ys) e = ap length (steps x y xs ys) ∙ ap suc (length-corner f corner ends steps xs ys (cc))

module _ (a b : SubBox) (valid : IsBox a) where
  -- no cell lies between corners of other dimensions
  pub shared_uneven : (order : Order) → (length b.low ≡ length a.low → length b.high ≡ length a.low → ⊥) → shared_cells order a b ≡ []
  shared_uneven order uneven = kept_none (is_in_box b) (coords_in_order order a) (All-from_get_or (λ c. is_in_box b c ≡ false) (coords_in_order order a) [] (λ i within. apart (get_or (coords_in_order order a) i []) (is_in_box-slice_get order a valid i (get_or (coords_in_order order a) i []) (slice_get-get_or (coords_in_order order a) i [] within))))
    where
      apart : (c : List ℤ) → IsTrue (is_in_box a c) → is_in_box b c ≡ false
      apart c inside = by (is_in_box b c) refl
        where
          by : (t : Bool) → is_in_box b c ≡ t → t ≡ false
          by false e = refl
          by true e =
              let mine = length-is_between a.low a.high c inside in
              let other = length-is_between b.low b.high c e in
              absurd (uneven (omega (arith, mine.0, other.0)) (omega (arith, mine.0, other.1)))

  module _ (part : SubBox) (lows : length b.low ≡ length a.low) (highs : length b.high ≡ length a.low) (low_is : part.low ≡ greatest_corner a.low b.low) (high_is : part.high ≡ least_corner a.high b.high) where
    sides : length a.high ≡ length a.low
    sides = length-are_bounds a.low a.high valid

    shared_are : (order : Order) → shared_cells order a b ≡ coords_in_order order part
    shared_are order =
        let turn = turned order in
        let low = lows_turned order a.low b.low lows ∙ ap turn (sym low_is) in
        let high = highs_turned order a.high b.high (omega (arith, highs, sides)) ∙ ap turn (sym high_is) in
        kept_map (is_in_box b) (is_between (turned order b.low) (turned order b.high)) (turned order) (turned_test order b.low b.high) (coords_between (turned order a.low) (turned order a.high))
        ∙ ap (map (turned order)) (between_kept (turned order a.low) (turned order a.high) (turned order b.low) (turned order b.high) (are_bounds-turned order a.low a.high valid)
        (omega (arith, lows, length-turned order a.low, length-turned order b.low)) (omega (arith, highs, length-turned order a.low, length-turned order b.high)))
        ∙ (λ i. map (turned order) (coords_between (low i) (high i)))

    -- what lies between both corners of the part is a shared cell
    pub shared_is : is_in_box part part.low ≡ true → IsSharedPart part a b
    shared_is t = record {
      valid = are_bounds-is_between part.low part.high part.low t;
      within = λ coords inside. part_within a.low a.high b.low b.high coords sides lows highs (subst (λ (hs : List ℤ). IsTrue (is_between (greatest_corner a.low b.low) hs coords)) high_is (subst (λ (ls : List ℤ). IsTrue (is_between ls part.high coords)) low_is inside));
      cells = shared_are;
    }

    -- where they are no bounds no cell is
    pub shared_none : (order : Order) → is_in_box part part.low ≡ false → shared_cells order a b ≡ []
    shared_none order f =
        let low_many : length part.low ≡ length a.low = ap length low_is ∙ length-corner int_max greatest_corner refl (λ x y xs ys. refl) a.low b.low lows in
        let high_many : length part.high ≡ length a.high = ap length high_is ∙ length-corner int_min least_corner refl (λ x y xs ys. refl) a.high b.high (omega (arith, highs, sides)) in
        let even : length part.high ≡ length part.low = omega (arith, low_many, high_many, sides) in
        let none : cells_between part.low part.high ≡ 0 = no_cells part.low part.high even (no_bounds (are_bounds part.low part.high) refl) in
        shared_are order
        ∙ nil_from_length (coords_in_order order part) (length-map (coords_between (turned order part.low) (turned order part.high)) (turned order) ∙ length-coords_between (turned order part.low) (turned order part.high) ∙ cells_between-turned order part.low part.high even ∙ none)
      where
        no_bounds : (t : Bool) → are_bounds part.low part.high ≡ t → t ≡ false
        no_bounds false e = refl
        no_bounds true e = let inside = is_between-low part.low part.high e in absurd (cc)
