-- The space tiles of a box, whether the dimensions are sound or not: the cells of each lie in the box and in one tile, and they ascend tile by tile.
use Rattle.std.proofs.Common.{◌≡◌, ℕ, suc, ◌+◌, ◌-◌, ◌*◌, ◌/◌, ◌<◌, ◌≤◌, Bool, true, false, ◌&&◌, List, [], ◌∷◌, length, map, refl, sym, ap, subst, ◌∙◌, ◌⊎◌, inl, inr, arith, ℤ, pos, negsuc, ◌+ℤ◌, ◌-ℤ◌, ◌*ℤ◌, ◌≤ℤ◌}
use Rattle.std.specs.Prelude.{IsTrue, int_le}
use Rattle.std.specs.List.{flat_map, AllByRecursion}
use Rattle.std.specs.Int.{int_div_euclid, int_min, int_max}
use Rattle.std.specs.Ordering.{ordering_then}
use Rattle.std.specs.declared.cmp.Ordering.TheVariants.{Less}
use Rattle.std.proofs.Math.Nat.{mul-le-mul_right}
use Rattle.std.proofs.lemmas.Int.{ints, clamps}
use Rattle.std.proofs.lemmas.Nat.{div-mul-add}
use Rattle.std.proofs.lemmas.Bool.{and_parts, and_from}
use Rattle.ts_domain.specs.declared.orders.Order.{Order}
use Rattle.ts_domain.specs.declared.boxes.SubBox.{SubBox}
use Rattle.ts_domain.specs.declared.dims.Dim.{Dim}
use Rattle.ts_domain.specs.Bounds.{are_bounds, is_between, natural_of, count_between, numbers_from, coords_between}
use Rattle.ts_domain.specs.Boxes.{IsBox, is_in_box}
use Rattle.ts_domain.specs.Dims.{tile_number, tile_start, tile_end}
use Rattle.ts_domain.specs.Domains.{is_in_domain, LiesInDomain}
use Rattle.ts_domain.proofs.Between.{within_parts, within_from, length-is_between}
use Rattle.ts_order.specs.Orders.{turned, order_cmp, tile_numbers, global_cmp, coords_in_order}
use Rattle.ts_order.specs.Tiles.{cut_low, cut_high, cut_box, tile_box}
use Rattle.ts_order.proofs.OrderLemmas.{turned-turned, length-turned, length-is_in_domain, length-tile_numbers, order_cmp-same}
use Rattle.ts_order.proofs.TurnedLemmas.{are_bounds-turned}
use Rattle.ts_order.proofs.OrderedCoords.{Ascends-coords_in_order}
use Rattle.ts_order.proofs.InOrder.{InOrder, in_order, in_order_append, all_append, all_weaker}
use Rattle.ts_order.proofs.HullCells.{coords_inside}
use Rattle.ts_wire.specs.Exact.{EachFits}

-- ---- coordinates between corners

-- no number lies between ends of which the first is the greater one
no_numbers : (l h : ℤ) → int_le l h ≡ false → count_between l h ≡ 0
no_numbers l h e = by (h -ℤ l +ℤ pos 1) refl
  where
    by : (z : ℤ) → z ≡ h -ℤ l +ℤ pos 1 → natural_of z ≡ 0
    by (pos n) is = omega (arith, ints, e, is)
    by (negsuc n) is = refl

-- what is made of no rows is none
none_flat : (xs : List ℤ) → flat_map (λ (x : ℤ). map (λ (c : List ℤ). x ∷ c) []) xs ≡ []
none_flat [] = refl
none_flat (x ∷ xs) = none_flat xs

-- no coordinates lie between corners that are no bounds
none_between : (ls hs : List ℤ) → length hs ≡ length ls → are_bounds ls hs ≡ false → coords_between ls hs ≡ []
none_between [] [] e empty = absurd (cc)
none_between [] (h ∷ hs) e empty = absurd (omega (arith, e))
none_between (l ∷ ls) [] e empty = absurd (omega (arith, e))
none_between (l ∷ ls) (h ∷ hs) e empty = by (int_le l h) refl empty (λ rest. none_between ls hs (omega (arith, e)) rest)
  where
    by : (b : Bool) → int_le l h ≡ b → (b && are_bounds ls hs) ≡ false → (are_bounds ls hs ≡ false → coords_between ls hs ≡ []) → coords_between (l ∷ ls) (h ∷ hs) ≡ []
    by false is empty rest = ap (λ (n : ℕ). flat_map (λ (x : ℤ). map (λ (c : List ℤ). x ∷ c) (coords_between ls hs)) (numbers_from l n)) (no_numbers l h is)
    by true is empty rest = ap (λ (cs : List (List ℤ)). flat_map (λ (x : ℤ). map (λ (c : List ℤ). x ∷ c) cs) (numbers_from l (count_between l h))) (rest empty) ∙ none_flat (numbers_from l (count_between l h))

-- corners with as many bounds are those of a box, or have no coordinates between them
box_or_none : (order : Order) (sub : SubBox) → length sub.high ≡ length sub.low → IsBox sub ⊎ (coords_in_order order sub ≡ [])
box_or_none order sub long = by (are_bounds (turned order sub.low) (turned order sub.high)) refl
  where
    by : (b : Bool) → are_bounds (turned order sub.low) (turned order sub.high) ≡ b → IsBox sub ⊎ (coords_in_order order sub ≡ [])
    by true is = inl (rw (turned-turned order sub.low, turned-turned order sub.high) at (are_bounds-turned order (turned order sub.low) (turned order sub.high) is))
    by false empty = inr (ap (map (turned order)) (none_between (turned order sub.low) (turned order sub.high) (length-turned order sub.high ∙ long ∙ sym (length-turned order sub.low)) empty))

module _ (order : Order) (sub : SubBox) (long : length sub.high ≡ length sub.low) where
  -- they ascend
  any_in_order : InOrder (order_cmp order) (coords_in_order order sub)
  any_in_order = by (box_or_none order sub long)
    where
      by : IsBox sub ⊎ (coords_in_order order sub ≡ []) → InOrder (order_cmp order) (coords_in_order order sub)
      by (inl box) = in_order (order_cmp order) (coords_in_order order sub) (Ascends-coords_in_order order sub box)
      by (inr none) = subst (InOrder (order_cmp order)) (sym none) tt

  -- and lie between the corners
  any_inside : AllByRecursion (λ (x : List ℤ). IsTrue (is_in_box sub x)) (coords_in_order order sub)
  any_inside = by (box_or_none order sub long)
    where
      by : IsBox sub ⊎ (coords_in_order order sub ≡ []) → AllByRecursion (λ (x : List ℤ). IsTrue (is_in_box sub x)) (coords_in_order order sub)
      by (inl box) = coords_inside order sub box
      by (inr none) = subst (AllByRecursion (λ (x : List ℤ). IsTrue (is_in_box sub x))) (sym none) tt

-- ---- one space tile

-- the quotient is the number of whole steps
quotient_is : (p n e : ℕ) → n * e ≤ p → p < n * e + e → p / e ≡ n
quotient_is p n e h k =
    let parts : p ≡ n * e + (p - n * e) = omega arith in
    ap (λ x. x / e) parts ∙ div-mul-add n e (p - n * e) (omega arith)

-- a tile that has a number has an extent
extent_some : (start x extent : ℤ) → start ≤ℤ x → x ≤ℤ (start +ℤ (extent -ℤ pos 1)) → pos 1 ≤ℤ extent
extent_some start x extent from to = omega (arith, ints, from, to)

-- a number lies in no tile but its own
number_within : (d : Dim) (x tile : ℤ) → d.low ≤ℤ x → tile_start d tile ≤ℤ x → x ≤ℤ tile_end d tile → tile_number d x ≡ tile
number_within d x tile h from to = by (x -ℤ d.low) d.extent tile refl (extent_some (tile_start d tile) x d.extent from to) from to
  where
    by : (z e t : ℤ) → z ≡ x -ℤ d.low → pos 1 ≤ℤ e → (d.low +ℤ t *ℤ e) ≤ℤ x → x ≤ℤ (d.low +ℤ t *ℤ e +ℤ (e -ℤ pos 1)) → int_div_euclid z e ≡ t
    by (pos p) (pos e) (pos t) i some from to = ap pos (quotient_is p t e (omega (arith, ints)) (omega (arith, ints)))
    by (pos p) (pos e) (negsuc t) i some from to =
        let below : 1 * e ≤ suc t * e = mul-le-mul_right e (omega arith) in
        absurd (omega (arith, ints, below))
    by (pos p) (negsuc e) t i some from to = absurd (omega (arith, ints))
    by (negsuc p) e t i some from to = absurd (omega (arith, ints))

-- what lies in a cut box lies in the box, and in the tile
in_cut : (dims : List Dim) (ts ls hs xs : List ℤ) → IsTrue (is_in_domain dims ls) → length hs ≡ length dims → length ts ≡ length dims
    → IsTrue (is_between (cut_low dims ts ls) (cut_high dims ts hs) xs) → IsTrue (is_between ls hs xs) × (tile_numbers dims xs ≡ ts)
in_cut [] [] [] [] xs inside e f t = (t, refl)
in_cut [] [] [] (h ∷ hs) xs inside e f t = cc
in_cut [] [] (l ∷ ls) hs xs inside e f t = cc
in_cut [] (x ∷ ts) ls hs xs inside e f t = cc
in_cut (d ∷ ds) [] ls hs xs inside e f t = cc
in_cut (d ∷ ds) (n ∷ ts) [] hs xs inside e f t = cc
in_cut (d ∷ ds) (n ∷ ts) (l ∷ ls) [] xs inside e f t = cc
in_cut (d ∷ ds) (n ∷ ts) (l ∷ ls) (h ∷ hs) [] inside e f t = cc
in_cut (d ∷ ds) (n ∷ ts) (l ∷ ls) (h ∷ hs) (x ∷ xs) inside e f t =
    let parts = and_parts _ (is_between (cut_low ds ts ls) (cut_high ds ts hs) xs) t in
    let here = within_parts (int_max l (tile_start d n)) (int_min h (tile_end d n)) x parts.0 in
    let corner = and_parts (int_le d.low l && int_le l d.high) (is_in_domain ds ls) inside in
    let above = within_parts d.low d.high l corner.0 in
    let rest = in_cut ds ts ls hs xs corner.1 (cc) (cc) parts.1 in
    let number = number_within d x n (omega (arith, ints, clamps)) (omega (arith, ints, clamps)) (omega (arith, ints, clamps)) in
    (and_from (int_le l x && int_le x h) (is_between ls hs xs) (within_from l h x (omega (arith, ints, clamps)) (omega (arith, ints, clamps))) rest.0, rw (number, rest.1) refl)

-- a cut box has as many high bounds as low ones
cut_long : (dims : List Dim) (ts ls hs : List ℤ) → length hs ≡ length ls → length (cut_high dims ts hs) ≡ length (cut_low dims ts ls)
cut_long [] ts ls hs e = refl
cut_long (d ∷ ds) [] ls hs e = refl
cut_long (d ∷ ds) (t ∷ ts) [] [] e = refl
cut_long (d ∷ ds) (t ∷ ts) [] (h ∷ hs) e = absurd (omega (arith, e))
cut_long (d ∷ ds) (t ∷ ts) (l ∷ ls) [] e = absurd (omega (arith, e))
cut_long (d ∷ ds) (t ∷ ts) (l ∷ ls) (h ∷ hs) e = ap suc (cut_long ds ts ls hs (omega (arith, e)))

-- ---- all of them

-- all coordinates of parts
abbrev pub joined : List (List (List ℤ)) → List (List ℤ)
joined parts = flat_map (λ (xs : List (List ℤ)). xs) parts

module _ (dims : List Dim) (tile cell : Order) (sub : SubBox) (inside : LiesInDomain dims sub) where
  -- the box has a low bound for each dimension
  lows : length sub.low ≡ length dims
  lows = length-is_in_domain dims sub.low inside.0

  -- and a high one
  highs : length sub.high ≡ length dims
  highs = length-is_in_domain dims sub.high inside.1

  -- there are as many high numbers of its tiles as low ones
  numbers_long : length (tile_box dims sub).high ≡ length (tile_box dims sub).low
  numbers_long = length-tile_numbers dims sub.high highs ∙ sym (length-tile_numbers dims sub.low lows)

  -- the numbers of the space tiles ascend in the tile order
  pub numbers_in_order : InOrder (order_cmp tile) (coords_in_order tile (tile_box dims sub))
  numbers_in_order = any_in_order tile (tile_box dims sub) numbers_long

  -- and there is one for each dimension
  pub numbers_whole : AllByRecursion (λ (n : List ℤ). length n ≡ length dims) (coords_in_order tile (tile_box dims sub))
  numbers_whole =
      all_weaker (λ (n : List ℤ). IsTrue (is_in_box (tile_box dims sub) n)) (λ (n : List ℤ). length n ≡ length dims) (coords_in_order tile (tile_box dims sub))
      (λ n within. sym (length-is_between (tile_numbers dims sub.low) (tile_numbers dims sub.high) n within).0 ∙ length-tile_numbers dims sub.low lows) (any_inside tile (tile_box dims sub) numbers_long)

  -- coordinates in the box, in the space tile of these numbers
  abbrev pub IsOfTile : List ℤ → List ℤ → Type 0
  IsOfTile n x = IsTrue (is_in_box sub x) × (tile_numbers dims x ≡ n)

  -- coordinates of one space tile, in global order
  pub record IsTilePart (n : List ℤ) (xs : List (List ℤ)) : Type 0 where
    pub up : InOrder (global_cmp dims tile cell) xs
    pub has : AllByRecursion (IsOfTile n) xs

  -- in one space tile the cell order is the global order
  alike_below : (n x : List ℤ) (xs : List (List ℤ)) → tile_numbers dims x ≡ n → AllByRecursion (IsOfTile n) xs → AllByRecursion (λ (y : List ℤ). order_cmp cell x y ≡ Less) xs
      → AllByRecursion (λ (y : List ℤ). global_cmp dims tile cell x y ≡ Less) xs
  alike_below n x [] own has less = tt
  alike_below n x (y ∷ xs) own has less =
      let tie = order_cmp-same tile (tile_numbers dims x) (tile_numbers dims y) (own ∙ sym has.0.1) in
      (ap (λ o. ordering_then o (order_cmp cell x y)) tie ∙ less.0, alike_below n x xs own has.1 less.1)

  -- so coordinates of one space tile that are in cell order are in global order
  alike_in_order : (n : List ℤ) (xs : List (List ℤ)) → AllByRecursion (IsOfTile n) xs → InOrder (order_cmp cell) xs → InOrder (global_cmp dims tile cell) xs
  alike_in_order n [] has up = tt
  alike_in_order n (x ∷ xs) has up = (alike_below n x xs has.0.1 has.1 up.0, alike_in_order n xs has.1 up.1)

  -- the cells of a space tile are such
  pub tile_part : (n : List ℤ) → length n ≡ length dims → IsTilePart n (coords_in_order cell (cut_box dims sub n))
  tile_part n long =
      let box = cut_box dims sub n in
      let wide : length box.high ≡ length box.low = cut_long dims n sub.low sub.high (highs ∙ sym lows) in
      let has = all_weaker (λ (x : List ℤ). IsTrue (is_in_box box x)) (IsOfTile n) (coords_in_order cell box) (λ x within. in_cut dims n sub.low sub.high x inside.0 highs long within) (any_inside cell box wide) in
      record { up = alike_in_order n (coords_in_order cell box) has (any_in_order cell box wide); has = has }

  -- coordinates of a later space tile come later
  later_below : (n x : List ℤ) (xs : List (List ℤ)) (m : List ℤ) → tile_numbers dims x ≡ m → order_cmp tile m n ≡ Less → AllByRecursion (IsOfTile n) xs
      → AllByRecursion (λ (y : List ℤ). global_cmp dims tile cell x y ≡ Less) xs
  later_below n x [] m own less has = tt
  later_below n x (y ∷ xs) m own less has =
      let numbers : order_cmp tile (tile_numbers dims x) (tile_numbers dims y) ≡ Less = rw (own, has.0.1) less in
      (ap (λ o. ordering_then o (order_cmp cell x y)) numbers, later_below n x xs m own less has.1)

  -- so do those of all later ones
  all_below : (m x : List ℤ) (ns : List (List ℤ)) (parts : List (List (List ℤ))) → tile_numbers dims x ≡ m → AllByRecursion (λ (n : List ℤ). order_cmp tile m n ≡ Less) ns → EachFits IsTilePart ns parts
      → AllByRecursion (λ (y : List ℤ). global_cmp dims tile cell x y ≡ Less) (joined parts)
  all_below m x [] [] own later are = tt
  all_below m x [] (xs ∷ parts) own later are = absurd are
  all_below m x (n ∷ ns) [] own later are = absurd are
  all_below m x (n ∷ ns) (xs ∷ parts) own later are =
      all_append (λ (y : List ℤ). global_cmp dims tile cell x y ≡ Less) xs (joined parts) (later_below n x xs m own later.0 (are.0).has) (all_below m x ns parts own later.1 are.1)

  -- coordinates of space tiles that ascend are in global order
  pub parts_in_order : (ns : List (List ℤ)) (parts : List (List (List ℤ))) → InOrder (order_cmp tile) ns → EachFits IsTilePart ns parts → InOrder (global_cmp dims tile cell) (joined parts)
  parts_in_order [] [] up are = tt
  parts_in_order [] (xs ∷ parts) up are = absurd are
  parts_in_order (n ∷ ns) [] up are = absurd are
  parts_in_order (n ∷ ns) (xs ∷ parts) up are =
      in_order_append (global_cmp dims tile cell) xs (joined parts) (are.0).up
      (all_weaker (IsOfTile n) (λ (x : List ℤ). AllByRecursion (λ (y : List ℤ). global_cmp dims tile cell x y ≡ Less) (joined parts)) xs (λ x of. all_below n x ns parts of.1 up.0 are.1) (are.0).has)
      (parts_in_order ns parts up.1 are.1)

  -- and lie in the box
  pub parts_inside : (ns : List (List ℤ)) (parts : List (List (List ℤ))) → EachFits IsTilePart ns parts → AllByRecursion (λ (x : List ℤ). IsTrue (is_in_box sub x)) (joined parts)
  parts_inside [] [] are = tt
  parts_inside [] (xs ∷ parts) are = absurd are
  parts_inside (n ∷ ns) [] are = absurd are
  parts_inside (n ∷ ns) (xs ∷ parts) are =
      all_append (λ (x : List ℤ). IsTrue (is_in_box sub x)) xs (joined parts) (all_weaker (IsOfTile n) (λ (x : List ℤ). IsTrue (is_in_box sub x)) xs (λ x of. of.0) (are.0).has) (parts_inside ns parts are.1)
