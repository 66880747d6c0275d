-- The laws of the orders.
use Rattle.std.proofs.Common.{◌≡◌, ℕ, zero, suc, ◌+◌, ◌<◌, ◌≤◌, List, [], ◌∷◌, length, get_or, drop, refl, sym, ap, ◌∙◌, arith, ℤ, pos, ◌≤ℤ◌, ◌&&◌}
use Rattle.std.specs.Prelude.{IsTrue, int_le}
use Rattle.std.specs.declared.cmp.Ordering.{Ordering}
use Rattle.std.specs.declared.cmp.Ordering.TheVariants.{Less, Equal, Greater}
use Rattle.std.specs.Ordering.{int_cmp, ordering_then}
use Rattle.std.specs.Cmp.{IsTotalOrder}
use Rattle.std.specs.Cmp.Lexicographic.{slice_cmp}
use Rattle.std.proofs.lemmas.Cmp.{int_ranked, by_ranked, int_cmp_total, lists_total, on_total, then_total, tied_itself}
use Rattle.std.proofs.lemmas.List.{reverse-reverse, length-reverse, get_or-reverse, drop_more, drop_all}
use Rattle.std.proofs.lemmas.Bool.{and_parts}
use Rattle.std.proofs.lemmas.Int.{ints}
use Rattle.ts_domain.specs.declared.orders.Order.{Order}
use Rattle.ts_domain.specs.declared.orders.Order.TheVariants.{Row, Col}
use Rattle.ts_domain.specs.declared.dims.Dim.{Dim}
use Rattle.ts_domain.specs.Dims.{tile_number}
use Rattle.ts_domain.specs.Domains.{is_in_domain}
use Rattle.ts_domain.proofs.Between.{within_parts}
use Rattle.ts_order.specs.Orders.{turned, dim_at, order_cmp, tile_numbers, global_cmp}

-- ---- coordinates turned

pub turned-turned : {A : Type 0} (order : Order) → (xs : List A) → turned order (turned order xs) ≡ xs
turned-turned Row xs = refl
turned-turned Col xs = reverse-reverse xs

pub length-turned : {A : Type 0} (order : Order) → (xs : List A) → length (turned order xs) ≡ length xs
length-turned Row xs = refl
length-turned Col xs = length-reverse xs

pub get_or-turned : {A : Type 0} (order : Order) → (xs : List A) (rank : ℕ) (d : A) → rank < length xs → get_or (turned order xs) rank d ≡ get_or xs (dim_at order (length xs) rank) d
get_or-turned Row xs rank d h = refl
get_or-turned Col xs rank d h = get_or-reverse xs rank d h

pub dim_at-below : (order : Order) (count rank : ℕ) → rank < count → dim_at order count rank < count
dim_at-below Row count rank h = h
dim_at-below Col count rank h = omega arith

-- coordinates that are one when turned are one
pub turned-injective : {A : Type 0} (order : Order) → (xs ys : List A) → turned order xs ≡ turned order ys → xs ≡ ys
turned-injective order xs ys e = sym (turned-turned order xs) ∙ ap (turned order) e ∙ turned-turned order ys

-- ---- total orders

pub order_total : (order : Order) → IsTotalOrder (order_cmp order)
order_total order = on_total (turned order) (lists_total int_cmp_total)

pub global_total : (dims : List Dim) (tile cell : Order) → IsTotalOrder (global_cmp dims tile cell)
global_total dims tile cell = then_total (on_total (tile_numbers dims) (order_total tile)) (order_total cell)

-- numbers that compare as equal are one
int_cmp-exact : (x y : ℤ) → int_cmp x y ≡ Equal → x ≡ y
int_cmp-exact x y e = by_ranked _ _ _ (int_cmp x y) (int_ranked x y (int_cmp x y) refl) (λ f h. cc) (λ f h. h) (λ f h. cc)

slice_cmp-exact : (xs ys : List ℤ) → slice_cmp int_cmp xs ys ≡ Equal → xs ≡ ys
slice_cmp-exact [] [] e = refl
slice_cmp-exact [] (y ∷ ys) e = cc
slice_cmp-exact (x ∷ xs) [] e = cc
slice_cmp-exact (x ∷ xs) (y ∷ ys) e =
    let parts = both_equal (int_cmp x y) (slice_cmp int_cmp xs ys) e in
    rw (int_cmp-exact x y parts.0, slice_cmp-exact xs ys parts.1) refl
  where
    both_equal : (o p : Ordering) → ordering_then o p ≡ Equal → (o ≡ Equal) × (p ≡ Equal)
    both_equal Less p e = cc
    both_equal Equal p e = (refl, e)
    both_equal Greater p e = cc

-- coordinates that compare as equal are one
pub order_cmp-exact : (order : Order) (a b : List ℤ) → order_cmp order a b ≡ Equal → a ≡ b
order_cmp-exact order a b e = turned-injective order a b (slice_cmp-exact (turned order a) (turned order b) e)

pub order_cmp-same : (order : Order) (a b : List ℤ) → a ≡ b → order_cmp order a b ≡ Equal
order_cmp-same order a b e = ap (order_cmp order a) (sym e) ∙ tied_itself (order_total order) a

pub global_cmp-exact : (dims : List Dim) (tile cell : Order) (a b : List ℤ) → global_cmp dims tile cell a b ≡ Equal → a ≡ b
global_cmp-exact dims tile cell a b e = by (order_cmp tile (tile_numbers dims a) (tile_numbers dims b)) e
  where
    by : (o : Ordering) → ordering_then o (order_cmp cell a b) ≡ Equal → a ≡ b
    by Less e = cc
    by Equal e = order_cmp-exact cell a b e
    by Greater e = cc

pub global_cmp-same : (dims : List Dim) (tile cell : Order) (a b : List ℤ) → a ≡ b → global_cmp dims tile cell a b ≡ Equal
global_cmp-same dims tile cell a b e = ap (global_cmp dims tile cell a) (sym e) ∙ tied_itself (global_total dims tile cell) a

-- an answer that tells two apart is the answer
pub ordering_then-apart : (o p : Ordering) → (o ≡ Equal → ⊥) → o ≡ ordering_then o p
ordering_then-apart Less p apart = refl
ordering_then-apart Equal p apart = absurd (apart refl)
ordering_then-apart Greater p apart = refl

-- ---- a loop over the dimensions, from the one compared first

module _ (order : Order) (xs ys : List ℤ) (rank : ℕ) (in_xs : rank < length xs) (in_ys : rank < length ys) (same : length ys ≡ length xs) where
  at_rank : slice_cmp int_cmp (drop rank (turned order xs)) (drop rank (turned order ys))
      ≡ ordering_then (int_cmp (get_or xs (dim_at order (length xs) rank) (pos 0)) (get_or ys (dim_at order (length xs) rank) (pos 0)))
      (slice_cmp int_cmp (drop (rank + 1) (turned order xs)) (drop (rank + 1) (turned order ys)))
  at_rank =
      let long_xs : rank < length (turned order xs) = rw (length-turned order xs) in_xs in
      let long_ys : rank < length (turned order ys) = rw (length-turned order ys) in_ys in
      rw (drop_more (turned order xs) rank (pos 0) long_xs, drop_more (turned order ys) rank (pos 0) long_ys, get_or-turned order xs rank (pos 0) in_xs, get_or-turned order ys rank (pos 0) in_ys, same) refl

  pub slice_cmp_more : (whole o : Ordering) → o ≡ int_cmp (get_or xs (dim_at order (length xs) rank) (pos 0)) (get_or ys (dim_at order (length xs) rank) (pos 0)) → o ≡ Equal
      → slice_cmp int_cmp (drop rank (turned order xs)) (drop rank (turned order ys)) ≡ whole → slice_cmp int_cmp (drop (rank + 1) (turned order xs)) (drop (rank + 1) (turned order ys)) ≡ whole
  slice_cmp_more whole o is equal before =
      sym (at_rank ∙ ap (λ p. ordering_then p (slice_cmp int_cmp (drop (rank + 1) (turned order xs)) (drop (rank + 1) (turned order ys)))) (sym is ∙ equal)) ∙ before

  pub slice_cmp_apart : (whole o : Ordering) → o ≡ int_cmp (get_or xs (dim_at order (length xs) rank) (pos 0)) (get_or ys (dim_at order (length xs) rank) (pos 0)) → (o ≡ Equal → ⊥)
      → slice_cmp int_cmp (drop rank (turned order xs)) (drop rank (turned order ys)) ≡ whole → o ≡ whole
  slice_cmp_apart whole o is apart before =
      ordering_then-apart o (slice_cmp int_cmp (drop (rank + 1) (turned order xs)) (drop (rank + 1) (turned order ys))) apart
      ∙ ap (λ p. ordering_then p (slice_cmp int_cmp (drop (rank + 1) (turned order xs)) (drop (rank + 1) (turned order ys)))) is ∙ sym at_rank ∙ before

-- when all dimensions are done, nothing tells the two apart
pub slice_cmp_all : (order : Order) (xs ys : List ℤ) (rank : ℕ) (whole : Ordering) → length xs ≤ rank → length ys ≡ length xs
    → slice_cmp int_cmp (drop rank (turned order xs)) (drop rank (turned order ys)) ≡ whole → Equal ≡ whole
slice_cmp_all order xs ys rank whole done same before =
    let none_xs : length (turned order xs) ≤ rank = rw (length-turned order xs) done in
    let none_ys : length (turned order ys) ≤ rank = rw (length-turned order ys, same) done in
    rw (drop_all rank (turned order xs) none_xs, drop_all rank (turned order ys) none_ys) at before

-- ---- the tile numbers of coordinates in a domain

-- the coordinate of one dimension lies in it
pub is_in_domain_at : (dims : List Dim) (xs : List ℤ) (i : ℕ) (d : Dim) → IsTrue (is_in_domain dims xs) → i < length dims → d ≡ get_or dims i d → (d.low ≤ℤ get_or xs i (pos 0)) × (get_or xs i (pos 0) ≤ℤ d.high)
is_in_domain_at [] xs i d t k is = absurd (omega arith)
is_in_domain_at (e ∷ es) [] i d t k is = cc
is_in_domain_at (e ∷ es) (x ∷ xs) zero d t k is =
    let parts = and_parts (int_le e.low x && int_le x e.high) (is_in_domain es xs) t in
    let within = within_parts e.low e.high x parts.0 in
    rw is (omega (arith, ints), omega (arith, ints))
is_in_domain_at (e ∷ es) (x ∷ xs) (suc i) d t k is =
    is_in_domain_at es xs i d (and_parts (int_le e.low x && int_le x e.high) (is_in_domain es xs) t).1 (omega arith) is

pub length-is_in_domain : (dims : List Dim) (xs : List ℤ) → IsTrue (is_in_domain dims xs) → length xs ≡ length dims
length-is_in_domain [] [] t = refl
length-is_in_domain [] (x ∷ xs) t = cc
length-is_in_domain (d ∷ ds) [] t = cc
length-is_in_domain (d ∷ ds) (x ∷ xs) t = ap suc (length-is_in_domain ds xs (and_parts (int_le d.low x && int_le x d.high) (is_in_domain ds xs) t).1)

pub length-tile_numbers : (dims : List Dim) (xs : List ℤ) → length xs ≡ length dims → length (tile_numbers dims xs) ≡ length dims
length-tile_numbers [] xs e = refl
length-tile_numbers (d ∷ ds) [] e = cc
length-tile_numbers (d ∷ ds) (x ∷ xs) e = ap suc (length-tile_numbers ds xs (cc))

pub get_or-tile_numbers : (dims : List Dim) (xs : List ℤ) (i : ℕ) (d : Dim) → length xs ≡ length dims → i < length dims → d ≡ get_or dims i d → get_or (tile_numbers dims xs) i (pos 0) ≡ tile_number d (get_or xs i (pos 0))
get_or-tile_numbers [] xs i d e k is = absurd (omega arith)
get_or-tile_numbers (f ∷ fs) [] i d e k is = cc
get_or-tile_numbers (f ∷ fs) (x ∷ xs) zero d e k is = ap (λ g. tile_number g x) (sym is)
get_or-tile_numbers (f ∷ fs) (x ∷ xs) (suc i) d e k is = get_or-tile_numbers fs xs i d (cc) (omega arith) is
