-- The place of coordinates between two corners, counted in row order, and the coordinates at a place.
use Rattle.std.proofs.Common.{◌≡◌, ℕ, zero, suc, ◌+◌, ◌*◌, ◌/◌, ◌%◌, ◌<◌, ◌≤◌, ◌&&◌, List, [], ◌∷◌, ◌++◌, map, length, Some, refl, sym, ap, ◌∙◌, ⊎_elim, arith, mul-le-mul, ℤ, pos, negsuc, ◌+ℤ◌, ◌-ℤ◌}
use Rattle.std.specs.Prelude.{IsTrue, int_le, slice_get}
use Rattle.std.specs.List.{flat_map}
use Rattle.std.specs.declared.cmp.Ordering.TheVariants.{Less, Equal, Greater}
use Rattle.std.specs.Ordering.{int_cmp, nat_cmp, ordering_then}
use Rattle.std.specs.Cmp.Lexicographic.{slice_cmp}
use Rattle.std.proofs.Math.Nat.{mul_comm, mul_assoc, mod-eq_of_lt}
use Rattle.std.proofs.lemmas.Nat.{div_below, mod_below, mul-lt, mul-add-lt, div-mul-add, mod-mul-add, div-add-mod'}
use Rattle.std.proofs.lemmas.List.{length-map}
use Rattle.std.proofs.lemmas.Option.{slice_get-map}
use Rattle.std.specs.Option.{option_map}
use Rattle.std.proofs.lemmas.Int.{ints}
use Rattle.std.proofs.lemmas.Bool.{and_parts, and_from, cases_order}
use Rattle.std.proofs.lemmas.Bool.Decides.{nat_tests}
use Rattle.ts_domain.specs.Bounds.{is_between, natural_of, count_between, cells_between, numbers_from, coords_between}
use Rattle.ts_order.specs.Places.{coords_of_place, place_of}
use Rattle.ts_domain.proofs.Between.{count_between-le, within_parts, within_from, length-coords_between}

-- ---- the list of all coordinates

pub slice_get-numbers_from : (x : ℤ) (n k : ℕ) → k < n → slice_get (numbers_from x n) k ≡ Some (x +ℤ pos k)
slice_get-numbers_from x zero k h = absurd (omega arith)
slice_get-numbers_from x (suc n) zero h = ap Some (omega (arith, ints))
slice_get-numbers_from x (suc n) (suc k) h =
    slice_get-numbers_from (x +ℤ pos 1) n k (omega arith) ∙ ap Some (omega (arith, ints))

slice_get-append_left : {A : Type 0} → (xs ys : List A) (k : ℕ) (a : A) → slice_get xs k ≡ Some a → slice_get (xs ++ ys) k ≡ Some a
slice_get-append_left [] ys k a e = cc
slice_get-append_left (x ∷ xs) ys zero a e = e
slice_get-append_left (x ∷ xs) ys (suc k) a e = slice_get-append_left xs ys k a e

slice_get-append_right : {A : Type 0} → (xs ys : List A) (k : ℕ) → slice_get (xs ++ ys) (length xs + k) ≡ slice_get ys k
slice_get-append_right [] ys k = ap (slice_get ys) (omega arith)
slice_get-append_right (x ∷ xs) ys k =
    let e : length (x ∷ xs) + k ≡ suc (length xs + k) = omega arith in
    ap (slice_get (x ∷ (xs ++ ys))) e ∙ slice_get-append_right xs ys k

slice_get-map_some : {A B : Type 0} (f : A → B) → (xs : List A) (k : ℕ) (a : A) → slice_get xs k ≡ Some a → slice_get (map f xs) k ≡ Some (f a)
slice_get-map_some f xs k a e = slice_get-map f xs k ∙ ap (option_map f) e

-- the cell in row i and column j
slice_get-rows : (xs : List ℤ) (cs : List (List ℤ)) (i j : ℕ) (x : ℤ) (c : List ℤ) → slice_get xs i ≡ Some x → slice_get cs j ≡ Some c
    → slice_get (flat_map (λ x. map (λ c. x ∷ c) cs) xs) (i * length cs + j) ≡ Some (x ∷ c)
slice_get-rows [] cs i j x c e f = cc
slice_get-rows (y ∷ ys) cs zero j x c e f =
    let head : y ≡ x = cc in
    let start : 0 * length cs + j ≡ j = omega arith in
    ap (slice_get (flat_map (λ x. map (λ c. x ∷ c) cs) (y ∷ ys))) start
    ∙ slice_get-append_left (map (λ c. y ∷ c) cs) (flat_map (λ x. map (λ c. x ∷ c) cs) ys) j (y ∷ c) (slice_get-map_some (λ c. y ∷ c) cs j c f)
    ∙ ap (λ z. Some (z ∷ c)) head
slice_get-rows (y ∷ ys) cs (suc i) j x c e f =
    let more : suc i * length cs + j ≡ length (map (λ c. y ∷ c) cs) + (i * length cs + j) = omega (arith, length-map cs (λ c. y ∷ c)) in
    ap (slice_get (flat_map (λ x. map (λ c. x ∷ c) cs) (y ∷ ys))) more
    ∙ slice_get-append_right (map (λ c. y ∷ c) cs) (flat_map (λ x. map (λ c. x ∷ c) cs) ys) (i * length cs + j)
    ∙ slice_get-rows ys cs i j x c e f

-- a table with a place has columns
pub some_columns : (place rows columns : ℕ) → place < rows * columns → 0 < columns
some_columns place rows zero h = absurd (omega arith)
some_columns place rows (suc columns) h = omega arith

-- the coordinates at a place are what the list of all has there
pub slice_get-coords_between : (ls hs : List ℤ) (place : ℕ) → length hs ≡ length ls → place < cells_between ls hs
    → slice_get (coords_between ls hs) place ≡ Some (coords_of_place ls hs place)
slice_get-coords_between [] hs zero e h = refl
slice_get-coords_between [] hs (suc place) e h = absurd (omega arith)
slice_get-coords_between (l ∷ ls) [] place e h = cc
slice_get-coords_between (l ∷ ls) (h ∷ hs) place e k =
    let some : 0 < cells_between ls hs = some_columns place (count_between l h) (cells_between ls hs) k in
    let row : place / cells_between ls hs < count_between l h = div_below place (cells_between ls hs) (count_between l h) some k in
    let column : place % cells_between ls hs < cells_between ls hs = mod_below place (cells_between ls hs) some in
    let long = length-coords_between ls hs in
    let parts : place ≡ place / cells_between ls hs * length (coords_between ls hs) + place % cells_between ls hs = rw long (sym (div-add-mod' place (cells_between ls hs))) in
    ap (slice_get (coords_between (l ∷ ls) (h ∷ hs))) parts
    ∙ slice_get-rows (numbers_from l (count_between l h)) (coords_between ls hs) (place / cells_between ls hs) (place % cells_between ls hs) (l +ℤ pos (place / cells_between ls hs)) (coords_of_place ls hs (place % cells_between ls hs))
    (slice_get-numbers_from l (count_between l h) (place / cells_between ls hs) row)
    (slice_get-coords_between ls hs (place % cells_between ls hs) (cc) column)

-- ---- places and coordinates undo each other

-- a number of steps from the low end stays between the ends
pub within_count : (l h : ℤ) (steps : ℕ) → steps < count_between l h → IsTrue (int_le l (l +ℤ pos steps) && int_le (l +ℤ pos steps) h)
within_count l h steps k = by (h -ℤ l +ℤ pos 1) refl
  where
    by : (z : ℤ) → z ≡ h -ℤ l +ℤ pos 1 → IsTrue (int_le l (l +ℤ pos steps) && int_le (l +ℤ pos steps) h)
    by (pos n) e =
        let below : steps < n = omega (arith, ap natural_of e) in
        within_from l h (l +ℤ pos steps) (omega (arith, ints)) (omega (arith, ints, e))
    by (negsuc n) e = absurd (omega (arith, ap natural_of e))

-- the steps from the low end to a number that lies between the ends
pub steps_between : (l h x : ℤ) → IsTrue (int_le l x && int_le x h) → (natural_of (x -ℤ l) < count_between l h) × (l +ℤ pos (natural_of (x -ℤ l)) ≡ x)
steps_between l h x t = by (x -ℤ l) refl
  where
    by : (z : ℤ) → z ≡ x -ℤ l → (natural_of z < count_between l h) × (l +ℤ pos (natural_of z) ≡ x)
    by (pos n) e =
        let within = within_parts l h x t in
        (omega (arith, ints, e, count_between-le l h (omega arith)), omega (arith, ints, e))
    by (negsuc n) e = let within = within_parts l h x t in absurd (omega (arith, ints, e))

steps_back : (l : ℤ) (steps : ℕ) → natural_of (l +ℤ pos steps -ℤ l) ≡ steps
steps_back l steps = let e : l +ℤ pos steps -ℤ l ≡ pos steps = omega (arith, ints) in rw e refl

-- the coordinates at a place lie between the corners
pub is_between-coords_of_place : (ls hs : List ℤ) (place : ℕ) → length hs ≡ length ls → place < cells_between ls hs → IsTrue (is_between ls hs (coords_of_place ls hs place))
is_between-coords_of_place [] [] place e k = refl
is_between-coords_of_place [] (h ∷ hs) place e k = cc
is_between-coords_of_place (l ∷ ls) [] place e k = cc
is_between-coords_of_place (l ∷ ls) (h ∷ hs) place e k =
    let some : 0 < cells_between ls hs = some_columns place (count_between l h) (cells_between ls hs) k in
    let row : place / cells_between ls hs < count_between l h = div_below place (cells_between ls hs) (count_between l h) some k in
    and_from _ _ (within_count l h (place / cells_between ls hs) row) (is_between-coords_of_place ls hs (place % cells_between ls hs) (cc) (mod_below place (cells_between ls hs) some))

-- their place is that place
pub place_of-coords_of_place : (ls hs : List ℤ) (place : ℕ) → length hs ≡ length ls → place < cells_between ls hs → place_of ls hs (coords_of_place ls hs place) ≡ place
place_of-coords_of_place [] [] place e k = omega arith
place_of-coords_of_place [] (h ∷ hs) place e k = cc
place_of-coords_of_place (l ∷ ls) [] place e k = cc
place_of-coords_of_place (l ∷ ls) (h ∷ hs) place e k =
    let some : 0 < cells_between ls hs = some_columns place (count_between l h) (cells_between ls hs) k in
    let rest = place_of-coords_of_place ls hs (place % cells_between ls hs) (cc) (mod_below place (cells_between ls hs) some) in
    rw (steps_back l (place / cells_between ls hs), rest) (div-add-mod' place (cells_between ls hs))

-- the place of coordinates that lie between the corners is below the number of cells
pub place_of-below : (ls hs xs : List ℤ) → IsTrue (is_between ls hs xs) → place_of ls hs xs < cells_between ls hs
place_of-below [] hs xs t = omega arith
place_of-below (l ∷ ls) [] xs t = cc
place_of-below (l ∷ ls) (h ∷ hs) [] t = cc
place_of-below (l ∷ ls) (h ∷ hs) (x ∷ xs) t =
    let parts = and_parts (int_le l x && int_le x h) (is_between ls hs xs) t in
    rw (mul_comm (cells_between ls hs) (count_between l h)) at (mul-add-lt (natural_of (x -ℤ l)) (cells_between ls hs) (place_of ls hs xs) (count_between l h) (steps_between l h x parts.0).0 (place_of-below ls hs xs parts.1))

-- and the coordinates there are these
pub coords_of_place-place_of : (ls hs xs : List ℤ) → IsTrue (is_between ls hs xs) → coords_of_place ls hs (place_of ls hs xs) ≡ xs
coords_of_place-place_of [] [] [] t = refl
coords_of_place-place_of [] [] (x ∷ xs) t = cc
coords_of_place-place_of [] (h ∷ hs) xs t = cc
coords_of_place-place_of (l ∷ ls) [] xs t = cc
coords_of_place-place_of (l ∷ ls) (h ∷ hs) [] t = cc
coords_of_place-place_of (l ∷ ls) (h ∷ hs) (x ∷ xs) t =
    let parts = and_parts (int_le l x && int_le x h) (is_between ls hs xs) t in
    let below = place_of-below ls hs xs parts.1 in
    let row = div-mul-add (natural_of (x -ℤ l)) (cells_between ls hs) (place_of ls hs xs) below in
    let column = mod-mul-add (natural_of (x -ℤ l)) (cells_between ls hs) (place_of ls hs xs) below in
    let rest = coords_of_place-place_of ls hs xs parts.1 in
    rw (row, column, (steps_between l h x parts.0).1, rest) refl

-- ---- places ascend as row order does

pub nat_cmp-lt : (a b : ℕ) → a < b → nat_cmp a b ≡ Less
nat_cmp-lt a b h = grind (arith, nat_tests)

nat_cmp-gt : (a b : ℕ) → b < a → nat_cmp a b ≡ Greater
nat_cmp-gt a b h = grind (arith, nat_tests)

nat_cmp-same : (a : ℕ) → nat_cmp a a ≡ Equal
nat_cmp-same a = grind (arith, nat_tests)

nat_cmp-add : (n p q : ℕ) → nat_cmp (n + p) (n + q) ≡ nat_cmp p q
nat_cmp-add n p q = ⊎_elim same (⊎_elim less greater) (cases_order p q)
  where
    same : p ≡ q → nat_cmp (n + p) (n + q) ≡ nat_cmp p q
    same e = rw e (nat_cmp-same (n + q) ∙ sym (nat_cmp-same q))

    less : p < q → nat_cmp (n + p) (n + q) ≡ nat_cmp p q
    less h = nat_cmp-lt (n + p) (n + q) (omega arith) ∙ sym (nat_cmp-lt p q h)

    greater : q < p → nat_cmp (n + p) (n + q) ≡ nat_cmp p q
    greater h = nat_cmp-gt (n + p) (n + q) (omega arith) ∙ sym (nat_cmp-gt p q h)

-- in a table the rows decide first, then the columns
row_cmp : (a b m p q : ℕ) → p < m → q < m → nat_cmp (a * m + p) (b * m + q) ≡ ordering_then (nat_cmp a b) (nat_cmp p q)
row_cmp a b m p q h k = ⊎_elim same (⊎_elim less greater) (cases_order a b)
  where
    same : a ≡ b → nat_cmp (a * m + p) (b * m + q) ≡ ordering_then (nat_cmp a b) (nat_cmp p q)
    same e = rw e (nat_cmp-add (b * m) p q ∙ sym (ap (λ o. ordering_then o (nat_cmp p q)) (nat_cmp-same b)))

    less : a < b → nat_cmp (a * m + p) (b * m + q) ≡ ordering_then (nat_cmp a b) (nat_cmp p q)
    less l =
        let rows : suc a * m ≤ b * m = mul-le-mul l (omega arith) in
        nat_cmp-lt (a * m + p) (b * m + q) (omega (arith, rows)) ∙ sym (ap (λ o. ordering_then o (nat_cmp p q)) (nat_cmp-lt a b l))

    greater : b < a → nat_cmp (a * m + p) (b * m + q) ≡ ordering_then (nat_cmp a b) (nat_cmp p q)
    greater g =
        let rows : suc b * m ≤ a * m = mul-le-mul g (omega arith) in
        nat_cmp-gt (a * m + p) (b * m + q) (omega (arith, rows)) ∙ sym (ap (λ o. ordering_then o (nat_cmp p q)) (nat_cmp-gt a b g))

-- numbers compare as their steps from a low end do
int_cmp-steps : (l h x y : ℤ) → IsTrue (int_le l x && int_le x h) → IsTrue (int_le l y && int_le y h) → int_cmp x y ≡ nat_cmp (natural_of (x -ℤ l)) (natural_of (y -ℤ l))
int_cmp-steps l h x y t u =
    let first = (steps_between l h x t).1 in
    let second = (steps_between l h y u).1 in
    ap (λ z. int_cmp z y) (sym first) ∙ ap (λ z. int_cmp (l +ℤ pos (natural_of (x -ℤ l))) z) (sym second) ∙ by (natural_of (x -ℤ l)) (natural_of (y -ℤ l))
  where
    by : (a b : ℕ) → int_cmp (l +ℤ pos a) (l +ℤ pos b) ≡ nat_cmp a b
    by a b = grind (arith, ints, nat_tests)

-- coordinates compare as their places do
pub slice_cmp-place_of : (ls hs xs ys : List ℤ) → IsTrue (is_between ls hs xs) → IsTrue (is_between ls hs ys) → slice_cmp int_cmp xs ys ≡ nat_cmp (place_of ls hs xs) (place_of ls hs ys)
slice_cmp-place_of [] [] [] [] t u = sym (nat_cmp-same 0)
slice_cmp-place_of [] [] [] (y ∷ ys) t u = cc
slice_cmp-place_of [] [] (x ∷ xs) ys t u = cc
slice_cmp-place_of [] (h ∷ hs) xs ys t u = cc
slice_cmp-place_of (l ∷ ls) [] xs ys t u = cc
slice_cmp-place_of (l ∷ ls) (h ∷ hs) [] ys t u = cc
slice_cmp-place_of (l ∷ ls) (h ∷ hs) (x ∷ xs) [] t u = cc
slice_cmp-place_of (l ∷ ls) (h ∷ hs) (x ∷ xs) (y ∷ ys) t u =
    let first = and_parts (int_le l x && int_le x h) (is_between ls hs xs) t in
    let second = and_parts (int_le l y && int_le y h) (is_between ls hs ys) u in
    ap (λ o. ordering_then o (slice_cmp int_cmp xs ys)) (int_cmp-steps l h x y first.0 second.0)
    ∙ ap (ordering_then (nat_cmp (natural_of (x -ℤ l)) (natural_of (y -ℤ l)))) (slice_cmp-place_of ls hs xs ys first.1 second.1)
    ∙ sym (row_cmp (natural_of (x -ℤ l)) (natural_of (y -ℤ l)) (cells_between ls hs) (place_of ls hs xs) (place_of ls hs ys) (place_of-below ls hs xs first.1) (place_of-below ls hs ys second.1))

-- ---- one dimension more, which changes fastest

pub cells_between-push : (ls hs : List ℤ) (l h : ℤ) → length hs ≡ length ls → cells_between (ls ++ l ∷ []) (hs ++ h ∷ []) ≡ cells_between ls hs * count_between l h
cells_between-push [] [] l h e = omega arith
cells_between-push [] (k ∷ hs) l h e = cc
cells_between-push (k ∷ ls) [] l h e = cc
cells_between-push (k ∷ ls) (g ∷ hs) l h e = rw (cells_between-push ls hs l h (cc)) (sym (mul_assoc (count_between k g) (cells_between ls hs) (count_between l h)))

pub place_of-push : (ls hs xs : List ℤ) (l h x : ℤ) → length hs ≡ length ls → length xs ≡ length ls
    → place_of (ls ++ l ∷ []) (hs ++ h ∷ []) (xs ++ x ∷ []) ≡ place_of ls hs xs * count_between l h + natural_of (x -ℤ l)
place_of-push [] [] [] l h x e f = omega arith
place_of-push [] [] (y ∷ xs) l h x e f = cc
place_of-push [] (k ∷ hs) xs l h x e f = cc
place_of-push (k ∷ ls) [] xs l h x e f = cc
place_of-push (k ∷ ls) (g ∷ hs) [] l h x e f = cc
place_of-push (k ∷ ls) (g ∷ hs) (y ∷ xs) l h x e f =
    let rest = place_of-push ls hs xs l h x (cc) (cc) in
    let cells = cells_between-push ls hs l h (cc) in
    rw (rest, cells) (omega (arith, mul_assoc (natural_of (y -ℤ k)) (cells_between ls hs) (count_between l h)))

-- the last digit of a number, and the digits before it
last_digit : (p c n : ℕ) → 0 < n → 0 < c → (p / n / c ≡ p / (c * n)) × (p / n % c ≡ p % (c * n) / n) × (p % n ≡ p % (c * n) % n)
last_digit p c n some more =
    let whole : 0 < c * n = mul-lt 0 0 c n more some in
    let r = p % (c * n) in
    let below : r / n < c = div_below r n c some (mod_below p (c * n) whole) in
    let parts : p ≡ (p / (c * n) * c + r / n) * n + r % n = omega (arith, div-add-mod' p (c * n), div-add-mod' r n, mul_assoc (p / (c * n)) c n) in
    let quotient : p / n ≡ p / (c * n) * c + r / n = ap (λ x. x / n) parts ∙ div-mul-add (p / (c * n) * c + r / n) n (r % n) (mod_below r n some) in
    let digit : p % n ≡ r % n = ap (λ x. x % n) parts ∙ mod-mul-add (p / (c * n) * c + r / n) n (r % n) (mod_below r n some) in
    (ap (λ x. x / c) quotient ∙ div-mul-add (p / (c * n)) c (r / n) below, ap (λ x. x % c) quotient ∙ mod-mul-add (p / (c * n)) c (r / n) below, digit)

pub coords_of_place-push : (ls hs : List ℤ) (l h : ℤ) (place : ℕ) → length hs ≡ length ls → place < cells_between ls hs * count_between l h
    → coords_of_place (ls ++ l ∷ []) (hs ++ h ∷ []) place ≡ coords_of_place ls hs (place / count_between l h) ++ (l +ℤ pos (place % count_between l h)) ∷ []
coords_of_place-push [] [] l h place e k =
    let whole : place / 1 ≡ place = omega arith in
    let below : place < count_between l h = omega arith in
    rw (whole, mod-eq_of_lt below) refl
coords_of_place-push [] (g ∷ hs) l h place e k = cc
coords_of_place-push (m ∷ ls) [] l h place e k = cc
coords_of_place-push (m ∷ ls) (g ∷ hs) l h place e k =
    let n = count_between l h in
    let c = cells_between ls hs in
    let cells = cells_between-push ls hs l h (cc) in
    let some : 0 < n = some_columns place (count_between m g * c) n k in
    let product : place < count_between m g * (c * n) = rw mul_assoc at k in
    let whole : 0 < c * n = some_columns place (count_between m g) (c * n) product in
    let more : 0 < c = some_columns 0 n c (rw (mul_comm c n) at whole) in
    let digits = last_digit place c n some more in
    let rest = coords_of_place-push ls hs l h (place % (c * n)) (cc) (mod_below place (c * n) whole) in
    rw (cells, rest, digits.0, digits.1, digits.2) refl
