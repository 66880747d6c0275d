-- Many numbers are read at once as one after the other.
use Rattle.std.proofs.Common.{◌≡◌, ℕ, zero, suc, ◌+◌, ◌-◌, ◌*◌, ◌/◌, ◌%◌, ◌^◌, ◌<◌, ◌≤◌, ℤ, pos, negsuc, ◌-ℤ◌, ⊎_elim, Bool, true, false, nat_lt, nat_eq, ◌&&◌, if◌then◌else◌, List, [], ◌∷◌, ◌++◌, length, get_or, take, drop, map, Result, Ok, Err, refl, sym, ap, ◌∙◌, arith, length-drop}
use Rattle.std.specs.Int.{w8, w16, w32, w64, cast_signed}
use Rattle.std.proofs.lemmas.Bool.{cases_lt, lt-ltb, le-ltb, ne_eqb}
use Rattle.std.proofs.lemmas.Int.{ints}
use Rattle.std.proofs.lemmas.List.{drop-drop, drop_all, take_all}
use Rattle.std.proofs.lemmas.List.Elements.{All-more, All-same}
use Rattle.std.specs.Prelude.{int_le, All, IsTrue}
use Rattle.std.specs.List.{list_all}
use Rattle.std.proofs.Math.Nat.{mul-le-mul_right}
use Rattle.std.specs.Simd.{first_chunks}
use Rattle.byteorder.specs.Numbers.{little_from-lt}
use Rattle.ts_wire.proofs.Laws.{IsBytes-take, IsBytes-drop}
use Rattle.byteorder.specs.Endian.{little_number, twos_complement}
use Rattle.ts_wire.specs.Exact.{IsBytes}
use Rattle.ts_wire.specs.Place.{◌>>=◌, Place, place, Read, items_at, whole}
use Rattle.ts_wire.specs.Numbers.{int_of, int_at}
use Rattle.ts_column.specs.Tiles.{ints_at, ints_in}

-- the two's complement of 8 bits
pub signed_1 : (x : ℕ) → x < 256 → cast_signed w8 x ≡ twos_complement 1 x
signed_1 x fits = ⊎_elim low high (cases_lt x 128)
  where
    low : x < 128 → cast_signed w8 x ≡ twos_complement 1 x
    low h = let is : nat_lt x 128 ≡ true = lt-ltb x 128 h in rw is refl

    high : 128 ≤ x → cast_signed w8 x ≡ twos_complement 1 x
    high h =
        let is : nat_lt x 128 ≡ false = le-ltb x 128 h in
        let same : negsuc (256 - suc x) ≡ pos x -ℤ pos 256 = grind (arith, ints) in
        rw is same

-- the two's complement of 16 bits
pub signed_2 : (x : ℕ) → x < 65536 → cast_signed w16 x ≡ twos_complement 2 x
signed_2 x fits = ⊎_elim low high (cases_lt x 32768)
  where
    low : x < 32768 → cast_signed w16 x ≡ twos_complement 2 x
    low h = let is : nat_lt x 32768 ≡ true = lt-ltb x 32768 h in rw is refl

    high : 32768 ≤ x → cast_signed w16 x ≡ twos_complement 2 x
    high h =
        let is : nat_lt x 32768 ≡ false = le-ltb x 32768 h in
        let same : negsuc (65536 - suc x) ≡ pos x -ℤ pos 65536 = grind (arith, ints) in
        rw is same

-- the two's complement of 32 bits
pub signed_4 : (x : ℕ) → x < 4294967296 → cast_signed w32 x ≡ twos_complement 4 x
signed_4 x fits = ⊎_elim low high (cases_lt x 2147483648)
  where
    low : x < 2147483648 → cast_signed w32 x ≡ twos_complement 4 x
    low h = let is : nat_lt x 2147483648 ≡ true = lt-ltb x 2147483648 h in rw is refl

    high : 2147483648 ≤ x → cast_signed w32 x ≡ twos_complement 4 x
    high h =
        let is : nat_lt x 2147483648 ≡ false = le-ltb x 2147483648 h in
        let same : negsuc (4294967296 - suc x) ≡ pos x -ℤ pos 4294967296 = grind (arith, ints) in
        rw is same

-- the two's complement of 64 bits
pub signed_8 : (x : ℕ) → x < 18446744073709551616 → cast_signed w64 x ≡ twos_complement 8 x
signed_8 x fits = ⊎_elim low high (cases_lt x 9223372036854775808)
  where
    low : x < 9223372036854775808 → cast_signed w64 x ≡ twos_complement 8 x
    low h = let is : nat_lt x 9223372036854775808 ≡ true = lt-ltb x 9223372036854775808 h in rw is refl

    high : 9223372036854775808 ≤ x → cast_signed w64 x ≡ twos_complement 8 x
    high h =
        let is : nat_lt x 9223372036854775808 ≡ false = le-ltb x 9223372036854775808 h in
        let same : negsuc (18446744073709551616 - suc x) ≡ pos x -ℤ pos 18446744073709551616 = grind (arith, ints) in
        rw is same

-- one number, where there are its bytes
one_int : (n : ℕ) (signed : Bool) (bytes : List ℕ) (at : ℕ) → n ≤ length bytes → int_at n signed (place bytes at) ≡ Ok (int_of n signed (take n bytes), place (drop n bytes) (at + n))
unfolding int_at
one_int n signed bytes at room = let is : nat_lt (length bytes) n ≡ false = le-ltb (length bytes) n room in rw is refl

-- and none where there are not
no_int : (n : ℕ) (signed : Bool) (bytes : List ℕ) (at : ℕ) → length bytes < n → int_at n signed (place bytes at) ≡ Err at
unfolding int_at
no_int n signed bytes at short = let is : nat_lt (length bytes) n ≡ true = lt-ltb (length bytes) n short in rw is refl

-- one item, and then more
pub items_one : {A : Type 0} (item : List A → Place → Read A) (count : ℕ) (front : List A) (p : Place) (x : A) (q : Place) (more : Read (List A)) → item front p ≡ Ok (x, q) → items_at item count (front ++ x ∷ []) q ≡ more
    → items_at item (suc count) front p ≡ (more >>= λ y. Ok (x ∷ y.0, y.1))
unfolding items_at
items_one {A} item count front p x q more first rest = rw (first, rest) (by more)
  where
    second : List A × Place → Result ((A × List A) × Place) ℕ
    second b = Ok ((x, b.0), b.1)

    last : (A × List A) × Place → Read (List A)
    last y = Ok (y.0.0 ∷ y.0.1, y.1)

    by : (more : Read (List A)) → ((more >>= second) >>= last) ≡ (more >>= λ y. Ok (x ∷ y.0, y.1))
    by (Ok y) = refl
    by (Err at) = refl

-- numbers one after the other
pub items_bulk : (n : ℕ) (signed : Bool) (count : ℕ) (front : List ℤ) (bytes : List ℕ) (at : ℕ) → count * n ≤ length bytes
    → items_at (λ _. int_at n signed) count front (place bytes at) ≡ Ok (map (int_of n signed) (first_chunks n count bytes), place (drop (count * n) bytes) (at + count * n))
unfolding items_at
items_bulk n signed zero front bytes at room =
    let none : zero * n ≡ 0 = omega arith in
    rw none (ap (λ i. Ok ([], place bytes i)) (omega arith))
items_bulk n signed (suc count) front bytes at room =
    let split : n + count * n ≡ suc count * n = omega arith in
    let rest : count * n ≤ length (drop n bytes) = omega (arith, length-drop n bytes) in
    let x = int_of n signed (take n bytes) in
    items_one (λ _. int_at n signed) count front (place bytes at) x _ _ (one_int n signed bytes at (omega arith)) (items_bulk n signed count (front ++ x ∷ []) (drop n bytes) (at + n) rest)
    ∙ ap (λ text. Ok (x ∷ map (int_of n signed) (first_chunks n count (drop n bytes)), place text (at + n + count * n))) (drop-drop (count * n) n bytes ∙ ap (λ i. drop i bytes) split)
    ∙ ap (λ i. Ok (x ∷ map (int_of n signed) (first_chunks n count (drop n bytes)), place (drop (suc count * n) bytes) i)) (omega arith)

-- too few bytes for all of them
pub items_short : (n : ℕ) (signed : Bool) (count whole : ℕ) (front : List ℤ) (bytes : List ℕ) (at left : ℕ) → length bytes ≡ whole * n + left → left < n → whole < count
    → items_at (λ _. int_at n signed) count front (place bytes at) ≡ Err (at + whole * n)
unfolding items_at
items_short n signed zero whole front bytes at left long rest few = absurd (omega arith)
items_short n signed (suc count) zero front bytes at left long rest few = rw (no_int n signed bytes at (omega arith)) (ap Err (omega arith))
items_short n signed (suc count) (suc whole) front bytes at left long rest few =
    let split : suc whole * n ≡ n + whole * n = omega arith in
    let behind : length (drop n bytes) ≡ whole * n + left = omega (arith, length-drop n bytes) in
    let x = int_of n signed (take n bytes) in
    items_one (λ _. int_at n signed) count front (place bytes at) x _ _ (one_int n signed bytes at (omega arith)) (items_short n signed count whole (front ++ x ∷ []) (drop n bytes) (at + n) left behind rest (omega arith))
    ∙ ap Err (omega arith)

-- ---- a whole part of a tile

-- it holds all numbers and nothing more
pub ints_whole : (n : ℕ) (signed : Bool) (count : ℕ) (bytes : List ℕ) → length bytes ≡ count * n → ints_in n signed count bytes ≡ Ok (map (int_of n signed) (first_chunks n count bytes))
unfolding ints_in ints_at
ints_whole n signed count bytes long =
    let none : drop (count * n) bytes ≡ [] = drop_all (count * n) bytes (omega arith) in
    ended _ _ _ (items_bulk n signed count [] bytes 0 (omega arith)) none
  where
    ended : (r : Read (List ℤ)) (x : List ℤ) (q : Place) → r ≡ Ok (x, q) → q.rest ≡ [] → (r >>= λ y. if nat_eq (length y.1.rest) 0 then Ok y.0 else Err y.1.at) ≡ Ok x
    ended r x q is none = rw (is, none) refl

-- it ends too early
pub ints_short : (n : ℕ) (signed : Bool) (count : ℕ) (bytes : List ℕ) → 1 ≤ n → length bytes / n < count → ints_in n signed count bytes ≡ Err (length bytes / n * n)
unfolding ints_in ints_at
ints_short n signed count bytes some few =
    let cut = items_short n signed count (length bytes / n) [] bytes 0 (length bytes % n) (omega arith) (omega arith) few in
    rw cut (ap Err (omega arith))

-- it goes on behind them
pub ints_long : (n : ℕ) (signed : Bool) (count : ℕ) (bytes : List ℕ) → count * n < length bytes → ints_in n signed count bytes ≡ Err (count * n)
unfolding ints_in ints_at
ints_long n signed count bytes more =
    let some : nat_eq (length (drop (count * n) bytes)) 0 ≡ false = ne_eqb (length (drop (count * n) bytes)) 0 (λ e. omega (arith, length-drop (count * n) bytes)) in
    goes _ _ _ (items_bulk n signed count [] bytes 0 (omega arith)) some ∙ ap Err (omega arith)
  where
    goes : (r : Read (List ℤ)) (x : List ℤ) (q : Place) → r ≡ Ok (x, q) → nat_eq (length q.rest) 0 ≡ false → (r >>= λ y. if nat_eq (length y.1.rest) 0 then Ok y.0 else Err y.1.at) ≡ Err q.at
    goes r x q is some = rw (is, some) refl

-- so many numbers of n bytes have room among those that there are whole
pub product_fits : (count n long : ℕ) → count ≤ long / n → 1 ≤ n → count * n ≤ long
product_fits count n long few some =
    let whole : long / n * n ≤ long = omega arith in
    let less : count * n ≤ long / n * n = mul-le-mul_right n few in
    omega (arith, whole, less)

pub ruleset ints_laws = (ints_whole, ints_short, ints_long, product_fits)

-- ---- unsigned numbers of 64 bits

nonneg_same : (n : ℕ) → n < 2 ^ 64 → int_le (pos 0) (twos_complement 8 n) ≡ true → twos_complement 8 n ≡ pos n
nonneg_same n few h = ⊎_elim low high (cases_lt n 9223372036854775808)
  where
    below : (k : ℕ) → int_le (pos 0) (negsuc k) ≡ true → ⊥
    below k h = cc

    low : n < 9223372036854775808 → twos_complement 8 n ≡ pos n
    low k = let is : nat_lt n 9223372036854775808 ≡ true = lt-ltb n 9223372036854775808 k in rw is refl

    high : 9223372036854775808 ≤ n → twos_complement 8 n ≡ pos n
    high k =
        let is : nat_lt n 9223372036854775808 ≡ false = le-ltb n 9223372036854775808 k in
        let same : twos_complement 8 n ≡ negsuc (18446744073709551616 - suc n) = rw is (grind (arith, ints)) in
        absurd (below (18446744073709551616 - suc n) (ap (int_le (pos 0)) (sym same) ∙ h))

pub both_true : (a b : Bool) → (a && b) ≡ true → (a ≡ true) × (b ≡ true)
both_true true true h = (refl, refl)
both_true true false h = absurd (cc)
both_true false b h = absurd (cc)

-- where no signed number is negative they are the unsigned ones
pub same_unsigned : (count : ℕ) (bytes : List ℕ) (numbers : List ℤ) → IsBytes bytes → numbers ≡ map (int_of 8 true) (first_chunks 8 count bytes) → list_all (λ x. int_le (pos 0) x) numbers ≡ true → numbers ≡ map (int_of 8 false) (first_chunks 8 count bytes)
same_unsigned count bytes numbers bytes_are is all = is ∙ by count bytes bytes_are (ap (list_all (λ x. int_le (pos 0) x)) (sym is) ∙ all)
  where
    by : (count : ℕ) (bytes : List ℕ) → IsBytes bytes → list_all (λ x. int_le (pos 0) x) (map (int_of 8 true) (first_chunks 8 count bytes)) ≡ true → map (int_of 8 true) (first_chunks 8 count bytes) ≡ map (int_of 8 false) (first_chunks 8 count bytes)
    by zero bytes are all = refl
    by (suc count) bytes are all =
        let two = both_true (int_le (pos 0) (int_of 8 true (take 8 bytes))) _ all in
        let top = little_from-lt 0 8 (take 8 bytes) (IsBytes-take 8 bytes are) in
        let first = nonneg_same (little_number 8 (take 8 bytes)) top two.0 in
        ap (λ z. z ∷ map (int_of 8 true) (first_chunks 8 count (drop 8 bytes))) first ∙ ap (λ zs. int_of 8 false (take 8 bytes) ∷ zs) (by count (drop 8 bytes) (IsBytes-drop 8 bytes are) two.1)

-- ---- chunks that all pass a test

-- one chunk more, while the answer stays yes
pub passed_more : (P : List ℕ → Type 0) (chunks : List (List ℕ)) (i : ℕ) (all one : Bool) → i < length chunks → (IsTrue all → All P (take i chunks)) → (IsTrue one → P (get_or chunks i [])) → IsTrue (all && one) → All P (take (i + 1) chunks)
passed_more P chunks i true true more before now passed = All-more P chunks i [] more (before passed) (now passed)
passed_more P chunks i true false more before now passed = cc
passed_more P chunks i false one more before now passed = cc

-- the chunks that were tried are all of them
pub passed_all : (P : List ℕ → Type 0) (chunks : List (List ℕ)) (i : ℕ) → length chunks ≤ i → All P (take i chunks) → All P chunks
passed_all P chunks i over passed = All-same P chunks (take i chunks) (sym (take_all i chunks over)) passed
