-- Numbers are read exactly, at every width.
use Rattle.std.proofs.Common.{◌≡◌, ℕ, zero, suc, ◌+◌, ◌-◌, ◌*◌, ◌/◌, ◌%◌, ◌^◌, ◌<◌, ◌≤◌, ℤ, pos, negsuc, ◌-ℤ◌, Bool, true, false, nat_lt, if◌then◌else◌, List, [], ◌∷◌, length, inl, inr, refl, sym, ap, ◌∙◌, subst, arith}
use Rattle.std.proofs.Math.Nat.{mod-lt, mod-eq_of_lt, mul-add-mod_self_right, div-div-eq-div-mul, pow-suc}
use Rattle.std.proofs.lemmas.Bool.{cases_lt, lt-ltb, le-ltb}
use Rattle.std.proofs.lemmas.Bool.Decides.{nat_tests}
use Rattle.std.proofs.lemmas.Nat.{pow-add}
use Rattle.std.proofs.lemmas.Int.{ints}
use Rattle.std.proofs.lemmas.List.{append-nil}
use Rattle.std.specs.Int.{w128, byte_at, bytes_low_first}
use Rattle.byteorder.specs.Endian.{little_from, little_number, little_bytes, low_bytes}
use Rattle.byteorder.specs.Numbers.{little_from-cons, little_from-lt, little_number-reads_back, length-bytes_low_first}
use Rattle.byteorder.proofs.Bytes.{pow256}
use Rattle.ts_wire.specs.Exact.{IsBytes, Exact}
use Rattle.ts_wire.specs.Numbers.{number_bytes, number_at, int_of, int_bytes, int_at, is_width, FitsInt}
use Rattle.ts_wire.proofs.Laws.{AreBytes, bytes_exact, mapped_exact}

-- ---- bytes of a number

-- a byte of a number is below 256
byte_below : (i x : ℕ) → byte_at i x < 256
byte_below zero x = mod-lt x (omega arith)
byte_below (suc i) x = mod-lt (x / 256 ^ suc i) (omega arith)

-- the bytes of a number are bytes
pub IsBytes-number : (i n x : ℕ) → IsBytes (bytes_low_first i n x)
IsBytes-number i zero x k = omega arith
IsBytes-number i (suc n) x zero = byte_below i x
IsBytes-number i (suc n) x (suc k) = IsBytes-number (suc i) n x k

-- the bytes above the lowest are those of the number without it
byte_up : (i x : ℕ) → byte_at (suc i) x ≡ byte_at i (x / 256)
byte_up zero x = refl
byte_up (suc i) x =
    let split : 256 ^ suc (suc i) ≡ 256 * 256 ^ suc i = pow-suc 256 (suc i) ∙ omega arith in
    ap (λ d. x / d % 256) split ∙ ap (λ d. d % 256) (sym (div-div-eq-div-mul x 256 (256 ^ suc i)))

bytes_up : (i n x : ℕ) → bytes_low_first (suc i) n x ≡ bytes_low_first i n (x / 256)
bytes_up i zero x = refl
bytes_up i (suc n) x = rw (byte_up i x, bytes_up (suc i) n x) refl

-- the number that some bytes stand for has these bytes
pub bytes_of_number : (n : ℕ) (bs : List ℕ) → length bs ≡ n → IsBytes bs → bytes_low_first 0 n (little_from 0 n bs) ≡ bs
bytes_of_number zero [] count all = refl
bytes_of_number zero (b ∷ bs) count all = absurd (omega arith)
bytes_of_number (suc n) [] count all = absurd (omega arith)
bytes_of_number (suc n) (b ∷ bs) count all =
    let low : b < 256 = all 0 in
    let high = little_from-cons 0 n b bs in
    let x = little_from 0 (suc n) (b ∷ bs) in
    let lowest : x % 256 ≡ b = omega (arith, high) in
    let others : x / 256 ≡ little_from 0 n bs = omega (arith, high) in
    rw (lowest, bytes_up 0 n x, others, bytes_of_number n bs (omega arith) (λ i. all (suc i))) refl

-- ---- unsigned numbers

pub number_exact : (n : ℕ) → Exact (λ x. x < 256 ^ n) (number_bytes n) (number_at n)
unfolding number_bytes number_at
number_exact n = mapped_exact (bytes_exact n) (record {
  there = λ bs fits. (little_from-lt 0 n bs fits.1, sym (bytes_of_number n bs fits.0 fits.1));
  back = λ x fits.
      let whole : little_number n (little_bytes n x) ≡ x = ap (little_number n) (sym (append-nil (little_bytes n x))) ∙ little_number-reads_back n x [] fits in
      (little_bytes n x, (length-bytes_low_first 0 n x, IsBytes-number 0 n x), whole, refl);
})

-- ---- signed numbers: of a range of twice `half` numbers, the upper half stands for the negative ones

-- the number that x stands for
abbrev signed_from : ℕ → ℕ → ℕ → ℤ
signed_from half range x = if nat_lt x half then pos x else pos x -ℤ pos range

-- a power of two, and its half
half_range : (n : ℕ) → 1 ≤ n → 2 ^ (8 * n) ≡ 2 ^ (8 * n - 1) + 2 ^ (8 * n - 1)
half_range n some = let one : 8 * n ≡ suc (8 * n - 1) = omega arith in ap (λ e. 2 ^ e) one ∙ pow-suc 2 (8 * n - 1) ∙ omega arith

-- 128 bits hold the range so many times
whole_range : (n : ℕ) → n ≤ 16 → 2 ^ 128 ≡ 2 ^ (128 - 8 * n) * 2 ^ (8 * n)
whole_range n few = let e : 128 ≡ 128 - 8 * n + 8 * n = omega arith in ap (λ k. 2 ^ k) e ∙ pow-add 2 (128 - 8 * n) (8 * n)

-- the low part of a negative number of 128 bits is the same negative number of the range
low_negative : (range times a : ℕ) → 2 ^ 128 ≡ times * range → suc a < range → (2 ^ 128 - suc a) % range ≡ range - suc a
low_negative range zero a whole small = absurd (omega arith)
low_negative range (suc times) a whole small =
    let split : 2 ^ 128 - suc a ≡ times * range + (range - suc a) = omega arith in
    ap (λ x. x % range) split ∙ mul-add-mod_self_right times range (range - suc a) ∙ mod-eq_of_lt (omega arith)

-- a number below its own half is itself, and one above it is negative
signed_low : (half range x : ℕ) → x < half → signed_from half range x ≡ pos x
signed_low half range x low = rw (lt-ltb x half low) refl

signed_high : (half range x : ℕ) → half ≤ x → x < range → signed_from half range x ≡ negsuc (range - suc x)
signed_high half range x high top = rw (le-ltb x half high) (omega (arith, ints))

-- a number that fits, and the low part that stands for it, each give the other
signed_there : (n x : ℕ) → 1 ≤ n → n ≤ 16 → x < 2 ^ (8 * n)
    → FitsInt n true (signed_from (2 ^ (8 * n - 1)) (2 ^ (8 * n)) x) × (low_bytes w128 n (signed_from (2 ^ (8 * n - 1)) (2 ^ (8 * n)) x) ≡ x)
signed_there n x some few top = elim (cases_lt x (2 ^ (8 * n - 1))) [
  | inl low ↦
      let P : ℤ → Type 0 = λ z. FitsInt n true z × (low_bytes w128 n z ≡ x) in
      subst P (sym (signed_low (2 ^ (8 * n - 1)) (2 ^ (8 * n)) x low)) (low, mod-eq_of_lt top)
  | inr high ↦
      let half = half_range n some in
      let P : ℤ → Type 0 = λ z. FitsInt n true z × (low_bytes w128 n z ≡ x) in
      subst P (sym (signed_high (2 ^ (8 * n - 1)) (2 ^ (8 * n)) x high top))
      (omega arith, low_negative (2 ^ (8 * n)) (2 ^ (128 - 8 * n)) (2 ^ (8 * n) - suc x) (whole_range n few) (omega arith) ∙ omega arith)
]

signed_back : (n : ℕ) (z : ℤ) → 1 ≤ n → n ≤ 16 → FitsInt n true z
    → (low_bytes w128 n z < 2 ^ (8 * n)) × (signed_from (2 ^ (8 * n - 1)) (2 ^ (8 * n)) (low_bytes w128 n z) ≡ z)
signed_back n (pos a) some few fits =
    let half = half_range n some in
    let same : a % 2 ^ (8 * n) ≡ a = mod-eq_of_lt (omega arith) in
    rw same (omega arith, signed_low (2 ^ (8 * n - 1)) (2 ^ (8 * n)) a fits)
signed_back n (negsuc a) some few fits =
    let half = half_range n some in
    let same = low_negative (2 ^ (8 * n)) (2 ^ (128 - 8 * n)) a (whole_range n few) (omega arith) in
    let back : 2 ^ (8 * n) - suc (2 ^ (8 * n) - suc a) ≡ a = omega arith in
    rw same (omega arith, signed_high (2 ^ (8 * n - 1)) (2 ^ (8 * n)) (2 ^ (8 * n) - suc a) (omega arith) (omega arith) ∙ ap negsuc back)

unsigned_back : (n : ℕ) (z : ℤ) → FitsInt n false z → (low_bytes w128 n z < 2 ^ (8 * n)) × (pos (low_bytes w128 n z) ≡ z)
unsigned_back n (pos a) fits = let same : a % 2 ^ (8 * n) ≡ a = mod-eq_of_lt fits in rw same (fits, refl)
unsigned_back n (negsuc a) fits = absurd fits

-- bytes and the number that they stand for
int_there : (n : ℕ) (signed : Bool) (bs : List ℕ) → 1 ≤ n → n ≤ 16 → AreBytes n bs
    → FitsInt n signed (int_of n signed bs) × (low_bytes w128 n (int_of n signed bs) ≡ little_number n bs)
int_there n true bs some few fits = signed_there n (little_number n bs) some few (rw (← pow256 n) (little_from-lt 0 n bs fits.1))
int_there n false bs some few fits = let top : little_number n bs < 2 ^ (8 * n) = rw (← pow256 n) (little_from-lt 0 n bs fits.1) in (top, mod-eq_of_lt top)

int_back : (n : ℕ) (signed : Bool) (z : ℤ) → 1 ≤ n → n ≤ 16 → FitsInt n signed z
    → (low_bytes w128 n z < 2 ^ (8 * n)) × ((bs : List ℕ) → little_number n bs ≡ low_bytes w128 n z → int_of n signed bs ≡ z)
int_back n true z some few fits = let back = signed_back n z some few fits in (back.0, λ bs same. ap (signed_from (2 ^ (8 * n - 1)) (2 ^ (8 * n))) same ∙ back.1)
int_back n false z some few fits = let back = unsigned_back n z fits in (back.0, λ bs same. ap pos same ∙ back.1)

pub int_exact : (n : ℕ) (signed : Bool) → 1 ≤ n → n ≤ 16 → Exact (FitsInt n signed) (int_bytes n) (int_at n signed)
unfolding int_bytes int_at number_bytes
int_exact n signed some few = mapped_exact (bytes_exact n) (record {
  there = λ bs fits. let made = int_there n signed bs some few fits in (made.0, sym (ap (little_bytes n) made.1 ∙ bytes_of_number n bs fits.0 fits.1));
  back = λ z fits.
      let made = int_back n signed z some few fits in
      let low = low_bytes w128 n z in
      let whole : little_number n (little_bytes n low) ≡ low = ap (little_number n) (sym (append-nil (little_bytes n low))) ∙ little_number-reads_back n low [] (rw (pow256 n) made.0) in
      (little_bytes n low, (length-bytes_low_first 0 n low, IsBytes-number 0 n low), made.1 (little_bytes n low) whole, refl);
})

-- a number has 1 to 16 bytes, and 8 at most where it is unsigned
pub width_bounds : (n : ℕ) (signed : Bool) → is_width n signed ≡ true → (1 ≤ n) × (n ≤ 16) × (signed ≡ false → n ≤ 8)
width_bounds n signed h = grind (arith, nat_tests)

-- a number of one byte is that byte
pub one_byte : (n : ℕ) → n < 256 → number_bytes 1 n ≡ n ∷ []
unfolding number_bytes
one_byte n h = ap (λ b. b ∷ []) (mod-eq_of_lt h)

-- a number has as many bytes as asked for
pub length-number_bytes : (n x : ℕ) → length (number_bytes n x) ≡ n
unfolding number_bytes
length-number_bytes n x = length-bytes_low_first 0 n x
