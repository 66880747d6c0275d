-- Numbers of 1, 2, 4, 8 and 16 bytes, each by its own width.
use Rattle.std.proofs.Common.{◌≡◌, ◌≢◌, ℕ, ◌%◌, ◌^◌, ◌<◌, true, false, refl, arith}
use Rattle.std.proofs.Math.Nat.{mod-eq_of_lt}
use Rattle.std.proofs.lemmas.Bool.Decides.{nat_tests}
use Rattle.std.specs.Prelude.{nat_lt}
use Rattle.std.specs.Int.{w8, w16, w32, w64, w128, cast_signed}
use Rattle.byteorder.specs.Endian.{twos_complement}
use Rattle.ts_wire.specs.Numbers.{is_width}

-- the widest is left where a number has none of the other widths
pub last_signed : (n : ℕ) → is_width n true ≡ true → n ≢ 1 → n ≢ 2 → n ≢ 4 → n ≢ 8 → n ≡ 16
last_signed n is one two four eight = grind (arith, nat_tests)

pub last_unsigned : (n : ℕ) → is_width n false ≡ true → n ≢ 1 → n ≢ 2 → n ≢ 4 → n ≡ 8
last_unsigned n is one two four = grind (arith, nat_tests)

-- a number of 128 bits has no more
pub whole_low : (x : ℕ) → x < 2 ^ 128 → x % 2 ^ 128 ≡ x
whole_low x few = mod-eq_of_lt few

below : (n top : ℕ) → n < top → nat_lt n top ≡ true
below n top few = grind (arith, nat_tests)

-- the bits of each width, as a signed number and by two's complement
pub signed_8 : (n : ℕ) → n < 2 ^ 8 → cast_signed w8 n ≡ twos_complement 1 n
signed_8 n few = rw (below n (2 ^ 8) few) refl

pub signed_16 : (n : ℕ) → n < 2 ^ 16 → cast_signed w16 n ≡ twos_complement 2 n
signed_16 n few = rw (below n (2 ^ 16) few) refl

pub signed_32 : (n : ℕ) → n < 2 ^ 32 → cast_signed w32 n ≡ twos_complement 4 n
signed_32 n few = rw (below n (2 ^ 32) few) refl

pub signed_64 : (n : ℕ) → n < 2 ^ 64 → cast_signed w64 n ≡ twos_complement 8 n
signed_64 n few = rw (below n (2 ^ 64) few) refl

pub signed_128 : (n : ℕ) → n < 2 ^ 128 → cast_signed w128 n ≡ twos_complement 16 n
signed_128 n few = rw (below n (2 ^ 128) few) refl

pub ruleset signs = (signed_8, signed_16, signed_32, signed_64, signed_128)

pub ruleset widths = (last_signed, last_unsigned, nat_tests)
