-- Numbers as fields: the lowest byte first, and two's complement for signed ones.
use Rattle.std.specs.Prelude.{ℕ, ◌-◌, ◌*◌, ◌^◌, ◌<◌, ℤ, pos, negsuc, Bool, true, false, ◌&&◌, ◌||◌, nat_eq, if◌then◌else◌, List}
use Rattle.std.specs.Int.{w128}
use Rattle.byteorder.specs.Endian.{little_bytes, little_number, twos_complement, low_bytes}
use Rattle.ts_wire.specs.Place.{Place, Read, bytes_at, mapped, ruled}

-- the number x in n bytes, the lowest first
unfoldable pub number_bytes : ℕ → ℕ → List ℕ
number_bytes n x = little_bytes n x

-- a number of n bytes
unfoldable pub number_at : ℕ → Place → Read ℕ
number_at n = mapped (little_number n) (bytes_at n)

-- a number of n bytes that has to be this one
abbrev pub constant_at : ℕ → ℕ → Place → Read ℕ
constant_at n x = ruled (λ y. nat_eq y x) (number_at n)

-- whether a number may have n bytes: signed ones 1, 2, 4, 8 or 16, the others no 16
abbrev pub is_width : ℕ → Bool → Bool
is_width n signed = nat_eq n 1 || nat_eq n 2 || nat_eq n 4 || nat_eq n 8 || (nat_eq n 16 && signed)

-- the number that n bytes stand for, by two's complement where it is signed
abbrev pub int_of : ℕ → Bool → List ℕ → ℤ
int_of n signed bytes = if signed then twos_complement n (little_number n bytes) else pos (little_number n bytes)

-- the number z in n bytes, the lowest first, a negative one by two's complement
unfoldable pub int_bytes : ℕ → ℤ → List ℕ
int_bytes n z = number_bytes n (low_bytes w128 n z)

-- a number of n bytes that may be signed
unfoldable pub int_at : ℕ → Bool → Place → Read ℤ
int_at n signed = mapped (int_of n signed) (bytes_at n)

-- n bytes have room for the number
abbrev pub FitsInt : ℕ → Bool → ℤ → Type 0
FitsInt n true (pos a) = a < 2 ^ (8 * n - 1)
FitsInt n true (negsuc a) = a < 2 ^ (8 * n - 1)
FitsInt n false (pos a) = a < 2 ^ (8 * n)
FitsInt n false (negsuc a) = ⊥
