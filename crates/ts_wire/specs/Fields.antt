-- The fields: how each is spelled, and how it is read.
use Rattle.std.specs.Prelude.{ℕ, zero, suc, ◌^◌, ◌<◌, Bool, true, nat_eq, nat_le, if◌then◌else◌, List, [], ◌++◌, length}
use Rattle.ts_base.specs.declared.keys.Key.{Key}
use Rattle.ts_base.specs.declared.values.Val.{Val}
use Rattle.ts_base.specs.declared.values.Val.TheVariants.{Null, Int, Bytes}
use Rattle.ts_base.specs.Labels.{is_label}
use Rattle.ts_wire.specs.Place.{Place, Read, bytes_at, given, mapped, both, field, ruled}
use Rattle.ts_wire.specs.Exact.{IsBytes}
use Rattle.ts_wire.specs.Numbers.{number_bytes, number_at, int_bytes, int_at, FitsInt}

-- a bool is one byte: 1 where it is true, 0 where it is false
unfoldable pub bool_bytes : Bool → List ℕ
bool_bytes b = number_bytes 1 (if b then 1 else 0)

-- a bool
unfoldable pub bool_at : Place → Read Bool
bool_at = mapped (λ x. nat_eq x 1) (ruled (λ x. nat_le x 1) (number_at 1))

-- the length in n bytes, and then the bytes
unfoldable pub sized_bytes : ℕ → List ℕ → List ℕ
sized_bytes n bytes = number_bytes n (length bytes) ++ bytes

-- bytes behind their length in n bytes
unfoldable pub sized_at : ℕ → Place → Read (List ℕ)
sized_at n = mapped (λ x. x.1) (both (number_at n) bytes_at)

-- bytes, and n bytes have room for their length
abbrev pub FitsSized : ℕ → List ℕ → Type 0
FitsSized n bytes = (length bytes < 256 ^ n) × IsBytes bytes

-- a label is one byte of length, and then its bytes
unfoldable pub label_bytes : List ℕ → List ℕ
label_bytes text = sized_bytes 1 text

-- a label
unfoldable pub label_at : Place → Read (List ℕ)
label_at = field (ruled is_label (sized_at 1))

-- a key is the timestamp in 8 bytes, and then the identifier in 16
unfoldable pub key_bytes : Key → List ℕ
key_bytes key = number_bytes 8 key.t ++ number_bytes 16 key.id

-- a key
unfoldable pub key_at : Place → Read Key
key_at = field (mapped (λ x. record { t = x.0; id = x.1 }) (both (number_at 8) (λ _. number_at 16)))

-- the timestamp and the identifier are in their ranges
abbrev pub FitsKey : Key → Type 0
FitsKey key = (key.t < 256 ^ 8) × (key.id < 256 ^ 16)

-- the byte that says which kind of value follows
abbrev pub tag_of : Val → ℕ
tag_of Null = 0
tag_of (Int z) = 1
tag_of (Bytes bytes) = 2

-- a value behind its tag: nothing for null, an integer in 16 bytes, or bytes behind their length in 8
abbrev pub untagged_bytes : Val → List ℕ
untagged_bytes Null = []
untagged_bytes (Int z) = int_bytes 16 z
untagged_bytes (Bytes bytes) = sized_bytes 8 bytes

-- a value is its tag in one byte, and then what the tag says
unfoldable pub val_bytes : Val → List ℕ
val_bytes val = number_bytes 1 (tag_of val) ++ untagged_bytes val

-- a value behind this tag
abbrev pub untagged_at : ℕ → Place → Read Val
untagged_at zero = given Null
untagged_at (suc zero) = mapped (λ z. Int z) (int_at 16 true)
untagged_at (suc (suc _)) = mapped (λ bytes. Bytes bytes) (sized_at 8)

-- a value
unfoldable pub val_at : Place → Read Val
val_at = field (mapped (λ x. x.1) (both (ruled (λ tag. nat_le tag 2) (number_at 1)) untagged_at))

-- the integer, or the length of the bytes, is in its range
abbrev pub FitsVal : Val → Type 0
FitsVal Null = Unit {0}
FitsVal (Int z) = FitsInt 16 true z
FitsVal (Bytes bytes) = FitsSized 8 bytes
