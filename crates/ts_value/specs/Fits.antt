-- Which values may stand under a type.
use Rattle.std.specs.Prelude.{ℤ, ◌≤ℤ◌, Bool, true, false, ◌&&◌, int_le, IsUtf8, IsTrue}
use Rattle.std.specs.Str.{is_utf8}
use Rattle.ts_base.specs.declared.values.Val.{Val}
use Rattle.ts_base.specs.declared.values.Val.TheVariants.{Null, Int, Bytes}
use Rattle.ts_base.specs.declared.values.ValType.{ValType}
use Rattle.ts_base.specs.declared.values.ValType.TheVariants.{Text, Blob}
use Rattle.ts_base.specs.Values.{is_integer, least_of, greatest_of}

-- the value may stand under the type: null where that is allowed, an integer in the range of an integer type, UTF-8 for a text, and any bytes for a blob
abbrev pub Fits : ValType → Bool → Val → Type 0
Fits ty nullable Null = IsTrue nullable
Fits ty nullable (Int z) = IsTrue (is_integer ty) × (least_of ty ≤ℤ z) × (z ≤ℤ greatest_of ty)
Fits Text nullable (Bytes bytes) = IsUtf8 bytes
Fits Blob nullable (Bytes bytes) = Unit {0}
Fits _ nullable (Bytes bytes) = ⊥

-- the same, as a test that a reader can make
abbrev pub fits_of : ValType → Bool → Val → Bool
fits_of ty nullable Null = nullable
fits_of ty nullable (Int z) = is_integer ty && (int_le (least_of ty) z && int_le z (greatest_of ty))
fits_of Text nullable (Bytes bytes) = is_utf8 bytes
fits_of Blob nullable (Bytes bytes) = true
fits_of _ nullable (Bytes bytes) = false
