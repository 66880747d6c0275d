-- The types of values, with their bounds and widths.
use Rattle.std.specs.Prelude.{ℕ, ℤ, pos, negsuc, Bool, true, false}
use Rattle.ts_base.specs.declared.values.ValType.{ValType}
use Rattle.ts_base.specs.declared.values.ValType.TheVariants.{I8, I16, I32, I64, U8, U16, U32, U64, Text, Blob}

-- the type is one of integers
abbrev pub is_integer : ValType → Bool
is_integer Text = false
is_integer Blob = false
is_integer _ = true

-- the least number of an integer type
abbrev pub least_of : ValType → ℤ
least_of I8 = negsuc 127
least_of I16 = negsuc 32767
least_of I32 = negsuc 2147483647
least_of I64 = negsuc 9223372036854775807
least_of _ = pos 0

-- the greatest number of an integer type
abbrev pub greatest_of : ValType → ℤ
greatest_of I8 = pos 127
greatest_of I16 = pos 32767
greatest_of I32 = pos 2147483647
greatest_of I64 = pos 9223372036854775807
greatest_of U8 = pos 255
greatest_of U16 = pos 65535
greatest_of U32 = pos 4294967295
greatest_of U64 = pos 18446744073709551615
greatest_of _ = pos 0

-- the bytes that a number of the type takes, and 0 for texts and blobs
abbrev pub width_of : ValType → ℕ
width_of I8 = 1
width_of I16 = 2
width_of I32 = 4
width_of I64 = 8
width_of U8 = 1
width_of U16 = 2
width_of U32 = 4
width_of U64 = 8
width_of _ = 0
