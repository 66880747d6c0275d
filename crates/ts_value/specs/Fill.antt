-- The value that stands where nothing was written.
use Rattle.std.specs.Prelude.{Bool, true, false, []}
use Rattle.ts_base.specs.declared.values.Val.{Val}
use Rattle.ts_base.specs.declared.values.Val.TheVariants.{Null, Int, Bytes}
use Rattle.ts_base.specs.declared.values.ValType.{ValType}
use Rattle.ts_base.specs.declared.values.ValType.TheVariants.{U8, U16, U32, U64, Text, Blob}
use Rattle.ts_base.specs.Values.{least_of, greatest_of}

-- the fill of a type that is not nullable: no bytes, the greatest unsigned integer, the least signed one
abbrev pub plain_fill_of : ValType → Val
plain_fill_of Text = Bytes []
plain_fill_of Blob = Bytes []
plain_fill_of U8 = Int (greatest_of U8)
plain_fill_of U16 = Int (greatest_of U16)
plain_fill_of U32 = Int (greatest_of U32)
plain_fill_of U64 = Int (greatest_of U64)
plain_fill_of ty = Int (least_of ty)

-- the default fill: null where that is allowed
abbrev pub fill_of : ValType → Bool → Val
fill_of ty true = Null
fill_of ty false = plain_fill_of ty
