-- The widths of types are those of fields.
use Rattle.std.proofs.Common.{◌≡◌, true, refl}
use Rattle.ts_base.specs.declared.values.ValType.{ValType}
use Rattle.ts_base.specs.declared.values.ValType.TheVariants.{I8, I16, I32, I64, U8, U16, U32, U64, Text, Blob}
use Rattle.ts_base.specs.Values.{width_of, is_integer}
use Rattle.ts_wire.specs.Numbers.{is_width}
use Rattle.ts_column.specs.Tiles.{is_signed}

-- the width of a type of integers is one that a field can have
pub width_is : (ty : ValType) → is_integer ty ≡ true → is_width (width_of ty) (is_signed ty) ≡ true
width_is I8 is = refl
width_is I16 is = refl
width_is I32 is = refl
width_is I64 is = refl
width_is U8 is = refl
width_is U16 is = refl
width_is U32 is = refl
width_is U64 is = refl
width_is Text is = cc
width_is Blob is = cc
