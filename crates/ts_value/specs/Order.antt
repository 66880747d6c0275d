-- The order of values: null, then the integers by number, then the bytes in dictionary order.
use Rattle.std.specs.declared.cmp.Ordering.{Ordering}
use Rattle.std.specs.declared.cmp.Ordering.TheVariants.{Less, Equal, Greater}
use Rattle.std.specs.Ordering.{nat_cmp, int_cmp}
use Rattle.std.specs.Cmp.Lexicographic.{slice_cmp}
use Rattle.ts_base.specs.declared.values.Val.{Val}
use Rattle.ts_base.specs.declared.values.Val.TheVariants.{Null, Int, Bytes}

-- how two values stand in the order
abbrev pub val_cmp : Val → Val → Ordering
val_cmp Null Null = Equal
val_cmp Null _ = Less
val_cmp (Int x) Null = Greater
val_cmp (Int x) (Int y) = int_cmp x y
val_cmp (Int x) (Bytes ys) = Less
val_cmp (Bytes xs) (Bytes ys) = slice_cmp nat_cmp xs ys
val_cmp (Bytes xs) _ = Greater
