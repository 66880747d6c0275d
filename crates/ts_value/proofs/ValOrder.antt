-- The order of values is total, and only equal values tie.
use Rattle.std.proofs.Common.{◌≡◌, refl, ap}
use Rattle.std.specs.declared.cmp.Ordering.TheVariants.{Less, Equal, Greater}
use Rattle.std.specs.Ordering.{ordering_reverse}
use Rattle.std.specs.Cmp.{IsTotalOrder, int_cmp_total}
use Rattle.std.specs.Cmp.Lexicographic.{nat_list_cmp_total}
use Rattle.std.specs.FinMap.{IsAntisymmetric, nat_cmp-IsAntisymmetric, int_cmp-IsAntisymmetric, slice_cmp-IsAntisymmetric}
use Rattle.ts_base.specs.declared.values.Val.{Val}
use Rattle.ts_base.specs.declared.values.Val.TheVariants.{Null, Int, Bytes}
use Rattle.ts_value.specs.Order.{val_cmp}

-- the three answers differ
not_less : Greater ≡ Less → ⊥
not_less h = cc

not_equal : Greater ≡ Equal → ⊥
not_equal h = cc

not_equal_less : Less ≡ Equal → ⊥
not_equal_less h = cc

antisymm : (a b : Val) → val_cmp a b ≡ ordering_reverse (val_cmp b a)
antisymm Null Null = refl
antisymm Null (Int y) = refl
antisymm Null (Bytes ys) = refl
antisymm (Int x) Null = refl
antisymm (Int x) (Int y) = int_cmp_total.antisymm x y
antisymm (Int x) (Bytes ys) = refl
antisymm (Bytes xs) Null = refl
antisymm (Bytes xs) (Int y) = refl
antisymm (Bytes xs) (Bytes ys) = nat_list_cmp_total.antisymm xs ys

trans : (a b c : Val) → val_cmp a b ≡ Less → val_cmp b c ≡ Less → val_cmp a c ≡ Less
trans Null Null c h k = k
trans Null (Int y) Null h k = absurd (not_less k)
trans Null (Int y) (Int z) h k = refl
trans Null (Int y) (Bytes zs) h k = refl
trans Null (Bytes ys) Null h k = absurd (not_less k)
trans Null (Bytes ys) (Int z) h k = refl
trans Null (Bytes ys) (Bytes zs) h k = refl
trans (Int x) Null c h k = absurd (not_less h)
trans (Int x) (Int y) Null h k = k
trans (Int x) (Int y) (Int z) h k = int_cmp_total.trans x y z h k
trans (Int x) (Int y) (Bytes zs) h k = refl
trans (Int x) (Bytes ys) Null h k = k
trans (Int x) (Bytes ys) (Int z) h k = absurd (not_less k)
trans (Int x) (Bytes ys) (Bytes zs) h k = refl
trans (Bytes xs) Null c h k = absurd (not_less h)
trans (Bytes xs) (Int y) c h k = absurd (not_less h)
trans (Bytes xs) (Bytes ys) Null h k = k
trans (Bytes xs) (Bytes ys) (Int z) h k = k
trans (Bytes xs) (Bytes ys) (Bytes zs) h k = nat_list_cmp_total.trans xs ys zs h k

congr : (a b c : Val) → val_cmp a b ≡ Equal → val_cmp a c ≡ val_cmp b c
congr Null Null c h = refl
congr Null (Int y) c h = absurd (not_equal_less h)
congr Null (Bytes ys) c h = absurd (not_equal_less h)
congr (Int x) Null c h = absurd (not_equal h)
congr (Int x) (Int y) Null h = refl
congr (Int x) (Int y) (Int z) h = int_cmp_total.congr x y z h
congr (Int x) (Int y) (Bytes zs) h = refl
congr (Int x) (Bytes ys) c h = absurd (not_equal_less h)
congr (Bytes xs) Null c h = absurd (not_equal h)
congr (Bytes xs) (Int y) c h = absurd (not_equal h)
congr (Bytes xs) (Bytes ys) Null h = refl
congr (Bytes xs) (Bytes ys) (Int z) h = refl
congr (Bytes xs) (Bytes ys) (Bytes zs) h = nat_list_cmp_total.congr xs ys zs h

-- it is a total order
pub val_cmp_total : IsTotalOrder val_cmp
val_cmp_total = record { antisymm = antisymm; trans = trans; congr = congr }

-- only equal values tie
pub val_cmp_exact : IsAntisymmetric val_cmp
val_cmp_exact Null Null h = refl
val_cmp_exact Null (Int y) h = absurd (not_equal_less h)
val_cmp_exact Null (Bytes ys) h = absurd (not_equal_less h)
val_cmp_exact (Int x) Null h = absurd (not_equal h)
val_cmp_exact (Int x) (Int y) h = ap (λ z. Int z) (int_cmp-IsAntisymmetric x y h)
val_cmp_exact (Int x) (Bytes ys) h = absurd (not_equal_less h)
val_cmp_exact (Bytes xs) Null h = absurd (not_equal h)
val_cmp_exact (Bytes xs) (Int y) h = absurd (not_equal h)
val_cmp_exact (Bytes xs) (Bytes ys) h = ap (λ zs. Bytes zs) (slice_cmp-IsAntisymmetric nat_cmp-IsAntisymmetric xs ys h)
