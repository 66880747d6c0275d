-- The test whether a value fits a type, and its meaning, and that each type's fill fits it.
use Rattle.std.proofs.Common.{◌≡◌, ℤ, ◌≤ℤ◌, Bool, true, false, ◌&&◌, int_le, refl, arith}
use Rattle.std.proofs.lemmas.Bool.Decides.{nat_tests}
use Rattle.std.proofs.lemmas.Float.{T_from_true}
use Rattle.std.proofs.lemmas.Int.{ints}
use Rattle.std.proofs.lemmas.Str.{IsUtf8-nil}
use Rattle.ts_base.specs.declared.values.Val.{Val}
use Rattle.ts_base.specs.declared.values.Val.TheVariants.{Null, Int, Bytes}
use Rattle.ts_base.specs.declared.values.ValType.{ValType}
use Rattle.ts_base.specs.declared.values.ValType.TheVariants.{I8, Text, Blob}
use Rattle.ts_base.specs.Values.{is_integer, least_of, greatest_of}
use Rattle.ts_value.specs.Fill.{fill_of}
use Rattle.ts_value.specs.Fits.{Fits, fits_of}
use Rattle.ts_value.proofs.Texts.{is_utf8_true, text_of_test}

-- two tests hold where both do
both_hold : (s t : Bool) → (s && t) ≡ true → (s ≡ true) × (t ≡ true)
both_hold true t h = (refl, h)
both_hold false t h = absurd (cc)

-- an integer in the range of a type
in_range : (is : Bool) (low z high : ℤ) → is ≡ true → low ≤ℤ z → z ≤ℤ high → (is && (int_le low z && int_le z high)) ≡ true
in_range is low z high i l h = grind (arith, ints, nat_tests)

range_of : (is : Bool) (low z high : ℤ) → (is && (int_le low z && int_le z high)) ≡ true → (is ≡ true) × (low ≤ℤ z) × (z ≤ℤ high)
range_of is low z high test =
    let a = both_hold is (int_le low z && int_le z high) test in
    let b = both_hold (int_le low z) (int_le z high) a.1 in
    (a.0, record { le = T_from_true (int_le low z) b.0 }, record { le = T_from_true (int_le z high) b.1 })

-- what fits passes the test
pub fits_of-Fits : (ty : ValType) (nullable : Bool) (val : Val) → Fits ty nullable val → fits_of ty nullable val ≡ true
fits_of-Fits ty nullable Null fits = fits
fits_of-Fits ty nullable (Int z) fits = in_range (is_integer ty) (least_of ty) z (greatest_of ty) fits.0 fits.1 fits.2
fits_of-Fits Text nullable (Bytes bytes) fits = is_utf8_true bytes fits
fits_of-Fits Blob nullable (Bytes bytes) fits = refl
fits_of-Fits _ nullable (Bytes bytes) fits = absurd fits

-- what passes the test fits
pub Fits-fits_of : (ty : ValType) (nullable : Bool) (val : Val) → fits_of ty nullable val ≡ true → Fits ty nullable val
Fits-fits_of ty nullable Null test = test
Fits-fits_of ty nullable (Int z) test = range_of (is_integer ty) (least_of ty) z (greatest_of ty) test
Fits-fits_of Text nullable (Bytes bytes) test = text_of_test bytes test
Fits-fits_of Blob nullable (Bytes bytes) test = tt
Fits-fits_of _ nullable (Bytes bytes) test = absurd (cc)

-- the default fill of a type fits it
pub fill_fits : (ty : ValType) (nullable : Bool) → Fits ty nullable (fill_of ty nullable)
fill_fits ty true = refl
fill_fits Text false = IsUtf8-nil
fill_fits Blob false = tt
fill_fits I8 false = (refl, record { le = tt }, record { le = tt })
fill_fits _ false = (refl, record { le = tt }, record { le = tt })
