-- The hull of two boxes of an array has its dimensions.
use Rattle.std.proofs.Common.{◌≡◌, suc, ℤ, List, [], ◌∷◌, length, refl, ap, arith}
use Rattle.ts_domain.specs.Bounds.{least_corner}

pub length-corner : (xs ys : List ℤ) → length ys ≡ length xs → length (least_corner xs ys) ≡ length xs
length-corner [] [] same = refl
length-corner [] (y ∷ ys) same = refl
length-corner (x ∷ xs) [] same = absurd (omega (arith, same))
length-corner (x ∷ xs) (y ∷ ys) same = ap suc (length-corner xs ys (omega (arith, same)))
