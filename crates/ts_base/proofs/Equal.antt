-- What `==` tells of coordinates: whether they are the same.
use Rattle.std.proofs.Common.{◌≡◌, ℤ, List, refl}
use Rattle.std.specs.Bool.{Decides}
use Rattle.std.specs.Ordering.{int_eq}
use Rattle.std.specs.Cmp.Lexicographic.{pointwise}
use Rattle.std.proofs.lemmas.Bool.Decides.{Decides-int_eq}
use Rattle.std.proofs.lemmas.Slice.Eq.{slice_eq-Decides}

pub coords_decide : (a b : List ℤ) → Decides (pointwise int_eq a b) (a ≡ b)
coords_decide a b = slice_eq-Decides Decides-int_eq a b _ refl
