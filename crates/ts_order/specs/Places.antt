-- The place of coordinates between two corners, counted in row order, and the coordinates at a place.
use Rattle.std.specs.Prelude.{ℕ, ◌+◌, ◌*◌, ◌/◌, ◌%◌, List, [], ◌∷◌, ℤ, pos, ◌+ℤ◌, ◌-ℤ◌}
use Rattle.ts_domain.specs.Bounds.{natural_of, cells_between}

-- the coordinates at a place
abbrev pub coords_of_place : List ℤ → List ℤ → ℕ → List ℤ
coords_of_place (l ∷ ls) (h ∷ hs) place = (l +ℤ pos (place / cells_between ls hs)) ∷ coords_of_place ls hs (place % cells_between ls hs)
coords_of_place _ _ place = []

-- the place of coordinates
abbrev pub place_of : List ℤ → List ℤ → List ℤ → ℕ
place_of (l ∷ ls) (h ∷ hs) (x ∷ xs) = natural_of (x -ℤ l) * cells_between ls hs + place_of ls hs xs
place_of _ _ _ = 0
