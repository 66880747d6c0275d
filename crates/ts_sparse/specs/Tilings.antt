-- Lists in tiles: each tile has so many items, the last one the rest.
use Rattle.std.specs.Prelude.{ℕ, zero, suc, ◌-◌, ◌+◌, List, [], ◌∷◌, ◌++◌, length}
use Rattle.ts_table.specs.Texts.{joined, starts_from}

-- a tile in the making, into which `left` more items go, and each tile behind it has one item more than `rest`
abbrev pub tiles_from : {X : Type 0} → ℕ → ℕ → List X → List X → List (List X)
tiles_from rest left tile [] = tile ∷ []
tiles_from rest zero tile (x ∷ xs) = tile ∷ tiles_from rest rest (x ∷ []) xs
tiles_from rest (suc left) tile (x ∷ xs) = tiles_from rest left (tile ++ x ∷ []) xs

-- the list in tiles of n items
abbrev pub tiles_of : {X : Type 0} → ℕ → List X → List (List X)
tiles_of n [] = []
tiles_of n (x ∷ xs) = tiles_from (n - 1) (n - 1) (x ∷ []) xs

-- where the bytes of each tile start, the first at this place
abbrev pub tile_starts : ℕ → List (List (List ℕ)) → List ℕ
tile_starts at [] = []
tile_starts at (tile ∷ tiles) = at ∷ tile_starts (at + length (joined tile)) tiles

-- where each byte list starts in the bytes of its tile
abbrev pub starts_in : List (List (List ℕ)) → List ℕ
starts_in [] = []
starts_in (tile ∷ tiles) = starts_from 0 tile ++ starts_in tiles
