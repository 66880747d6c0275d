-- The two objects of a column of byte lists, one byte list after another.
use Rattle.std.specs.Prelude.{◌≡◌, ℕ, ◌+◌, ◌-◌, List, [], ◌∷◌, ◌++◌, length}
use Rattle.std.specs.List.{flat_map}
use Rattle.ts_table.specs.Texts.{joined}
use Rattle.ts_wire.specs.Numbers.{number_bytes}
use Rattle.ts_sparse.specs.declared.text_objects.TextScribe.{TextScribe}
use Rattle.ts_sparse.specs.Tilings.{tiles_of, tile_starts, starts_in}

-- the last tile, which has nothing where there is none
abbrev pub last_tile : List (List (List ℕ)) → List (List ℕ)
last_tile [] = []
last_tile (tile ∷ []) = tile
last_tile (tile ∷ other ∷ tiles) = last_tile (other ∷ tiles)

-- how many more items go into the last tile of those of n items
abbrev pub room_left : ℕ → List (List (List ℕ)) → ℕ
room_left n [] = 0
room_left n (tile ∷ tiles) = n - length (last_tile (tile ∷ tiles))

-- the scribe has written these byte lists in tiles of n: the two objects and where the tiles start, and it knows
-- how many more go into the last tile, where that starts, and where all end
pub record HasWritten (n : ℕ) (texts : List (List ℕ)) (s : TextScribe) : Type 0 where
  pub tile : s.tile ≡ n
  pub starts : s.starts ≡ flat_map (number_bytes 8) (starts_in (tiles_of n texts))
  pub bytes : s.bytes ≡ joined texts
  pub tiles : s.tiles ≡ tile_starts 14 (tiles_of n texts)
  pub left : s.left ≡ room_left n (tiles_of n texts)
  pub begun : s.begun + length (joined (last_tile (tiles_of n texts))) ≡ s.end
  pub end : s.end ≡ 14 + length (joined texts)

-- a tile begins
abbrev pub tile_begun : TextScribe → TextScribe
tile_begun s = record s { tiles = s.tiles ++ s.end ∷ []; left = s.tile; begun = s.end }

-- a byte list more in the last tile
abbrev pub with_text : TextScribe → List ℕ → TextScribe
with_text s text =
    record s { starts = s.starts ++ number_bytes 8 (s.end - s.begun); bytes = s.bytes ++ text; left = s.left - 1; end = s.end + length text }
