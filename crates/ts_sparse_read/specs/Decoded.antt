-- The values of tiles that were decoded one column of all tiles after another.
use Rattle.std.specs.Prelude.{◌≡◌, ⊤, ℕ, Bool, List, [], ◌∷◌, ◌++◌, length, map, drop, replicate, Ok}
use Rattle.ts_base.specs.declared.values.Val.{Val}
use Rattle.ts_base.specs.declared.values.Val.TheVariants.{Null}
use Rattle.ts_schema.specs.declared.attrs.Attr.{Attr}
use Rattle.ts_column.specs.declared.tiles.Tile.{Tile}
use Rattle.ts_sparse_read.specs.declared.opened.WantedTile.{WantedTile}
use Rattle.ts_sparse_read.specs.Judges.{ranged}
use Rattle.ts_sparse_read.specs.TileReads.{tile_in, vals_if, vals_of_tile}

-- how many cells each tile has
abbrev pub counts_of : List WantedTile → List ℕ
counts_of tiles = map (λ t. t.cells) tiles

-- the tile of the attribute at a place, of each of the tiles whose spans were got one after another
abbrev pub attr_tiles : ℕ → List WantedTile → List (List ℕ) → List Tile
attr_tiles k [] got = []
attr_tiles k (t ∷ tiles) got = tile_in (ranged t.spans got) k ∷ attr_tiles k tiles (drop (length t.spans) got)

-- columns of so many nulls each
abbrev pub null_columns : List ℕ → List (List Val)
null_columns counts = map (λ count. replicate count Null) counts

-- for each tile the column is what is read of an attribute
abbrev pub AreOfAttr : Bool → ℕ → Attr → List WantedTile → List (List ℕ) → List (List Val) → Type 0
AreOfAttr read k a [] got [] = ⊤
AreOfAttr read k a [] got (c ∷ columns) = ⊥
AreOfAttr read k a (t ∷ tiles) got [] = ⊥
AreOfAttr read k a (t ∷ tiles) got (c ∷ columns) = (vals_if read t.cells (ranged t.spans got) k a ≡ Ok c) × AreOfAttr read k a tiles (drop (length t.spans) got) columns

-- the columns are those that are read of the tiles, of the first as many as there are lists
abbrev pub AreDecoded : List ℕ → List Attr → List WantedTile → List (List ℕ) → List (List (List Val)) → Type 0
AreDecoded places attrs tiles got [] = ⊤
AreDecoded places attrs [] got (v ∷ vals) = ⊥
AreDecoded places attrs (t ∷ tiles) got (v ∷ vals) = (vals_of_tile places t.cells (ranged t.spans got) 0 attrs ≡ Ok v) × AreDecoded places attrs tiles (drop (length t.spans) got) vals

-- each of the lists in turn with one item more goes to the end
abbrev pub turned : {X : Type 0} → List (List X) → List X → List (List X)
turned lists [] = lists
turned [] (x ∷ xs) = []
turned (l ∷ lists) (x ∷ xs) = turned (lists ++ (l ++ x ∷ []) ∷ []) xs
