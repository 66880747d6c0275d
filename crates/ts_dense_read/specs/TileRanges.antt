-- The space tiles of a box that meet another, found by the numbers of the first and the last of them.
use Rattle.std.specs.Prelude.{ℕ, ◌+◌, ◌*◌, List, [], ◌∷◌, ℤ, ◌-ℤ◌}
use Rattle.std.specs.Int.{int_min, int_max}
use Rattle.ts_domain.specs.declared.dims.Dim.{Dim}
use Rattle.ts_domain.specs.declared.boxes.SubBox.{SubBox}
use Rattle.ts_domain.specs.Bounds.{natural_of, count_between, cells_between}
use Rattle.ts_domain.specs.Boxes.{cells_of}
use Rattle.ts_order.specs.Orders.{turned, tile_numbers}
use Rattle.ts_order.specs.Places.{place_of}
use Rattle.ts_order.specs.Tiles.{cut_box, tile_box}
use Rattle.ts_schema.specs.declared.frames.Frame.{Frame}
use Rattle.ts_sparse_read.specs.declared.opened.UsedColumn.{UsedColumn}
use Rattle.ts_sparse_read.specs.declared.opened.WantedTile.{WantedTile}
use Rattle.ts_dense_read.specs.SpaceTakes.{tile_behind}

-- the numbers between two corners that are nearest to these
abbrev pub nearest : List ℤ → List ℤ → List ℤ → List ℤ
nearest (l ∷ ls) (h ∷ hs) (x ∷ xs) = int_max l (int_min h x) ∷ nearest ls hs xs
nearest _ _ _ = []

-- the numbers of the space tiles of a box that meet another, where the two meet, as a box of its own
abbrev pub range_of : List Dim → SubBox → SubBox → SubBox
range_of dims hull sub = record { low = tile_numbers dims (nearest hull.low hull.high sub.low); high = tile_numbers dims (nearest hull.low hull.high sub.high) }

-- how many cells between two corners stand before the part between two others, the first dimension changing slowest: those of the parts that are lower along it, and those before the part among the parts that are not
abbrev pub cells_before : List ℤ → List ℤ → List ℤ → List ℤ → ℕ
cells_before (l ∷ ls) (h ∷ hs) (x ∷ xs) (y ∷ ys) = natural_of (x -ℤ l) * cells_between ls hs + count_between x y * cells_before ls hs xs ys
cells_before _ _ _ _ = 0

-- the space tile of a hull with these numbers, with its spans in these objects: the cells before it and its place are counted by them
abbrev pub tile_of : Frame → SubBox → List UsedColumn → List ℤ → WantedTile
tile_of frame hull used numbers =
    let leaf = cut_box frame.domain hull numbers in
    let all = tile_box frame.domain hull in
    tile_behind (cells_before (turned frame.tile hull.low) (turned frame.tile hull.high) (turned frame.tile leaf.low) (turned frame.tile leaf.high)) (cells_of leaf)
    (place_of (turned frame.tile all.low) (turned frame.tile all.high) (turned frame.tile numbers)) leaf used
