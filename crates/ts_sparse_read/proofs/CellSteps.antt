-- The cells that columns hold, one by one.
use Rattle.std.proofs.Common.{◌≡◌, ℕ, zero, suc, ◌<◌, ℤ, pos, List, [], ◌∷◌, length, map, get_or, replicate, refl, sym, ap, ◌∙◌, arith}
use Rattle.std.specs.List.{All}
use Rattle.std.proofs.Math.ListN.{length-replicate}
use Rattle.std.proofs.lemmas.List.Elements.{All-head, All-tail}
use Rattle.ts_base.specs.declared.values.Val.{Val}
use Rattle.ts_base.specs.declared.values.Val.TheVariants.{Null}
use Rattle.ts_plain.specs.declared.stored.StoredCell.{StoredCell}
use Rattle.ts_sparse_read.specs.TileReads.{put_before, rows_in, cells_from, cell_of}
use Rattle.ts_sparse_read.specs.ReadRows.{cells_many}

long_before : {X : Type 0} (xs : List X) (rows : List (List X)) → length xs ≡ length rows → length (put_before xs rows) ≡ length rows
long_before [] [] same = refl
long_before [] (row ∷ rows) same = absurd (omega (arith, same))
long_before (x ∷ xs) [] same = refl
long_before (x ∷ xs) (row ∷ rows) same = ap suc (long_before xs rows (omega (arith, same)))

-- columns of so many values are so many rows
pub rows_long : {X : Type 0} (count : ℕ) (columns : List (List X)) → All (λ (xs : List X). length xs ≡ count) columns → length (rows_in count columns) ≡ count
rows_long {X = X} count [] all = let none : List X = [] in length-replicate count none
rows_long {X = X} count (xs ∷ columns) all =
    let L = λ (ys : List X). length ys ≡ count in
    let more = rows_long count columns (All-tail L xs columns all) in
    long_before xs (rows_in count columns) (All-head L xs columns all ∙ sym more) ∙ more

row_before : {X : Type 0} (d : X) (e : List X) (xs : List X) (rows : List (List X)) (k : ℕ) → length xs ≡ length rows → k < length xs → get_or (put_before xs rows) k e ≡ get_or xs k d ∷ get_or rows k e
row_before d e [] rows k same within = absurd (omega (arith, within))
row_before d e (x ∷ xs) [] k same within = absurd (omega (arith, same))
row_before d e (x ∷ xs) (row ∷ rows) zero same within = refl
row_before d e (x ∷ xs) (row ∷ rows) (suc k) same within = row_before d e xs rows k (omega (arith, same)) (omega (arith, within))

nothing_at : {X : Type 0} (none : List X) (count k : ℕ) → k < count → get_or (replicate count none) k none ≡ none
nothing_at none zero k within = absurd (omega (arith, within))
nothing_at none (suc count) zero within = refl
nothing_at none (suc count) (suc k) within = nothing_at none count k (omega (arith, within))

-- the row at a place has the values of all columns there
pub row_of : {X : Type 0} (d : X) (count : ℕ) (columns : List (List X)) (k : ℕ) → All (λ (xs : List X). length xs ≡ count) columns → k < count
    → get_or (rows_in count columns) k [] ≡ map (λ xs. get_or xs k d) columns
row_of d count [] k all within = nothing_at [] count k within
row_of {X = X} d count (xs ∷ columns) k all within =
    let L = λ (ys : List X). length ys ≡ count in
    let here = All-head L xs columns all in
    let rest = All-tail L xs columns all in
    row_before d [] xs (rows_in count columns) k (here ∙ sym (rows_long count columns rest)) (omega (arith, here, within))
    ∙ ap (λ row. get_or xs k d ∷ row) (row_of d count columns k rest within)

-- the cell with the coordinates, the origin and the row at a place
abbrev pub cell_with : List ℤ → ℕ → List Val → StoredCell
cell_with c o r = record { coords = c; origin = o; row = r }

pub cell_here : (coords : List (List ℤ)) (origins : List ℕ) (rows : List (List Val)) (k : ℕ) (e : StoredCell) → k < length coords → k < length origins → k < length rows
    → get_or (cells_from coords origins rows) k e ≡ cell_with (get_or coords k []) (get_or origins k 0) (get_or rows k [])
cell_here [] origins rows k e a b c = absurd (omega (arith, a))
cell_here (x ∷ coords) [] rows k e a b c = absurd (omega (arith, b))
cell_here (x ∷ coords) (o ∷ origins) [] k e a b c = absurd (omega (arith, c))
cell_here (x ∷ coords) (o ∷ origins) (r ∷ rows) zero e a b c = refl
cell_here (x ∷ coords) (o ∷ origins) (r ∷ rows) (suc k) e a b c = cell_here coords origins rows k e (omega (arith, a)) (omega (arith, b)) (omega (arith, c))

-- all cells that columns hold
abbrev cells_in : ℕ → List (List ℤ) → List ℕ → List (List Val) → List StoredCell
cells_in count coords origins vals = cells_from (rows_in count coords) origins (rows_in count vals)

-- there are so many cells
pub cells_long : (count : ℕ) (coords : List (List ℤ)) (origins : List ℕ) (vals : List (List Val)) → All (λ (xs : List ℤ). length xs ≡ count) coords → length origins ≡ count → All (λ (xs : List Val). length xs ≡ count) vals
    → length (cells_in count coords origins vals) ≡ count
cells_long count coords origins vals a b c = cells_many count (rows_in count coords) origins (rows_in count vals) (rows_long count coords a) b (rows_long count vals c)

-- the cell at a place is that of the columns there
pub cell_there : (count : ℕ) (coords : List (List ℤ)) (origins : List ℕ) (vals : List (List Val)) (k : ℕ) (cell : StoredCell)
    → All (λ (xs : List ℤ). length xs ≡ count) coords → length origins ≡ count → All (λ (xs : List Val). length xs ≡ count) vals → k < count
    → get_or (cells_in count coords origins vals) k cell ≡ cell_of coords origins vals k
cell_there count coords origins vals k cell a b c within =
    let at = cell_here (rows_in count coords) origins (rows_in count vals) k cell (omega (arith, rows_long count coords a)) (omega (arith, b)) (omega (arith, rows_long count vals c)) in
    let x = row_of (pos 0) count coords k a within in
    let r = row_of Null count vals k c within in
    at ∙ (λ i. record { coords = x i; origin = get_or origins k 0; row = r i })
