-- Lists in tiles of given sizes.
use Rattle.std.proofs.Common.{◌≡◌, ℕ, zero, suc, ◌+◌, min, List, [], ◌∷◌, ◌++◌, length, map, get_or, take, drop, refl, sym, ap, ◌∙◌, arith}
use Rattle.std.specs.List.{flat_map, sum, AllByRecursion}
use Rattle.std.proofs.lemmas.List.{length-take, length-drop, take-append-drop, drop-drop, take_at, drop_at, take-map, drop-map, get_or_past, nil_from_length}
use Rattle.std.proofs.lemmas.List.Sums.{sum_by-cons}
use Rattle.ts_sparse.proofs.Shapes.{Shaped}
use Rattle.ts_dense.specs.Slots.{tiles_by}

-- what the first tile takes, and what is left for the others
sum_more : (n : ℕ) (counts : List ℕ) → sum (n ∷ counts) ≡ n + sum counts
sum_more n counts = sum_by-cons (λ x. x) n counts

-- there are as many tiles as sizes
pub length_tiles : {X : Type 0} (counts : List ℕ) (xs : List X) → length (tiles_by counts xs) ≡ length counts
length_tiles [] xs = refl
length_tiles (n ∷ counts) xs = ap suc (length_tiles counts (drop n xs))

-- all tiles together are the list, where the sizes have room for it
pub all_tiles : {X : Type 0} (counts : List ℕ) (xs : List X) → length xs ≡ sum counts → flat_map (λ t. t) (tiles_by counts xs) ≡ xs
all_tiles [] xs long = sym (nil_from_length xs long)
all_tiles (n ∷ counts) xs long =
    ap (λ more. take n xs ++ more) (all_tiles counts (drop n xs) (omega (arith, length-drop n xs, sum_more n counts))) ∙ take-append-drop n xs

-- the tile at a place is a range of the list
pub tile_at : {X : Type 0} (counts : List ℕ) (i : ℕ) (xs : List X) → get_or (tiles_by counts xs) i [] ≡ take (get_or counts i 0) (drop (sum (take i counts)) xs)
tile_at [] i xs =
    get_or_past [] i [] (omega arith) ∙ sym (ap (λ n. take n (drop (sum (take i [])) xs)) (get_or_past [] i 0 (omega arith)))
tile_at (n ∷ counts) zero xs = refl
tile_at (n ∷ counts) (suc i) xs =
    tile_at counts i (drop n xs) ∙ ap (take (get_or counts i 0)) (drop-drop (sum (take i counts)) n xs ∙ ap (λ k. drop k xs) (sym (sum_more n (take i counts))))

-- tiles of what f makes are what f makes of tiles
pub map_tiles : {X Y : Type 0} (f : X → Y) (counts : List ℕ) (xs : List X) → tiles_by counts (map f xs) ≡ map (map f) (tiles_by counts xs)
map_tiles f [] xs = refl
map_tiles f (n ∷ counts) xs =
    ap (λ t. t ∷ tiles_by counts (drop n (map f xs))) (take-map f n xs)
    ∙ ap (λ ts. map f (take n xs) ∷ ts) (ap (tiles_by counts) (drop-map f n xs) ∙ map_tiles f counts (drop n xs))

-- two lists of one length have tiles of the same shape
pub shaped : {X Y : Type 0} (counts : List ℕ) (xs : List X) (ys : List Y) → length xs ≡ length ys → Shaped (tiles_by counts xs) (tiles_by counts ys)
shaped [] xs ys same = tt
shaped (n ∷ counts) xs ys same =
    (length-take n xs ∙ ap (min n) same ∙ sym (length-take n ys), shaped counts (drop n xs) (drop n ys) (omega (arith, length-drop n xs, length-drop n ys)))

-- a list made of parts, in tiles as long as these, is those parts
pub tiles_of_parts : {X Y : Type 0} (f : X → List Y) (count : X → ℕ) (ts : List X) → AllByRecursion (λ t. length (f t) ≡ count t) ts → tiles_by (map count ts) (flat_map f ts) ≡ map f ts
tiles_of_parts f count [] long = refl
tiles_of_parts f count (t ∷ ts) long =
    ap (λ part. part ∷ tiles_by (map count ts) (drop (count t) (f t ++ flat_map f ts))) (take_at (f t) (flat_map f ts) (count t) long.0)
    ∙ ap (λ parts. f t ∷ parts) (ap (tiles_by (map count ts)) (drop_at (f t) (flat_map f ts) (count t) long.0) ∙ tiles_of_parts f count ts long.1)
