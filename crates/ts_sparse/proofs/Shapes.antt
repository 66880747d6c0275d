-- Tiles: how many there are and how long they are follows from the length of the list alone.
use Rattle.std.proofs.Common.{◌≡◌, ℕ, zero, suc, ◌+◌, ◌-◌, List, [], ◌∷◌, ◌++◌, length, map, refl, sym, ap, ◌∙◌, arith, append_assoc, length-append}
use Rattle.std.specs.List.{flat_map, All}
use Rattle.std.proofs.lemmas.List.Elements.{All-head, All-tail, All-nil, All-cons}
use Rattle.std.proofs.lemmas.List.{map-append, append-nil}
use Rattle.ts_table.specs.Texts.{joined, starts_from}
use Rattle.ts_sparse.specs.Tilings.{tiles_from, tiles_of, tile_starts, starts_in}
use Rattle.ts_sparse.proofs.Apart.{split_same}

-- as many tiles, each as long
abbrev pub Shaped : {X Y : Type 0} → List (List X) → List (List Y) → Type 0
Shaped [] [] = Unit {0}
Shaped [] (u ∷ us) = ⊥
Shaped (t ∷ ts) [] = ⊥
Shaped (t ∷ ts) (u ∷ us) = (length t ≡ length u) × Shaped ts us

shaped_from : {X Y : Type 0} (rest left : ℕ) (tile : List X) (other : List Y) (xs : List X) (ys : List Y) → length tile ≡ length other → length xs ≡ length ys
    → Shaped (tiles_from rest left tile xs) (tiles_from rest left other ys)
shaped_from rest left tile other [] [] long same = (long, tt)
shaped_from rest left tile other [] (y ∷ ys) long same = absurd (omega arith)
shaped_from rest left tile other (x ∷ xs) [] long same = absurd (omega arith)
shaped_from rest zero tile other (x ∷ xs) (y ∷ ys) long same = (long, shaped_from rest rest (x ∷ []) (y ∷ []) xs ys refl (omega arith))
shaped_from rest (suc left) tile other (x ∷ xs) (y ∷ ys) long same =
    shaped_from rest left (tile ++ x ∷ []) (other ++ y ∷ []) xs ys (omega (arith, length-append tile (x ∷ []), length-append other (y ∷ []))) (omega arith)

pub shaped : {X Y : Type 0} (n : ℕ) (xs : List X) (ys : List Y) → length xs ≡ length ys → Shaped (tiles_of n xs) (tiles_of n ys)
shaped n [] [] same = tt
shaped n [] (y ∷ ys) same = absurd (omega arith)
shaped n (x ∷ xs) [] same = absurd (omega arith)
shaped n (x ∷ xs) (y ∷ ys) same = shaped_from (n - 1) (n - 1) (x ∷ []) (y ∷ []) xs ys refl (omega arith)

pub shaped_many : {X Y : Type 0} (ts : List (List X)) (us : List (List Y)) → Shaped ts us → length ts ≡ length us
shaped_many [] [] s = refl
shaped_many [] (u ∷ us) s = absurd s
shaped_many (t ∷ ts) [] s = absurd s
shaped_many (t ∷ ts) (u ∷ us) s = ap suc (shaped_many ts us s.1)

-- all tiles together are the list
all_from : {X : Type 0} (rest left : ℕ) (tile xs : List X) → flat_map (λ t. t) (tiles_from rest left tile xs) ≡ tile ++ xs
all_from rest left tile [] = refl
all_from rest zero tile (x ∷ xs) = ap (λ more. tile ++ more) (all_from rest rest (x ∷ []) xs)
all_from rest (suc left) tile (x ∷ xs) = all_from rest left (tile ++ x ∷ []) xs ∙ append_assoc tile (x ∷ []) xs

pub all_tiles : {X : Type 0} (n : ℕ) (xs : List X) → flat_map (λ t. t) (tiles_of n xs) ≡ xs
all_tiles n [] = refl
all_tiles n (x ∷ xs) = all_from (n - 1) (n - 1) (x ∷ []) xs

-- tiles of what f makes are what f makes of tiles
map_from : {X Y : Type 0} (f : X → Y) (rest left : ℕ) (tile xs : List X) → tiles_from rest left (map f tile) (map f xs) ≡ map (map f) (tiles_from rest left tile xs)
map_from f rest left tile [] = refl
map_from f rest zero tile (x ∷ xs) = ap (λ more. map f tile ∷ more) (map_from f rest rest (x ∷ []) xs)
map_from f rest (suc left) tile (x ∷ xs) = ap (λ front. tiles_from rest left front (map f xs)) (sym (map-append f tile (x ∷ []))) ∙ map_from f rest left (tile ++ x ∷ []) xs

pub map_tiles : {X Y : Type 0} (f : X → Y) (n : ℕ) (xs : List X) → tiles_of n (map f xs) ≡ map (map f) (tiles_of n xs)
map_tiles f n [] = refl
map_tiles f n (x ∷ xs) = map_from f (n - 1) (n - 1) (x ∷ []) xs

-- ---- byte lists

pub length-starts_from : (at : ℕ) (texts : List (List ℕ)) → length (starts_from at texts) ≡ length texts
length-starts_from at [] = refl
length-starts_from at (t ∷ texts) = ap suc (length-starts_from (at + length t) texts)

pub length-tile_starts : (at : ℕ) (tiles : List (List (List ℕ))) → length (tile_starts at tiles) ≡ length tiles
length-tile_starts at [] = refl
length-tile_starts at (t ∷ tiles) = ap suc (length-tile_starts (at + length (joined t)) tiles)

-- one tile: its starts and its bytes tell its byte lists
tile_same : (at : ℕ) (xs ys : List (List ℕ)) → length xs ≡ length ys → starts_from at xs ≡ starts_from at ys → joined xs ≡ joined ys → xs ≡ ys
tile_same at [] [] long starts bytes = refl
tile_same at [] (y ∷ ys) long starts bytes = absurd (omega arith)
tile_same at (x ∷ xs) [] long starts bytes = absurd (omega arith)
tile_same at (x ∷ []) (y ∷ []) long starts bytes = ap (λ t. t ∷ []) (sym (append-nil x) ∙ bytes ∙ append-nil y)
tile_same at (x ∷ []) (y ∷ z ∷ ys) long starts bytes = absurd (omega arith)
tile_same at (x ∷ z ∷ xs) (y ∷ []) long starts bytes = absurd (omega arith)
tile_same at (x ∷ a ∷ xs) (y ∷ b ∷ ys) long starts bytes =
    let next : at + length x ≡ at + length y = ap (λ l. second l) starts in
    let parts = split_same x y (joined (a ∷ xs)) (joined (b ∷ ys)) (omega arith) bytes in
    let behind : starts_from (at + length x) (a ∷ xs) ≡ starts_from (at + length x) (b ∷ ys) = ap (λ l. behind_first l) starts ∙ ap (λ i. starts_from i (b ∷ ys)) (sym next) in
    let others = tile_same (at + length x) (a ∷ xs) (b ∷ ys) (omega arith) behind parts.1 in
    ap (λ t. t ∷ (a ∷ xs)) parts.0 ∙ ap (λ ts. y ∷ ts) others
  where
    second : List ℕ → ℕ
    second [] = 0
    second (i ∷ []) = 0
    second (i ∷ j ∷ more) = j

    behind_first : List ℕ → List ℕ
    behind_first [] = []
    behind_first (i ∷ more) = more

pub joined_parts : (tile : List (List ℕ)) (tiles : List (List (List ℕ))) → joined (tile ++ flat_map (λ t. t) tiles) ≡ joined tile ++ joined (flat_map (λ t. t) tiles)
joined_parts [] tiles = refl
joined_parts (t ∷ tile) tiles = ap (λ more. t ++ more) (joined_parts tile tiles) ∙ sym (append_assoc t (joined tile) (joined (flat_map (λ t. t) tiles)))

-- all tiles: the starts in the tiles, the starts of the tiles and all bytes tell the byte lists
pub tiles_same : (at : ℕ) (ts us : List (List (List ℕ))) → Shaped ts us → starts_in ts ≡ starts_in us → tile_starts at ts ≡ tile_starts at us → joined (flat_map (λ t. t) ts) ≡ joined (flat_map (λ t. t) us) → ts ≡ us
tiles_same at [] [] s inside starts bytes = refl
tiles_same at [] (u ∷ us) s inside starts bytes = absurd s
tiles_same at (t ∷ ts) [] s inside starts bytes = absurd s
tiles_same at (t ∷ ts) (u ∷ us) s inside starts bytes =
    let cut = split_same (starts_from 0 t) (starts_from 0 u) (starts_in ts) (starts_in us) (length-starts_from 0 t ∙ s.0 ∙ sym (length-starts_from 0 u)) inside in
    let whole = sym (joined_parts t ts) ∙ bytes ∙ joined_parts u us in
    let long = as_long ts us s.1 starts whole in
    let parts = split_same (joined t) (joined u) (joined (flat_map (λ t. t) ts)) (joined (flat_map (λ t. t) us)) long whole in
    let here = tile_same 0 t u s.0 cut.0 parts.0 in
    let behind : tile_starts (at + length (joined t)) ts ≡ tile_starts (at + length (joined t)) us = ap behind_first starts ∙ ap (λ n. tile_starts (at + n) us) (sym long) in
    ap (λ x. x ∷ ts) here ∙ ap (λ xs. u ∷ xs) (tiles_same (at + length (joined t)) ts us s.1 cut.1 behind parts.1)
  where
    second : List ℕ → ℕ
    second [] = 0
    second (i ∷ []) = 0
    second (i ∷ j ∷ more) = j

    behind_first : List ℕ → List ℕ
    behind_first [] = []
    behind_first (i ∷ more) = more

    as_long : (ts us : List (List (List ℕ))) → Shaped ts us → at ∷ tile_starts (at + length (joined t)) ts ≡ at ∷ tile_starts (at + length (joined u)) us
        → joined t ++ joined (flat_map (λ t. t) ts) ≡ joined u ++ joined (flat_map (λ t. t) us) → length (joined t) ≡ length (joined u)
    as_long [] [] s starts whole = ap length (sym (append-nil (joined t)) ∙ whole ∙ append-nil (joined u))
    as_long [] (v ∷ us) s starts whole = absurd s
    as_long (v ∷ ts) [] s starts whole = absurd s
    as_long (v ∷ ts) (w ∷ us) s starts whole = let next : at + length (joined t) ≡ at + length (joined u) = ap second starts in omega arith

-- whole columns of byte lists
pub texts_same : (n : ℕ) (xs ys : List (List ℕ)) → length xs ≡ length ys → starts_in (tiles_of n xs) ≡ starts_in (tiles_of n ys)
    → tile_starts 14 (tiles_of n xs) ≡ tile_starts 14 (tiles_of n ys) → joined xs ≡ joined ys → xs ≡ ys
texts_same n xs ys long inside starts bytes =
    let same = tiles_same 14 (tiles_of n xs) (tiles_of n ys) (shaped n xs ys long) inside starts (ap joined (all_tiles n xs) ∙ bytes ∙ ap joined (sym (all_tiles n ys))) in
    sym (all_tiles n xs) ∙ ap (flat_map (λ t. t)) same ∙ all_tiles n ys

-- ---- parts of a list

-- what holds of all items of two lists holds of those of each
pub all_parts : {X : Type 0} (P : X → Type 0) (xs ys : List X) → All P (xs ++ ys) → All P xs × All P ys
all_parts P [] ys all = (All-nil P, all)
all_parts P (x ∷ xs) ys all =
    let rest = all_parts P xs ys (All-tail P x (xs ++ ys) all) in
    (All-cons P x xs (All-head P x (xs ++ ys) all) rest.0, rest.1)
