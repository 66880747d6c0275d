-- Where byte lists start in their tiles and where the tiles start, as one byte list more comes.
use Rattle.std.proofs.Common.{◌≡◌, ℕ, zero, suc, ◌+◌, ◌-◌, ◌<◌, ◌≤◌, ◌⊎◌, inl, inr, List, [], ◌∷◌, ◌++◌, length, drop, Some, refl, sym, ap, ◌∙◌, arith, append_assoc, length-append}
use Rattle.std.specs.List.{flat_map, slice_get}
use Rattle.std.proofs.lemmas.List.{drop_more, append-nil}
use Rattle.std.proofs.lemmas.Option.{get_or_from_slice_get}
use Rattle.ts_table.specs.Texts.{joined, starts_from}
use Rattle.ts_sparse.specs.Tilings.{tiles_from, tiles_of, tile_starts, starts_in}
use Rattle.ts_sparse.specs.TextObjects.{last_tile, room_left}

-- what is at a place, and behind it
pub its_rest : (texts : List (List ℕ)) (place : ℕ) (x : List ℕ) → place < length texts → slice_get texts place ≡ Some x → drop place texts ≡ x ∷ drop (place + 1) texts
its_rest texts place x within is = drop_more texts place x within ∙ ap (λ y. y ∷ drop (place + 1) texts) (get_or_from_slice_get texts place x x is)

-- ---- one byte list more in a tile

pub starts_more : (at : ℕ) (tile : List (List ℕ)) (t : List ℕ) → starts_from at (tile ++ t ∷ []) ≡ starts_from at tile ++ (at + length (joined tile)) ∷ []
starts_more at [] t = let same : at ≡ at + 0 = omega arith in ap (λ i. i ∷ []) same
starts_more at (u ∷ tile) t =
    let same : at + length u + length (joined tile) ≡ at + length (u ++ joined tile) = omega (arith, length-append u (joined tile)) in
    ap (λ more. at ∷ more) (starts_more (at + length u) tile t ∙ ap (λ i. starts_from (at + length u) tile ++ i ∷ []) same)

pub joined_more : (tile : List (List ℕ)) (t : List ℕ) → joined (tile ++ t ∷ []) ≡ joined tile ++ t
joined_more [] t = append-nil t
joined_more (u ∷ tile) t = ap (λ more. u ++ more) (joined_more tile t) ∙ sym (append_assoc u (joined tile) t)

-- ---- one tile more

pub starts_behind : (tiles : List (List (List ℕ))) (tile : List (List ℕ)) → starts_in (tiles ++ tile ∷ []) ≡ starts_in tiles ++ starts_from 0 tile
starts_behind [] tile = append-nil (starts_from 0 tile)
starts_behind (t ∷ tiles) tile = ap (λ more. starts_from 0 t ++ more) (starts_behind tiles tile) ∙ sym (append_assoc (starts_from 0 t) (starts_in tiles) (starts_from 0 tile))

pub tile_behind : (at : ℕ) (tiles : List (List (List ℕ))) (tile : List (List ℕ)) → tile_starts at (tiles ++ tile ∷ []) ≡ tile_starts at tiles ++ (at + length (joined (flat_map (λ t. t) tiles))) ∷ []
tile_behind at [] tile = let same : at ≡ at + 0 = omega arith in ap (λ i. i ∷ []) same
tile_behind at (t ∷ tiles) tile =
    let rest = flat_map (λ t. t) tiles in
    let same : at + length (joined t) + length (joined rest) ≡ at + length (joined (t ++ rest)) = omega (arith, both t rest) in
    ap (λ more. at ∷ more) (tile_behind (at + length (joined t)) tiles tile ∙ ap (λ i. tile_starts (at + length (joined t)) tiles ++ i ∷ []) same)
  where
    both : (ts us : List (List ℕ)) → length (joined (ts ++ us)) ≡ length (joined ts) + length (joined us)
    both [] us = omega arith
    both (t ∷ ts) us = omega (arith, length-append t (joined (ts ++ us)), length-append t (joined ts), both ts us)

pub last_behind : (tiles : List (List (List ℕ))) (tile : List (List ℕ)) → last_tile (tiles ++ tile ∷ []) ≡ tile
last_behind [] tile = refl
last_behind (t ∷ []) tile = refl
last_behind (t ∷ u ∷ tiles) tile = last_behind (u ∷ tiles) tile

pub room_behind : (n : ℕ) (tiles : List (List (List ℕ))) (tile : List (List ℕ)) → room_left n (tiles ++ tile ∷ []) ≡ n - length tile
room_behind n [] tile = refl
room_behind n (t ∷ tiles) tile = ap (λ last. n - length last) (last_behind (t ∷ tiles) tile)

-- ---- one item more in a list

-- whatever more comes, these tiles are full, and the last one goes on
record GoesOn {X : Type 0} (rest : ℕ) (tiles : List X → List (List X)) : Type 0 where
  full : List (List X)
  last : List X
  left : ℕ
  sized : left + length last ≡ suc rest
  on : (more : List X) → tiles more ≡ full ++ tiles_from rest left last more

goes_on : {X : Type 0} (rest left : ℕ) (tile xs : List X) → left + length tile ≡ suc rest → GoesOn rest (λ more. tiles_from rest left tile (xs ++ more))
goes_on rest left tile [] sized = record { full = []; last = tile; left = left; sized = sized; on = λ more. refl }
goes_on rest zero tile (x ∷ xs) sized =
    let after = goes_on rest rest (x ∷ []) xs (omega arith) in
    record { full = tile ∷ after.full; last = after.last; left = after.left; sized = after.sized; on = λ more. ap (λ tiles. tile ∷ tiles) (after.on more) }
goes_on rest (suc left) tile (x ∷ xs) sized = goes_on rest left (tile ++ x ∷ []) xs (omega (arith, length-append tile (x ∷ [])))

-- one more begins a tile
pub record Begins (n : ℕ) (tiles more : List (List (List ℕ))) (x : List ℕ) : Type 0 where
  pub none : room_left n tiles ≡ 0
  pub after : more ≡ tiles ++ (x ∷ []) ∷ []

-- one more goes into the last tile
pub record Joins (n : ℕ) (tiles more : List (List (List ℕ))) (x : List ℕ) : Type 0 where
  pub full : List (List (List ℕ))
  pub last : List (List ℕ)
  pub some : 1 ≤ room_left n tiles
  pub before : tiles ≡ full ++ last ∷ []
  pub after : more ≡ full ++ (last ++ x ∷ []) ∷ []

-- a list with one item more has one tile more, or a last tile that is longer
pub item_more : (n : ℕ) (xs : List (List ℕ)) (x : List ℕ) → 1 ≤ n → Begins n (tiles_of n xs) (tiles_of n (xs ++ x ∷ [])) x ⊎ Joins n (tiles_of n xs) (tiles_of n (xs ++ x ∷ [])) x
item_more n [] x some = inl (record { none = refl; after = refl })
item_more n (y ∷ xs) x some =
    let rest = n - 1 in
    let tiles : List (List ℕ) → List (List (List ℕ)) = λ more. tiles_from rest rest (y ∷ []) (xs ++ more) in
    let w = goes_on rest rest (y ∷ []) xs (omega arith) in
    let here : tiles_of n (y ∷ xs) ≡ w.full ++ w.last ∷ [] = ap (λ ys. tiles_from rest rest (y ∷ []) ys) (sym (append-nil xs)) ∙ w.on [] in
    let room : room_left n (tiles_of n (y ∷ xs)) ≡ n - length w.last = ap (room_left n) here ∙ room_behind n w.full w.last in
    by w.full w.last w.left (omega (arith, w.sized)) here room (w.on (x ∷ []))
  where
    by : (full : List (List (List ℕ))) (last : List (List ℕ)) (left : ℕ) → left + length last ≡ n → tiles_of n (y ∷ xs) ≡ full ++ last ∷ [] → room_left n (tiles_of n (y ∷ xs)) ≡ n - length last
        → tiles_of n (y ∷ xs ++ x ∷ []) ≡ full ++ tiles_from (n - 1) left last (x ∷ []) → Begins n (tiles_of n (y ∷ xs)) (tiles_of n (y ∷ xs ++ x ∷ [])) x ⊎ Joins n (tiles_of n (y ∷ xs)) (tiles_of n (y ∷ xs ++ x ∷ [])) x
    by full last zero sized here room on =
        inl (record { none = omega (arith, sized, room); after = on ∙ sym (append_assoc full (last ∷ []) ((x ∷ []) ∷ [])) ∙ ap (λ front. front ++ (x ∷ []) ∷ []) (sym here) })
    by full last (suc left) sized here room on =
        inr (record { full = full; last = last; some = omega (arith, sized, room); before = here; after = on })
