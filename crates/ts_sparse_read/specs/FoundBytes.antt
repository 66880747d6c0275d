-- What is found at the span of a tile of a column.
use Rattle.std.specs.Prelude.{min}
use Rattle.std.proofs.Common.{◌≡◌, ℕ, zero, suc, ◌+◌, ◌-◌, ◌*◌, ◌<◌, ◌≤◌, List, [], ◌∷◌, ◌++◌, length, map, get_or, take, drop, refl, sym, ap, ◌∙◌, subst, arith, append_assoc, length-append, length-take, length-drop}
use Rattle.std.specs.List.{flat_map}
use Rattle.std.proofs.Math.Nat.{mul-le-mul_right}
use Rattle.std.proofs.lemmas.List.{take_at, drop_at, drop-drop}
use Rattle.ts_wire.specs.declared.kinds.Kind.TheVariants as kind
use Rattle.ts_wire.specs.Envelope.{wrapped, envelope_bytes}
use Rattle.ts_wire.proofs.Objects.{length-envelope_bytes}
use Rattle.ts_store.specs.Calls.{part_of}
use Rattle.ts_table.specs.Texts.{joined, starts_from}
use Rattle.ts_wire.specs.Numbers.{number_bytes}
use Rattle.ts_wire.proofs.Numbers.{length-number_bytes}
use Rattle.ts_column.proofs.Ranges.{cells_range}
use Rattle.ts_footer.specs.Columns.{fixed_length}
use Rattle.ts_sparse.specs.Tilings.{tiles_of, tile_starts, starts_in}
use Rattle.ts_sparse.proofs.CutLaws.{tile_at, next_tiles}
use Rattle.ts_sparse.proofs.CountLaws.{tiles_counted}
use Rattle.ts_sparse.proofs.RangeLaws.{tile_range}
use Rattle.ts_sparse.proofs.Shapes.{map_tiles, all_tiles, length-starts_from}
use Rattle.ts_sparse_read.specs.Used.{tile_size, cells_at}

-- ---- tiles

-- the tile of what f makes is what f makes of the tile
pub tile_of_map : {X Y : Type 0} (f : X → Y) (n i : ℕ) (xs : List X) → get_or (tiles_of n (map f xs)) i [] ≡ map f (get_or (tiles_of n xs) i [])
tile_of_map {X = X} f n i xs = ap (λ ts. get_or ts i []) (map_tiles f n xs) ∙ at i (tiles_of n xs)
  where
    at : (i : ℕ) (ts : List (List X)) → get_or (map (map f) ts) i [] ≡ map f (get_or ts i [])
    at zero [] = refl
    at (suc i) [] = refl
    at zero (t ∷ ts) = refl
    at (suc i) (t ∷ ts) = at i ts

-- a tile begins before the end of the list
pub tile_begins : {X : Type 0} (rest i : ℕ) (xs : List X) → i < length (tiles_of (suc rest) xs) → i * suc rest < length xs
tile_begins rest i xs within =
    let few = (tiles_counted (suc rest) xs (omega arith)).1 in
    let next : suc i * suc rest ≤ length (tiles_of (suc rest) xs) * suc rest = mul-le-mul_right (suc rest) within in
    let split : suc i * suc rest ≡ suc rest + i * suc rest = omega arith in
    omega (arith, few, next, split)

-- it has as many items as are left for it
pub tile_counted : {X : Type 0} (rest i : ℕ) (xs : List X) → length (get_or (tiles_of (suc rest) xs) i []) ≡ cells_at (suc rest) (length xs) i
tile_counted rest i xs =
    ap length (tile_at rest i xs) ∙ length-take (suc rest) (drop (i * suc rest) xs) ∙ ap (min (suc rest)) (length-drop (i * suc rest) xs)

-- it has some item
pub tile_some : {X : Type 0} (rest i : ℕ) (xs : List X) → i < length (tiles_of (suc rest) xs) → 1 ≤ length (get_or (tiles_of (suc rest) xs) i [])
tile_some rest i xs within = let begins = tile_begins rest i xs within in omega (arith, tile_counted rest i xs, begins)

-- ---- columns of one width

module _ {X : Type 0} (spell : X → List ℕ) (w : ℕ) (wide : (x : X) → length (spell x) ≡ w) where
  -- the span of a tile has what its items spell
  pub fixed_found : (rest i : ℕ) (xs : List X) → i < length (tiles_of (suc rest) xs)
      → part_of (fixed_length w (i * suc rest)) (w * cells_at (suc rest) (length xs) i) (wrapped kind.Column (flat_map spell xs)) ≡ flat_map spell (get_or (tiles_of (suc rest) xs) i [])
  fixed_found rest i xs within =
      let begins = tile_begins rest i xs within in
      let from : 14 + w * (i * suc rest) ≡ 14 + i * suc rest * w = omega arith in
      let count : w * cells_at (suc rest) (length xs) i ≡ length (get_or (tiles_of (suc rest) xs) i []) * w = ap (λ k. w * k) (sym (tile_counted rest i xs)) ∙ omega arith in
      ap (λ k. take (w * cells_at (suc rest) (length xs) i) (drop k (wrapped kind.Column (flat_map spell xs)))) from
      ∙ ap (λ k. take k (drop (14 + i * suc rest * w) (wrapped kind.Column (flat_map spell xs)))) count
      ∙ tile_range spell w wide rest i xs (omega arith)

-- ---- starts of byte lists

starts_range : (rest i : ℕ) (texts : List (List ℕ)) → i < length (tiles_of (suc rest) texts)
    → take (length (get_or (tiles_of (suc rest) texts) i [])) (drop (i * suc rest) (starts_in (tiles_of (suc rest) texts))) ≡ starts_from 0 (get_or (tiles_of (suc rest) texts) i [])
starts_range rest i [] within = absurd (omega arith)
starts_range rest zero (x ∷ xs) within =
    let first = take (suc rest) (x ∷ xs) in
    let others = tiles_of (suc rest) (drop (suc rest) (x ∷ xs)) in
    let P : List (List (List ℕ)) → Type 0 = λ ts. take (length (get_or ts 0 [])) (drop (0 * suc rest) (starts_in ts)) ≡ starts_from 0 (get_or ts 0 []) in
    let none : 0 * suc rest ≡ 0 = omega arith in
    subst P (sym (next_tiles rest x xs))
    (ap (λ k. take (length first) (drop k (starts_from 0 first ++ starts_in others))) none ∙ take_at (starts_from 0 first) (starts_in others) (length first) (length-starts_from 0 first))
starts_range rest (suc i) (x ∷ xs) within =
    let first = take (suc rest) (x ∷ xs) in
    let behind = drop (suc rest) (x ∷ xs) in
    let others = tiles_of (suc rest) behind in
    let count : length (tiles_of (suc rest) (x ∷ xs)) ≡ suc (length others) = ap length (next_tiles rest x xs) in
    let inside : i < length others = omega (arith, count, within) in
    let begins = tile_begins rest i behind inside in
    let full : length first ≡ suc rest = length-take (suc rest) (x ∷ xs) ∙ omega (arith, length-drop (suc rest) (x ∷ xs), begins) in
    let more : suc i * suc rest ≡ suc rest + i * suc rest = omega arith in
    let P : List (List (List ℕ)) → Type 0 = λ ts. take (length (get_or ts (suc i) [])) (drop (suc i * suc rest) (starts_in ts)) ≡ starts_from 0 (get_or ts (suc i) []) in
    subst P (sym (next_tiles rest x xs))
    (ap (take (length (get_or others i []))) (ap (λ k. drop k (starts_from 0 first ++ starts_in others)) more ∙ sym (drop-drop (i * suc rest) (suc rest) (starts_from 0 first ++ starts_in others))
    ∙ ap (drop (i * suc rest)) (drop_at (starts_from 0 first) (starts_in others) (suc rest) (length-starts_from 0 first ∙ full)))
    ∙ starts_range rest i behind inside)

length-starts_in : (tiles : List (List (List ℕ))) → length (starts_in tiles) ≡ length (flat_map (λ t. t) tiles)
length-starts_in [] = refl
length-starts_in (t ∷ tiles) =
    length-append (starts_from 0 t) (starts_in tiles) ∙ omega (arith, length-starts_from 0 t, length-starts_in tiles, length-append t (flat_map (λ t. t) tiles))

-- the span of a tile in the first object of byte lists has where each starts in the tile
pub starts_found : (rest i : ℕ) (texts : List (List ℕ)) → i < length (tiles_of (suc rest) texts)
    → part_of (fixed_length 8 (i * suc rest)) (8 * cells_at (suc rest) (length texts) i) (wrapped kind.Column (flat_map (number_bytes 8) (starts_in (tiles_of (suc rest) texts))))
    ≡ flat_map (number_bytes 8) (starts_from 0 (get_or (tiles_of (suc rest) texts) i []))
starts_found rest i texts within =
    let starts = starts_in (tiles_of (suc rest) texts) in
    let tile = get_or (tiles_of (suc rest) texts) i [] in
    let object = wrapped kind.Column (flat_map (number_bytes 8) starts) in
    let begins = tile_begins rest i texts within in
    let counted = tile_counted rest i texts in
    let as_many : length starts ≡ length texts = length-starts_in (tiles_of (suc rest) texts) ∙ ap length (all_tiles (suc rest) texts) in
    let from : 14 + 8 * (i * suc rest) ≡ 14 + i * suc rest * 8 = omega arith in
    let count : 8 * cells_at (suc rest) (length texts) i ≡ length tile * 8 = ap (λ k. 8 * k) (sym counted) ∙ omega arith in
    let room : i * suc rest + length tile ≤ length starts = omega (arith, counted, as_many, begins) in
    ap (λ k. take (8 * cells_at (suc rest) (length texts) i) (drop k object)) from
    ∙ ap (λ k. take k (drop (14 + i * suc rest * 8) object)) count
    ∙ cells_range (number_bytes 8) 8 (length-number_bytes 8) starts (i * suc rest) (length tile) room
    ∙ ap (flat_map (number_bytes 8)) (starts_range rest i texts within)

-- ---- bytes of byte lists

-- all bytes of tiles
all_bytes : List (List (List ℕ)) → List ℕ
all_bytes [] = []
all_bytes (t ∷ tiles) = joined t ++ all_bytes tiles

joined-append : (xs ys : List (List ℕ)) → joined (xs ++ ys) ≡ joined xs ++ joined ys
joined-append [] ys = refl
joined-append (x ∷ xs) ys = ap (λ more. x ++ more) (joined-append xs ys) ∙ sym (append_assoc x (joined xs) (joined ys))

bytes_of_all : (tiles : List (List (List ℕ))) → all_bytes tiles ≡ joined (flat_map (λ t. t) tiles)
unfolding all_bytes
bytes_of_all [] = refl
bytes_of_all (t ∷ tiles) = ap (λ more. joined t ++ more) (bytes_of_all tiles) ∙ sym (joined-append t (flat_map (λ t. t) tiles))

-- the first tile starts at the start, and so does the end where there is none
first_start : (tiles : List (List (List ℕ))) (at : ℕ) → get_or (tile_starts at tiles) 0 (at + length (all_bytes tiles)) ≡ at
unfolding all_bytes
first_start [] at = omega arith
first_start (t ∷ tiles) at = refl

bytes_range : (front : List ℕ) (tiles : List (List (List ℕ))) (i end : ℕ) → i < length tiles → end ≡ length front + length (all_bytes tiles)
    → take (get_or (tile_starts (length front) tiles) (suc i) end - get_or (tile_starts (length front) tiles) i end) (drop (get_or (tile_starts (length front) tiles) i end) (front ++ all_bytes tiles)) ≡ joined (get_or tiles i [])
unfolding all_bytes
bytes_range front [] i end within is = absurd (omega arith)
bytes_range front (t ∷ tiles) zero end within is =
    let long = length-append (joined t) (all_bytes tiles) in
    let ends : end ≡ length front + length (joined t) + length (all_bytes tiles) = omega (arith, is, long) in
    let next : get_or (tile_starts (length front + length (joined t)) tiles) 0 end ≡ length front + length (joined t) = ap (get_or (tile_starts (length front + length (joined t)) tiles) 0) ends ∙ first_start tiles (length front + length (joined t)) in
    let count : get_or (tile_starts (length front + length (joined t)) tiles) 0 end - length front ≡ length (joined t) = omega (arith, next) in
    ap (λ k. take k (drop (length front) (front ++ (joined t ++ all_bytes tiles)))) count
    ∙ ap (take (length (joined t))) (drop_at front (joined t ++ all_bytes tiles) (length front) refl)
    ∙ take_at (joined t) (all_bytes tiles) (length (joined t)) refl
bytes_range front (t ∷ tiles) (suc i) end within is =
    let more : length (front ++ joined t) ≡ length front + length (joined t) = length-append front (joined t) in
    let long = length-append (joined t) (all_bytes tiles) in
    let ends : end ≡ length (front ++ joined t) + length (all_bytes tiles) = omega (arith, is, long, more) in
    let there = bytes_range (front ++ joined t) tiles i end (omega arith) ends in
    let P : ℕ → List ℕ → Type 0 = λ at text. take (get_or (tile_starts at tiles) (suc i) end - get_or (tile_starts at tiles) i end) (drop (get_or (tile_starts at tiles) i end) text) ≡ joined (get_or tiles i []) in
    subst (λ text. P (length front + length (joined t)) text) (append_assoc front (joined t) (all_bytes tiles)) (subst (λ at. P at ((front ++ joined t) ++ all_bytes tiles)) more there)

-- the span of a tile in the second object of byte lists has the bytes of the tile
pub bytes_found : (n i : ℕ) (texts : List (List ℕ)) → i < length (tiles_of n texts)
    → part_of (get_or (tile_starts 14 (tiles_of n texts)) i (14 + length (joined texts))) (get_or (tile_starts 14 (tiles_of n texts)) (suc i) (14 + length (joined texts)) - get_or (tile_starts 14 (tiles_of n texts)) i (14 + length (joined texts)))
    (wrapped kind.Column (joined texts))
    ≡ joined (get_or (tiles_of n texts) i [])
unfolding wrapped
bytes_found n i texts within =
    let tiles = tiles_of n texts in
    let end = 14 + length (joined texts) in
    let body : all_bytes tiles ≡ joined texts = bytes_of_all tiles ∙ ap joined (all_tiles n texts) in
    let envelope = envelope_bytes kind.Column (length (joined texts)) in
    let long : length envelope ≡ 14 = length-envelope_bytes kind.Column (length (joined texts)) in
    let ends : end ≡ length envelope + length (all_bytes tiles) = omega (arith, long, ap length body) in
    let there = bytes_range envelope tiles i end within ends in
    let P : ℕ → List ℕ → Type 0 = λ at text. take (get_or (tile_starts at tiles) (suc i) end - get_or (tile_starts at tiles) i end) (drop (get_or (tile_starts at tiles) i end) (envelope ++ text)) ≡ joined (get_or tiles i []) in
    subst (λ text. P 14 text) body (subst (λ at. P at (all_bytes tiles)) long there)

-- ---- the size of tiles

-- tiles have so many cells as the capacity says, where that is not 0
pub size_is : (n : ℕ) → 1 ≤ n → tile_size n ≡ n
size_is n some = omega arith
