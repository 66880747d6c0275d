-- Tiles that have as many cells as those of a list are the tiles of that list.
use Rattle.std.proofs.Common.{◌≡◌, ℕ, zero, suc, ◌+◌, ◌-◌, ◌*◌, ◌<◌, ◌≤◌, List, [], ◌∷◌, ◌++◌, length, take, drop, refl, sym, ap, ◌∙◌, arith, length-append}
use Rattle.std.specs.Prelude.{min}
use Rattle.std.specs.List.{flat_map}
use Rattle.std.proofs.Math.Nat.{mul-le-mul_right}
use Rattle.ts_sparse.specs.Tilings.{tiles_of}
use Rattle.ts_sparse.proofs.CutLaws.{next_tiles}
use Rattle.ts_sparse_read.specs.Used.{cells_at}

-- all items of tiles
abbrev pub joined_tiles : {X : Type 0} → List (List X) → List X
joined_tiles tiles = flat_map (λ t. t) tiles

-- a tile is cut off at its end, where nothing follows one that is not full
cut_there : {X : Type 0} (n : ℕ) (t others : List X) → length t ≤ n → (length t < n → others ≡ []) → (take n (t ++ others) ≡ t) × (drop n (t ++ others) ≡ others)
cut_there zero [] others few rest = (refl, refl)
cut_there zero (x ∷ t) others few rest = absurd (omega (arith, few))
cut_there (suc n) [] others few rest =
    let none : others ≡ [] = rest (omega arith) in
    (ap (take (suc n)) none, ap (drop (suc n)) none ∙ sym none)
cut_there (suc n) (x ∷ t) others few rest =
    let behind = cut_there n t others (omega (arith, few)) (λ less. rest (omega (arith, less))) in
    (ap (λ more. x ∷ more) behind.0, behind.1)

-- the tiles, from the i-th on, have as many items as those of n items each of so many in all
abbrev pub AreSized : {X : Type 0} → ℕ → ℕ → ℕ → List (List X) → Type 0
AreSized n total i [] = Unit {0}
AreSized n total i (t ∷ tiles) = (length t ≡ cells_at n total i) × AreSized n total (suc i) tiles

no_items : {X : Type 0} (xs : List X) → length xs ≡ 0 → xs ≡ []
no_items [] e = refl
no_items (x ∷ xs) e = absurd (omega (arith, e))

-- they have all items from there on
pub sized_count : {X : Type 0} (n total i : ℕ) (tiles : List (List X)) → AreSized n total i tiles → total ≤ (i + length tiles) * n → length (joined_tiles tiles) ≡ total - i * n
sized_count n total i [] sized room = omega (arith, room)
sized_count n total i (t ∷ tiles) sized room =
    let behind = sized_count n total (suc i) tiles sized.1 (omega (arith, room)) in
    let here : length t ≡ min n (total - i * n) = sized.0 in
    omega (arith, behind, here, length-append t (joined_tiles tiles))

-- the first tile
first_cut : {X : Type 0} (rest : ℕ) (t others : List X) → 1 ≤ length t → length t ≤ suc rest → (length t < suc rest → others ≡ []) → tiles_of (suc rest) (t ++ others) ≡ t ∷ tiles_of (suc rest) others
first_cut rest [] others some few full = absurd (omega (arith, some))
first_cut rest (x ∷ xs) others some few full =
    let cut = cut_there (suc rest) (x ∷ xs) others few full in
    next_tiles rest x (xs ++ others) ∙ ap (λ tile. tile ∷ tiles_of (suc rest) (drop (suc rest) ((x ∷ xs) ++ others))) cut.0 ∙ ap (λ ys. (x ∷ xs) ∷ tiles_of (suc rest) ys) cut.1

-- they are the tiles of those items
pub sized_again : {X : Type 0} (rest total i : ℕ) (tiles : List (List X)) → AreSized (suc rest) total i tiles → total ≤ (i + length tiles) * suc rest → (i + length tiles) * suc rest < total + suc rest
    → tiles_of (suc rest) (joined_tiles tiles) ≡ tiles
sized_again rest total i [] sized room last = refl
sized_again rest total i (t ∷ tiles) sized room last =
    let more : i * suc rest ≤ (i + length tiles) * suc rest = mul-le-mul_right (suc rest) (omega arith) in
    let begins : i * suc rest < total = omega (arith, more, last) in
    let long : length t ≡ min (suc rest) (total - i * suc rest) = sized.0 in
    let behind = sized_count (suc rest) total (suc i) tiles sized.1 (omega (arith, room)) in
    first_cut rest t (joined_tiles tiles) (omega (arith, long, begins)) (omega (arith, long)) (λ less. no_items (joined_tiles tiles) (omega (arith, less, long, behind)))
    ∙ ap (λ ts. t ∷ ts) (sized_again rest total (suc i) tiles sized.1 (omega (arith, room)) (omega (arith, last)))

-- the same from the first tile on
pub tiles_again : {X : Type 0} (n total : ℕ) (tiles : List (List X)) → 1 ≤ n → AreSized n total 0 tiles → total ≤ length tiles * n → length tiles * n < total + n
    → (length (joined_tiles tiles) ≡ total) × (tiles_of n (joined_tiles tiles) ≡ tiles)
tiles_again zero total tiles some sized room last = absurd (omega (arith, some))
tiles_again (suc rest) total tiles some sized room last =
    let count = sized_count (suc rest) total 0 tiles sized (omega (arith, room)) in
    (omega (arith, count), sized_again rest total 0 tiles sized (omega (arith, room)) (omega (arith, last)))
