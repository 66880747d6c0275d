-- A tile is a range of each column.
use Rattle.std.proofs.Common.{◌≡◌, ℕ, zero, suc, ◌+◌, ◌*◌, ◌≤◌, List, [], ◌∷◌, length, map, get_or, take, drop, refl, sym, ap, ◌∙◌, subst, arith, length-take, length-drop}
use Rattle.std.specs.List.{flat_map}
use Rattle.ts_wire.specs.declared.kinds.Kind.TheVariants as kind
use Rattle.ts_wire.specs.Envelope.{wrapped}
use Rattle.ts_column.proofs.Ranges.{cells_range}
use Rattle.ts_plain.specs.declared.stored.StoredCell.{StoredCell}
use Rattle.ts_sparse.specs.Tilings.{tiles_of}
use Rattle.ts_sparse.proofs.Shapes.{map_tiles}
use Rattle.ts_sparse.proofs.CutLaws.{tile_at}

take_own : {X : Type 0} (n : ℕ) (xs : List X) → take (length (take n xs)) xs ≡ take n xs
take_own zero xs = refl
take_own (suc n) [] = refl
take_own (suc n) (x ∷ xs) = ap (λ more. x ∷ more) (take_own n xs)

module _ {X : Type 0} (spell : X → List ℕ) (w : ℕ) (wide : (x : X) → length (spell x) ≡ w) where
  -- the range of a tile in the object of a column of one width
  pub tile_range : (rest i : ℕ) (xs : List X) → i * suc rest ≤ length xs
      → take (length (get_or (tiles_of (suc rest) xs) i []) * w) (drop (14 + i * suc rest * w) (wrapped kind.Column (flat_map spell xs))) ≡ flat_map spell (get_or (tiles_of (suc rest) xs) i [])
  tile_range rest i xs within =
      let from = i * suc rest in
      let tile = tile_at rest i xs in
      let P : List X → Type 0 = λ t. take (length t * w) (drop (14 + from * w) (wrapped kind.Column (flat_map spell xs))) ≡ flat_map spell t in
      let count = length (take (suc rest) (drop from xs)) in
      let room : from + count ≤ length xs = omega (arith, length-take (suc rest) (drop from xs), length-drop from xs) in
      subst P (sym tile) (cells_range spell w wide xs from count room ∙ ap (flat_map spell) (take_own (suc rest) (drop from xs)))

-- the tile of a column is the column of the tile
pub tile_of_column : {Y : Type 0} (f : StoredCell → Y) (n i : ℕ) (cells : List StoredCell) → get_or (tiles_of n (map f cells)) i [] ≡ map f (get_or (tiles_of n cells) i [])
tile_of_column f n i cells = ap (λ ts. get_or ts i []) (map_tiles f n cells) ∙ at f i (tiles_of n cells)
  where
    at : {Y : Type 0} (f : StoredCell → Y) (i : ℕ) (ts : List (List StoredCell)) → get_or (map (map f) ts) i [] ≡ map f (get_or ts i [])
    at f zero [] = refl
    at f (suc i) [] = refl
    at f zero (t ∷ ts) = refl
    at f (suc i) (t ∷ ts) = at f i ts
