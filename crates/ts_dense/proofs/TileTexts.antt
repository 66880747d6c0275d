-- What is stored of byte lists in tiles tells them.
use Rattle.std.proofs.Common.{◌≡◌, ℕ, ◌≤◌, List, [], ◌∷◌, ◌++◌, length, take, drop, sum, refl, sym, ap, ◌∙◌, arith, append_assoc, length-append}
use Rattle.std.specs.List.{flat_map}
use Rattle.std.proofs.lemmas.List.{take-append-drop}
use Rattle.ts_table.specs.Texts.{joined}
use Rattle.ts_sparse.specs.Tilings.{tile_starts, starts_in}
use Rattle.ts_sparse.proofs.Shapes.{tiles_same, joined_parts}
use Rattle.ts_dense.specs.Slots.{tiles_by}
use Rattle.ts_dense.proofs.TileLists.{all_tiles, shaped}

-- the tiles have no more bytes than the list
pub tiles_within : (counts : List ℕ) (xs : List (List ℕ)) → length (joined (flat_map (λ t. t) (tiles_by counts xs))) ≤ length (joined xs)
tiles_within [] xs = omega arith
tiles_within (n ∷ counts) xs =
    let rest = tiles_within counts (drop n xs) in
    let parts = ap length (joined_parts (take n xs) (tiles_by counts (drop n xs))) ∙ length-append (joined (take n xs)) (joined (flat_map (λ t. t) (tiles_by counts (drop n xs)))) in
    let whole = ap length (sym (ap joined (take-append-drop n xs)) ∙ joined_two (take n xs) (drop n xs)) ∙ length-append (joined (take n xs)) (joined (drop n xs)) in
    omega (arith, rest, parts, whole)
  where
    joined_two : (xs ys : List (List ℕ)) → joined (xs ++ ys) ≡ joined xs ++ joined ys
    joined_two [] ys = refl
    joined_two (x ∷ xs) ys = ap (λ more. x ++ more) (joined_two xs ys) ∙ sym (append_assoc x (joined xs) (joined ys))

-- whole columns of byte lists
pub texts_same : (counts : List ℕ) (xs ys : List (List ℕ)) → length xs ≡ sum counts → length xs ≡ length ys → starts_in (tiles_by counts xs) ≡ starts_in (tiles_by counts ys)
    → tile_starts 14 (tiles_by counts xs) ≡ tile_starts 14 (tiles_by counts ys) → joined xs ≡ joined ys → xs ≡ ys
texts_same counts xs ys all long inside starts bytes =
    let one = all_tiles counts xs all in
    let two = all_tiles counts ys (sym long ∙ all) in
    let same = tiles_same 14 (tiles_by counts xs) (tiles_by counts ys) (shaped counts xs ys long) inside starts (ap joined one ∙ bytes ∙ ap joined (sym two)) in
    sym one ∙ ap (flat_map (λ t. t)) same ∙ two
