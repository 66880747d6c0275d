-- How many tiles a list has, and the last box of a fragment's tree.
use Rattle.std.proofs.Common.{◌≡◌, ℕ, zero, suc, ◌+◌, ◌-◌, ◌*◌, ◌<◌, ◌≤◌, List, [], ◌∷◌, ◌++◌, length, take, drop, get_or, slice_get, Some, refl, sym, ap, ◌∙◌, subst, arith, length-append}
use Rattle.ts_base.specs.declared.keys.FragKey.{FragKey}
use Rattle.ts_domain.specs.declared.boxes.SubBox.{SubBox}
use Rattle.ts_rtree.specs.Trees.{upper_of, nodes_of}
use Rattle.ts_schema.specs.declared.attrs.Attr.{Attr}
use Rattle.ts_schema.specs.declared.frames.Frame.{Frame}
use Rattle.ts_plain.specs.declared.stored.StoredPiece.{StoredPiece}
use Rattle.ts_plain.specs.Rules.{last_of}
use Rattle.ts_sparse.specs.Tilings.{tiles_from, tiles_of}
use Rattle.ts_sparse.specs.Sparse.{leaves_of, FitsSparse}
use Rattle.ts_plain.specs.Writes.{box_of}
use Rattle.ts_sparse.proofs.CutLaws.{tile_at}
use Rattle.ts_sparse.proofs.MetaLaws.{some_leaves}
use Rattle.ts_sparse.proofs.TopLaws.{last_box, top_of_cells}

-- ---- tiles

counted_from : {X : Type 0} (rest left : ℕ) (tile xs : List X) → left ≤ rest → length tile + left ≡ suc rest
    → (length tile + length xs ≤ length (tiles_from rest left tile xs) * suc rest) × (length (tiles_from rest left tile xs) * suc rest < length tile + length xs + suc rest)
counted_from rest left tile [] few full = (omega arith, omega arith)
counted_from rest zero tile (x ∷ xs) few full =
    let behind = counted_from rest rest (x ∷ []) xs (omega arith) (omega arith) in
    let more : suc (length (tiles_from rest rest (x ∷ []) xs)) * suc rest ≡ suc rest + length (tiles_from rest rest (x ∷ []) xs) * suc rest = omega arith in
    (omega (arith, more, behind.0, full), omega (arith, more, behind.1, full))
counted_from rest (suc left) tile (x ∷ xs) few full =
    let long = length-append tile (x ∷ []) in
    let behind = counted_from rest left (tile ++ x ∷ []) xs (omega arith) (omega arith) in
    (omega (arith, long, behind.0), omega (arith, long, behind.1))

counted : {X : Type 0} (rest : ℕ) (xs : List X) → (length xs ≤ length (tiles_of (suc rest) xs) * suc rest) × (length (tiles_of (suc rest) xs) * suc rest < length xs + suc rest)
counted rest [] = (omega arith, omega arith)
counted rest (x ∷ xs) =
    let same : suc rest - 1 ≡ rest = omega arith in
    let P : ℕ → Type 0 = λ k. (1 + length xs ≤ length (tiles_from k k (x ∷ []) xs) * suc rest) × (length (tiles_from k k (x ∷ []) xs) * suc rest < 1 + length xs + suc rest) in
    let bounds : P (suc rest - 1) = subst P (sym same) (counted_from rest rest (x ∷ []) xs (omega arith) (omega arith)) in
    (omega (arith, bounds.0), omega (arith, bounds.1))

-- there are as many tiles as the items ask for, and each is a range
pub tiles_counted : {X : Type 0} (n : ℕ) (xs : List X) → 1 ≤ n → (length xs ≤ length (tiles_of n xs) * n) × (length (tiles_of n xs) * n < length xs + n)
tiles_counted zero xs some = absurd (omega arith)
tiles_counted (suc rest) xs some = counted rest xs

pub tiles_ranges : {X : Type 0} (n i : ℕ) (xs : List X) → 1 ≤ n → get_or (tiles_of n xs) i [] ≡ take n (drop (i * n) xs)
tiles_ranges zero i xs some = absurd (omega arith)
tiles_ranges (suc rest) i xs some = tile_at rest i xs

-- ---- the last box

last_is : (b : SubBox) (bs : List SubBox) → last_of (b ∷ bs) ≡ Some (last_box (b ∷ bs))
last_is b [] = refl
last_is b (c ∷ bs) =
    let first : suc (suc (length bs)) - 1 ≡ suc (length bs) = omega arith in
    let second : length bs ≡ suc (length bs) - 1 = omega arith in
    ap (slice_get (b ∷ (c ∷ bs))) first ∙ ap (slice_get (c ∷ bs)) second ∙ last_is c bs

last_there : (boxes : List SubBox) → 1 ≤ length boxes → last_of boxes ≡ Some (last_box boxes)
last_there [] some = absurd (omega arith)
last_there (b ∷ bs) some = last_is b bs

-- the last box of a fragment's tree is the hull of the fragment
pub last_is_hull : (frame : Frame) (attrs : List Attr) (frag : FragKey) (s : StoredPiece) → FitsSparse frame attrs frag s → last_of (nodes_of (leaves_of frame.capacity s.cells)) ≡ Some (box_of s.head.hull)
last_is_hull frame attrs frag s fits =
    let leaves = leaves_of frame.capacity s.cells in
    let some = some_leaves frame attrs frag s fits in
    last_there (nodes_of leaves) (omega (arith, some, length-append leaves (upper_of leaves))) ∙ ap Some (top_of_cells frame.capacity s.cells ∙ fits.tight)
