-- A read needs the tiles alone whose leaves meet its box, and a tile is a range of each column.
use Rattle.std.proofs.Common.{◌≡◌, ℕ, zero, suc, ◌+◌, ◌-◌, ◌*◌, ℤ, true, ◌&&◌, int_le, List, [], ◌∷◌, ◌++◌, length, map, get_or, take, drop, refl, sym, ap, ◌∙◌, subst, arith, append_assoc}
use Rattle.std.specs.Prelude.{IsTrue}
use Rattle.std.specs.List.{flat_map, All}
use Rattle.std.proofs.lemmas.List.{length-map, map-append, drop-drop}
use Rattle.std.proofs.lemmas.Simd.{map-map}
use Rattle.std.proofs.lemmas.List.Elements.{All-head, All-tail, All-nil, All-cons, All-weaker}
use Rattle.std.proofs.lemmas.Bool.{and_from, and_parts}
use Rattle.std.proofs.lemmas.Int.{ints}
use Rattle.ts_base.specs.declared.keys.FragKey.{FragKey}
use Rattle.ts_base.specs.declared.heads.Version.{Version}
use Rattle.ts_domain.specs.declared.dims.Dim.{Dim}
use Rattle.ts_domain.specs.declared.boxes.SubBox.{SubBox}
use Rattle.ts_domain.specs.Bounds.{are_bounds, is_between}
use Rattle.ts_domain.specs.Boxes.{is_in_box, hull_of, Covers}
use Rattle.ts_domain.proofs.BoxLemmas.{IsHullOf-hull_of}
use Rattle.ts_domain.specs.Rects.{IsLike}
use Rattle.ts_domain.specs.Rects.{places_meeting}
use Rattle.ts_rtree.proofs.Likes.{like_hull}
use Rattle.ts_wire.proofs.Laws.{EachFits-length}
use Rattle.ts_schema.specs.declared.attrs.Attr.{Attr}
use Rattle.ts_schema.specs.declared.frames.Frame.{Frame}
use Rattle.ts_schema.specs.declared.wants.Want.{Want}
use Rattle.ts_schema.specs.Wants.{taken}
use Rattle.ts_plain.specs.declared.stored.StoredHead.{StoredHead}
use Rattle.ts_plain.specs.declared.stored.StoredCell.{StoredCell}
use Rattle.ts_plain.specs.declared.stored.StoredPiece.{StoredPiece}
use Rattle.ts_plain.specs.Pieces.{version_in}
use Rattle.ts_sparse.proofs.MeetLaws.{CutOf, IsInLeaf, versions_by_tile, all_versions, tiles_suffice}
use Rattle.ts_sparse.specs.Tilings.{tiles_from, tiles_of}
use Rattle.ts_sparse.specs.Sparse.{cell_box, hull_from, leaf_of, leaves_of, FitsTypes, FitsSparse}
use Rattle.ts_sparse.specs.Cuts.{taken_at, IsHullOfCells}
use Rattle.ts_sparse.proofs.Shapes.{all_parts, all_tiles}

-- the versions of a tile of cells, with its leaf
abbrev pub cut_of : StoredHead → List StoredCell → CutOf
cut_of head tile = record { leaf = leaf_of tile; versions = map (version_in head) tile }

-- the tiles of n cells each
abbrev pub cuts_of : ℕ → StoredHead → List StoredCell → List CutOf
cuts_of n head cells = map (cut_of head) (tiles_of n cells)

-- ---- a tile is a range

first_tile : {X : Type 0} (rest left : ℕ) (tile xs : List X) → tiles_from rest left tile xs ≡ (tile ++ take left xs) ∷ tiles_of (suc rest) (drop left xs)
first_tile rest zero tile [] = ap (λ t. t ∷ []) (sym (nothing tile))
  where
    nothing : {X : Type 0} (xs : List X) → xs ++ [] ≡ xs
    nothing [] = refl
    nothing (x ∷ xs) = ap (λ more. x ∷ more) (nothing xs)
first_tile rest (suc left) tile [] = ap (λ t. t ∷ []) (sym (nothing tile))
  where
    nothing : {X : Type 0} (xs : List X) → xs ++ [] ≡ xs
    nothing [] = refl
    nothing (x ∷ xs) = ap (λ more. x ∷ more) (nothing xs)
first_tile rest zero tile (x ∷ xs) = ap (λ t. t ∷ tiles_from rest rest (x ∷ []) xs) (sym (nothing tile)) ∙ ap (λ k. (tile ++ []) ∷ tiles_from k k (x ∷ []) xs) same
  where
    same : rest ≡ suc rest - 1
    same = omega arith

    nothing : {X : Type 0} (xs : List X) → xs ++ [] ≡ xs
    nothing [] = refl
    nothing (x ∷ xs) = ap (λ more. x ∷ more) (nothing xs)
first_tile rest (suc left) tile (x ∷ xs) = first_tile rest left (tile ++ x ∷ []) xs ∙ ap (λ t. t ∷ tiles_of (suc rest) (drop left xs)) (append_assoc tile (x ∷ []) (take left xs))

pub next_tiles : {X : Type 0} (rest : ℕ) (x : X) (xs : List X) → tiles_of (suc rest) (x ∷ xs) ≡ take (suc rest) (x ∷ xs) ∷ tiles_of (suc rest) (drop (suc rest) (x ∷ xs))
next_tiles rest x xs =
    let same : suc rest - 1 ≡ rest = omega arith in
    ap (λ k. tiles_from k k (x ∷ []) xs) same ∙ first_tile rest rest (x ∷ []) xs

none_dropped : {X : Type 0} (k : ℕ) → drop {A = X} k [] ≡ []
none_dropped zero = refl
none_dropped (suc k) = refl

-- the tile at a place is a range of the list
pub tile_at : {X : Type 0} (rest i : ℕ) (xs : List X) → get_or (tiles_of (suc rest) xs) i [] ≡ take (suc rest) (drop (i * suc rest) xs)
tile_at rest zero [] = let none : 0 ≡ 0 * suc rest = omega arith in ap (λ k. take (suc rest) (drop k [])) none
tile_at rest (suc i) [] = sym (ap (take (suc rest)) (none_dropped (suc i * suc rest)))
tile_at rest zero (x ∷ xs) =
    let none : 0 ≡ 0 * suc rest = omega arith in
    ap (λ ts. get_or ts 0 []) (next_tiles rest x xs) ∙ ap (λ k. take (suc rest) (drop k (x ∷ xs))) none
tile_at rest (suc i) (x ∷ xs) =
    let more : suc rest + i * suc rest ≡ suc i * suc rest = omega arith in
    ap (λ ts. get_or ts (suc i) []) (next_tiles rest x xs) ∙ tile_at rest i (drop (suc rest) (x ∷ xs))
    ∙ ap (take (suc rest)) (drop-drop (i * suc rest) (suc rest) (x ∷ xs) ∙ ap (λ k. drop k (x ∷ xs)) more)

-- ---- a leaf is the hull of its cells

same_bounds : (xs : List ℤ) → are_bounds xs xs ≡ true
same_bounds [] = refl
same_bounds (x ∷ xs) = let le : int_le x x ≡ true = grind (arith, ints) in and_from (int_le x x) (are_bounds xs xs) le (same_bounds xs)

at_itself : (xs : List ℤ) → is_between xs xs xs ≡ true
at_itself [] = refl
at_itself (x ∷ xs) = let le : int_le x x ≡ true = grind (arith, ints) in and_from (int_le x x && int_le x x) (is_between xs xs xs) (and_from (int_le x x) (int_le x x) le le) (at_itself xs)

only_itself : (outer : SubBox) (xs cs : List ℤ) → IsTrue (is_between xs xs cs) → xs ≡ cs
only_itself outer [] [] t = refl
only_itself outer [] (c ∷ cs) t = absurd (cc)
only_itself outer (x ∷ xs) [] t = absurd (cc)
only_itself outer (x ∷ xs) (c ∷ cs) t =
    let parts = and_parts (int_le x c && int_le c x) (is_between xs xs cs) t in
    let both = and_parts (int_le x c) (int_le c x) parts.0 in
    let here : x ≡ c = between x c both.0 both.1 in
    ap (λ z. z ∷ xs) here ∙ ap (λ zs. c ∷ zs) (only_itself outer xs cs parts.1)
  where
    between : (x c : ℤ) → int_le x c ≡ true → int_le c x ≡ true → x ≡ c
    between x c a b = grind (arith, ints)

module _ (sub : SubBox) where
  abbrev LikeCells : List StoredCell → Type 0
  LikeCells cells = All (λ c. length c.coords ≡ length sub.low) cells

  pub box_like : (c : StoredCell) → length c.coords ≡ length sub.low → IsLike sub (cell_box c)
  box_like c long = record { valid = same_bounds c.coords; dims = long }

  covers_from : (hull : SubBox) (cells : List StoredCell) → IsLike sub hull → LikeCells cells
      → Covers (hull_from hull cells) hull × All (λ c. IsTrue (is_in_box (hull_from hull cells) c.coords)) cells
  covers_from hull [] like all = ((λ coords inside. inside), All-nil (λ c. IsTrue (is_in_box hull c.coords)))
  covers_from hull (c ∷ cells) like all =
      let one = box_like c (All-head (λ c. length c.coords ≡ length sub.low) c cells all) in
      let is = IsHullOf-hull_of hull (cell_box c) like.valid one.valid (one.dims ∙ sym like.dims) in
      let rest = covers_from (hull_of hull (cell_box c)) cells (like_hull sub hull (cell_box c) like one) (All-tail (λ c. length c.coords ≡ length sub.low) c cells all) in (
        (λ coords inside. rest.0 coords (is.first coords inside)),
        All-cons (λ d. IsTrue (is_in_box (hull_from (hull_of hull (cell_box c)) cells) d.coords)) c cells (rest.0 c.coords (is.second c.coords (at_itself c.coords))) rest.1,
      )

  least_from : (outer hull : SubBox) (cells : List StoredCell) → IsLike sub hull → LikeCells cells → Covers outer hull → All (λ c. IsTrue (is_in_box outer c.coords)) cells → Covers outer (hull_from hull cells)
  least_from outer hull [] like all first others = first
  least_from outer hull (c ∷ cells) like all first others =
      let one = box_like c (All-head (λ c. length c.coords ≡ length sub.low) c cells all) in
      let is = IsHullOf-hull_of hull (cell_box c) like.valid one.valid (one.dims ∙ sym like.dims) in
      let here = All-head (λ c. IsTrue (is_in_box outer c.coords)) c cells others in
      let single : Covers outer (cell_box c) = λ coords inside. subst (λ z. IsTrue (is_in_box outer z)) (only_itself outer c.coords coords inside) here in
      least_from outer (hull_of hull (cell_box c)) cells (like_hull sub hull (cell_box c) like one) (All-tail (λ c. length c.coords ≡ length sub.low) c cells all)
      (is.least outer first single) (All-tail (λ c. IsTrue (is_in_box outer c.coords)) c cells others)

  -- the leaf of a tile is the hull of its cells
  pub leaf_is_hull : (c : StoredCell) (cells : List StoredCell) → LikeCells (c ∷ cells) → IsHullOfCells (leaf_of (c ∷ cells)) (c ∷ cells)
  leaf_is_hull c cells all =
      let one = box_like c (All-head (λ c. length c.coords ≡ length sub.low) c cells all) in
      let behind = All-tail (λ c. length c.coords ≡ length sub.low) c cells all in
      let is = covers_from (cell_box c) cells one behind in
      record {
        covers = All-cons (λ d. IsTrue (is_in_box (leaf_of (c ∷ cells)) d.coords)) c cells (is.0 c.coords (at_itself c.coords)) is.1;
        least = λ outer others.
            let here = All-head (λ c. IsTrue (is_in_box outer c.coords)) c cells others in
            least_from outer (cell_box c) cells one behind (λ coords inside. subst (λ z. IsTrue (is_in_box outer z)) (only_itself outer c.coords coords inside) here) (All-tail (λ c. IsTrue (is_in_box outer c.coords)) c cells others);
      }

  in_leaf : (head : StoredHead) (tile : List StoredCell) → LikeCells tile → IsInLeaf (cut_of head tile)
  in_leaf head [] all = All-nil (λ (v : Version). IsTrue (is_in_box (leaf_of []) v.coords))
  in_leaf head (c ∷ cells) all = versions (leaf_of (c ∷ cells)) (c ∷ cells) (leaf_is_hull c cells all).covers
    where
      versions : (leaf : SubBox) (tile : List StoredCell) → All (λ c. IsTrue (is_in_box leaf c.coords)) tile → All (λ v. IsTrue (is_in_box leaf v.coords)) (map (version_in head) tile)
      versions leaf [] inside = All-nil (λ v. IsTrue (is_in_box leaf v.coords))
      versions leaf (c ∷ tile) inside =
          All-cons (λ v. IsTrue (is_in_box leaf v.coords)) (version_in head c) (map (version_in head) tile) (All-head (λ c. IsTrue (is_in_box leaf c.coords)) c tile inside)
          (versions leaf tile (All-tail (λ c. IsTrue (is_in_box leaf c.coords)) c tile inside))

  all_in_leaf : (head : StoredHead) (tiles : List (List StoredCell)) → LikeCells (flat_map (λ t. t) tiles) → All IsInLeaf (map (cut_of head) tiles)
  all_in_leaf head [] all = All-nil IsInLeaf
  all_in_leaf head (t ∷ tiles) all =
      let parts = all_parts (λ c. length c.coords ≡ length sub.low) t (flat_map (λ t. t) tiles) all in
      All-cons IsInLeaf (cut_of head t) (map (cut_of head) tiles) (in_leaf head t parts.0) (all_in_leaf head tiles parts.1)

all_mapped_tiles : (head : StoredHead) (tiles : List (List StoredCell)) → all_versions (map (cut_of head) tiles) ≡ map (version_in head) (flat_map (λ t. t) tiles)
all_mapped_tiles head [] = refl
all_mapped_tiles head (t ∷ tiles) = ap (λ vs. map (version_in head) t ++ vs) (all_mapped_tiles head tiles) ∙ sym (map-append (version_in head) t (flat_map (λ t. t) tiles))

-- the tiles whose leaves meet the box have all that is wanted of the piece
sparse_suffices : (frame : Frame) (attrs : List Attr) (frag : FragKey) (s : StoredPiece) (sub : SubBox) (want : Want) → length sub.low ≡ length frame.domain → FitsSparse frame attrs frag s
    → taken_at want (map (map (version_in s.head)) (tiles_of frame.capacity s.cells)) (places_meeting want.sub (leaves_of frame.capacity s.cells)) ≡ taken want (map (version_in s.head) s.cells)
sparse_suffices frame attrs frag s sub want dims fits =
    let n = frame.capacity in
    let tiles = tiles_of n s.cells in
    let cuts = cuts_of n s.head s.cells in
    let long : All (λ c. length c.coords ≡ length sub.low) s.cells = All-weaker (FitsTypes frame.domain) (λ c. length c.coords ≡ length sub.low)
    (λ c f. EachFits-length _ frame.domain c.coords f ∙ sym dims) s.cells fits.typed in
    let inside = all_in_leaf sub s.head tiles (subst (λ cells. All (λ c. length c.coords ≡ length sub.low) cells) (sym (all_tiles n s.cells)) long) in
    let found = tiles_suffice want cuts inside in
    ap (λ parts. taken_at want parts (places_meeting want.sub (leaves_of n s.cells))) (sym (map-map (λ (t : CutOf). t.versions) (cut_of s.head) tiles))
    ∙ ap (λ leaves. taken_at want (versions_by_tile cuts) (places_meeting want.sub leaves)) (sym (map-map (λ (t : CutOf). t.leaf) (cut_of s.head) tiles))
    ∙ found
    ∙ ap (taken want) (all_mapped_tiles s.head tiles ∙ ap (map (version_in s.head)) (all_tiles n s.cells))

-- also of a want whose box has another number of dimensions
pub all_suffice : (frame : Frame) (attrs : List Attr) (frag : FragKey) (s : StoredPiece) (want : Want) → FitsSparse frame attrs frag s
    → taken_at want (map (map (version_in s.head)) (tiles_of frame.capacity s.cells)) (places_meeting want.sub (leaves_of frame.capacity s.cells)) ≡ taken want (map (version_in s.head) s.cells)
all_suffice frame attrs frag s want fits = sparse_suffices frame attrs frag s (record { low = map (λ (d : Dim). d.low) frame.domain; high = [] }) want (length-map frame.domain (λ (d : Dim). d.low)) fits
