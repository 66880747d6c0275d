-- The leaves of a piece, and the body of its metadata.
use Rattle.std.proofs.Common.{◌≡◌, ℕ, zero, suc, ◌-◌, ◌≤◌, Bool, true, false, List, [], ◌∷◌, ◌++◌, length, map, sym, ap, ◌∙◌, subst, arith}
use Rattle.std.specs.Prelude.{◌≤ℤ◌, int_le}
use Rattle.std.specs.List.{flat_map, All}
use Rattle.std.proofs.lemmas.Bool.{eqb-true, leb-true, and_parts}
use Rattle.std.proofs.lemmas.Int.{ints}
use Rattle.std.proofs.lemmas.Nat.{mul-le}
use Rattle.std.proofs.lemmas.List.{length-map}
use Rattle.std.proofs.lemmas.List.Elements.{All-weaker, All-map}
use Rattle.std.proofs.lemmas.Simd.{map-map}
use Rattle.ts_base.specs.declared.keys.FragKey.{FragKey}
use Rattle.ts_base.specs.declared.heads.Piece.{Piece}
use Rattle.ts_domain.specs.declared.boxes.SubBox.{SubBox}
use Rattle.ts_domain.specs.declared.dims.Dim.{Dim}
use Rattle.ts_domain.specs.Bounds.{count_between}
use Rattle.ts_domain.specs.Rects.{IsLike, AllLike, rect_bytes}
use Rattle.ts_rtree.specs.Trees.{hulls_from, hulls_of, nodes_of}
use Rattle.ts_rtree.proofs.Likes.{hulls_of-like}
use Rattle.ts_wire.specs.Exact.{EachFits}
use Rattle.ts_wire.specs.Numbers.{number_bytes}
use Rattle.ts_wire.proofs.Laws.{EachFits-length}
use Rattle.ts_schema.specs.declared.attrs.Attr.{Attr}
use Rattle.ts_schema.specs.declared.frames.Frame.{Frame}
use Rattle.ts_plain.specs.declared.stored.Side.{Side}
use Rattle.ts_plain.specs.declared.stored.StoredCell.{StoredCell}
use Rattle.ts_plain.specs.declared.stored.StoredPiece.{StoredPiece}
use Rattle.ts_plain.specs.Plain.{head_bytes, FitsSide}
use Rattle.ts_plain.specs.Rules.{volume, is_full, may_hold}
use Rattle.ts_plain.specs.Writes.{stored_cell, stored_for}
use Rattle.ts_plain.proofs.Volumes.{count_is}
use Rattle.ts_sparse.specs.Tilings.{tiles_of}
use Rattle.ts_sparse.specs.Sparse.{cell_box, leaf_of, leaves_of, objects_of, sizes_of, meta_bytes, FitsTypes, FitsSparse}
use Rattle.ts_sparse.specs.Laying.{cells_of, box_of_version, boxes_of, meta_with}
use Rattle.ts_sparse.proofs.HullLaws.{leaves_are_hulls}
use Rattle.ts_sparse.proofs.CutLaws.{box_like}

-- ---- the metadata is that of the sizes of its objects

pub meta_same : (frame : Frame) (attrs : List Attr) (piece : Piece) → meta_with frame piece (sizes_of (objects_of frame attrs (stored_for piece))) ≡ meta_bytes frame attrs (stored_for piece)
unfolding meta_with meta_bytes
meta_same frame attrs piece =
    let head = head_bytes (stored_for piece).head in
    let rest = flat_map (number_bytes 8) (sizes_of (objects_of frame attrs (stored_for piece))) ++ flat_map rect_bytes (nodes_of (leaves_of frame.capacity (cells_of piece))) in
    ap (λ n. head ++ (number_bytes 4 n ++ rest)) (length-map (tiles_of frame.capacity (cells_of piece)) leaf_of)

-- ---- leaves

boxes_same : (piece : Piece) → map cell_box (cells_of piece) ≡ boxes_of piece.versions
boxes_same piece = map-map cell_box (stored_cell piece.head.origins) piece.versions

pub leaves_same : (n : ℕ) (piece : Piece) → hulls_of n (boxes_of piece.versions) ≡ leaves_of n (cells_of piece)
leaves_same n piece = ap (hulls_of n) (sym (boxes_same piece)) ∙ sym (leaves_are_hulls n (cells_of piece))

some_from : (rest left : ℕ) (hull : SubBox) (bs : List SubBox) → 1 ≤ length (hulls_from rest left hull bs)
some_from rest left hull [] = omega arith
some_from rest zero hull (b ∷ bs) = omega arith
some_from rest (suc left) hull (b ∷ bs) = some_from rest left _ bs

pub some_hulls : (n : ℕ) (boxes : List SubBox) → 1 ≤ length boxes → 1 ≤ length (hulls_of n boxes)
some_hulls n [] some = absurd (omega (arith, some))
some_hulls n (b ∷ bs) some = some_from (n - 1) (n - 1) b bs

-- ---- there is a cell

-- a hull of sides that fit has a cell
some_volume : (dims : List Dim) (hull : List Side) → EachFits FitsSide dims hull → 1 ≤ volume hull
some_volume [] [] fits = omega arith
some_volume [] (side ∷ hull) fits = absurd fits
some_volume (d ∷ dims) [] fits = absurd fits
some_volume (d ∷ dims) (side ∷ hull) fits =
    let on = fits.0 in
    let up = and_parts (int_le side.low side.high) (int_le side.high d.high) on.high.1 in
    let rises : side.low ≤ℤ side.high = grind (arith, ints, up) in
    mul-le 1 1 (count_between side.low side.high) (volume hull) (count_is side.low side.high rises).0 (some_volume dims hull fits.1)

some_held : (full : Bool) (hull : List Side) (cells : ℕ) → 1 ≤ volume hull → may_hold full hull cells ≡ true → 1 ≤ cells
some_held true hull cells some held = let same = eqb-true cells (volume hull) held in omega arith
some_held false hull cells some held = leb-true 1 cells held

-- what is stored has a cell
some_cells : (frame : Frame) (attrs : List Attr) (frag : FragKey) (s : StoredPiece) → FitsSparse frame attrs frag s → 1 ≤ length s.cells
some_cells frame attrs frag s fits =
    let head = (fits.plain).head in
    let held = some_held (is_full frame.dense s.head.consolidated) s.head.hull s.head.cells (some_volume frame.domain s.head.hull head.hull) head.as_many in
    let count : length s.cells ≡ s.head.cells = (fits.plain).count in
    omega arith

-- so its tree has a leaf
pub some_leaves : (frame : Frame) (attrs : List Attr) (frag : FragKey) (s : StoredPiece) → FitsSparse frame attrs frag s → 1 ≤ length (leaves_of frame.capacity s.cells)
some_leaves frame attrs frag s fits =
    let some = some_hulls frame.capacity (map cell_box s.cells) (omega (arith, some_cells frame attrs frag s fits, length-map s.cells cell_box)) in
    subst (λ (boxes : List SubBox). 1 ≤ length boxes) (sym (leaves_are_hulls frame.capacity s.cells)) some

-- ---- what a stored piece that fits says of its leaves

module _ (frame : Frame) (attrs : List Attr) (frag : FragKey) (piece : Piece) (fits : FitsSparse frame attrs frag (stored_for piece)) where
  pub some_versions : 1 ≤ length piece.versions
  some_versions =
      let long = length-map piece.versions (stored_cell piece.head.origins) in
      omega (arith, long, some_cells frame attrs frag (stored_for piece) fits)

  -- they have as many dimensions as the domain
  like : SubBox
  like = record { low = map (λ (d : Dim). d.low) frame.domain; high = [] }

  all_like : All (IsLike like) (boxes_of piece.versions)
  unfolding like
  all_like =
      let each = All-weaker (FitsTypes frame.domain) (λ (c : StoredCell). IsLike like (cell_box c))
      (λ c f. box_like like c (EachFits-length _ frame.domain c.coords f ∙ sym (length-map frame.domain (λ (d : Dim). d.low)))) (cells_of piece) fits.typed in
      subst (All (IsLike like)) (boxes_same piece) (All-map (IsLike like) cell_box (cells_of piece) each)

  pub boxes_alike : AllLike (boxes_of piece.versions)
  boxes_alike = (like, all_like)

  pub leaves_alike : AllLike (hulls_of frame.capacity (boxes_of piece.versions))
  leaves_alike = (like, hulls_of-like like frame.capacity (boxes_of piece.versions) all_like)

  pub leaves_there : 1 ≤ length (hulls_of frame.capacity (boxes_of piece.versions))
  leaves_there = let long = length-map piece.versions box_of_version in some_hulls frame.capacity (boxes_of piece.versions) (omega (arith, long, some_versions))
