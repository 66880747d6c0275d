-- A piece has one stored form, and is the piece of that form.
use Rattle.std.proofs.Common.{◌≡◌, ℕ, ◌<◌, ◌^◌, Bool, true, false, nat_lt, List, [], ◌∷◌, ◌++◌, Option, length, map, refl, sym, ap, ◌∙◌, subst}
use Rattle.std.specs.Bool.{beq}
use Rattle.std.specs.List.{All}
use Rattle.std.specs.List.Sorted.{IsStrictlySortedBy}
use Rattle.std.proofs.lemmas.Bool.{true≢false, and_parts, ltb-true}
use Rattle.ts_base.specs.declared.keys.FragKey.{FragKey}
use Rattle.ts_base.specs.declared.heads.Piece.{Piece}
use Rattle.ts_base.specs.declared.names.Part.{Part}
use Rattle.ts_base.specs.Keys.{key_cmp}
use Rattle.ts_wire.specs.Exact.{InTurn}
use Rattle.ts_schema.specs.declared.attrs.Attr.{Attr}
use Rattle.ts_schema.specs.declared.frames.Frame.{Frame}
use Rattle.ts_plain.specs.declared.stored.Side.{Side}
use Rattle.ts_plain.specs.declared.stored.StoredHead.{StoredHead}
use Rattle.ts_plain.specs.declared.stored.StoredCell.{StoredCell}
use Rattle.ts_plain.specs.declared.stored.StoredPiece.{StoredPiece}
use Rattle.ts_plain.specs.Rules.{volume, counted, last_of, origin_rises}
use Rattle.ts_plain.specs.Plain.{FitsCell}
use Rattle.ts_plain.specs.Pieces.{no_key, version_in, head_of, piece_of}
use Rattle.ts_plain.specs.Writes.{sides_of, stored_cell, hulled_for}
use Rattle.ts_plain.proofs.Places.{place_of-at}
use Rattle.ts_plain.proofs.Volumes.{counted_whole}
use Rattle.ts_plain.proofs.WrittenPieces.{origins_ascend}
use Rattle.ts_sparse.specs.Sparse.{IsThere}
use Rattle.ts_dense.specs.Dense.{parts_of, FitsDense, IsStored}

hull_back : (hull : List Side) → sides_of (map (λ (side : Side). side.low) hull) (map (λ (side : Side). side.high) hull) ≡ hull
hull_back [] = refl
hull_back (side ∷ hull) = ap (λ sides. side ∷ sides) (hull_back hull)

-- a dense head tells of the cells of its hull
told_dense : (any dense : Bool) (hull : List Side) (cells : ℕ) → any ≡ true → beq any dense ≡ true → cells ≡ volume hull → cells < 2 ^ 64 → counted dense hull cells ≡ cells
told_dense false dense hull cells is kind whole room = absurd (true≢false (sym is))
told_dense true false hull cells is kind whole room = absurd (true≢false (sym kind))
told_dense true true hull cells is kind whole room = counted_whole hull cells whole room

-- so does that of what can be stored in space tiles
pub dense_counts : (frame : Frame) (attrs : List Attr) (frag : FragKey) (s : StoredPiece) → FitsDense frame attrs frag s → counted s.head.dense s.head.hull s.head.cells ≡ s.head.cells
dense_counts frame attrs frag s fits = told_dense frame.dense s.head.dense s.head.hull s.head.cells fits.dense (fits.head).kind fits.counts_hull (fits.head).cells

module _ (frame : Frame) (attrs : List Attr) where
  -- a cell names its origin by the place that its key has
  cells_named : (head : StoredHead) (front cells : List StoredCell) → IsStrictlySortedBy key_cmp head.origins → InTurn (FitsCell frame attrs head) front cells
      → map (stored_cell head.origins) (map (version_in head) cells) ≡ cells
  cells_named head front [] up fits = refl
  cells_named head front (cell ∷ cells) up fits =
      let known = ltb-true cell.origin (length head.origins) (and_parts (nat_lt cell.origin (length head.origins)) (origin_rises frame.dense (last_of front) cell.coords cell.origin) fits.0.known).0 in
      let place = place_of-at head.origins cell.origin no_key up known in
      let rest = cells_named head (front ++ cell ∷ []) cells up fits.1 in
      λ i. record { coords = cell.coords; origin = place i; row = cell.row } ∷ rest i

  -- what is stored of the piece that parts hold is what the parts store
  pub stored_back : (frag : FragKey) (s : StoredPiece) → FitsDense frame attrs frag s → hulled_for (piece_of frag s) ≡ s
  unfolding piece_of head_of
  stored_back frag s fits =
      let up = origins_ascend frag s.head.consolidated s.head.origins (fits.head).some_origin (fits.head).origins in
      let hull = hull_back s.head.hull in
      let cells = cells_named s.head [] s.cells up fits.cells in
      let told = dense_counts frame attrs frag s fits in
      let head = s.head in
      λ i. record {
        head = record { schema = head.schema; dense = head.dense; consolidated = head.consolidated; hull = hull i; cells = told i; origins = head.origins };
        cells = cells i;
      }

  -- what is stored follows from the piece
  pub one_form : (frag : FragKey) (s t : StoredPiece) → FitsDense frame attrs frag s → FitsDense frame attrs frag t → piece_of frag s ≡ piece_of frag t → s ≡ t
  one_form frag s t fs ft same = sym (stored_back frag s fs) ∙ ap hulled_for same ∙ stored_back frag t ft

  -- and it is what is stored for the piece
  pub form_of : (piece : Piece) (look : Part → Option (List ℕ)) (is : IsStored frame attrs piece look) → is.stored ≡ hulled_for piece
  form_of piece look is = sym (ap hulled_for is.same ∙ stored_back piece.head.frag is.stored is.fits)

  -- so the parts of a piece are these, byte for byte
  pub one_spelling : (piece : Piece) (look : Part → Option (List ℕ)) → IsStored frame attrs piece look → All (IsThere look) (parts_of frame attrs (hulled_for piece))
  one_spelling piece look is = subst (λ s. All (IsThere look) (parts_of frame attrs s)) (form_of piece look is) is.parts
