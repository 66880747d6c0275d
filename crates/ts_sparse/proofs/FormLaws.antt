-- A piece has one stored form, and is the piece of that form.
use Rattle.std.proofs.Common.{◌≡◌, ℕ, ℤ, List, [], ◌∷◌, Option, length, map, refl, sym, ap, ◌∙◌, subst, arith}
use Rattle.std.specs.List.{All}
use Rattle.std.proofs.lemmas.List.Elements.{All-head, All-tail}
use Rattle.ts_base.specs.declared.keys.FragKey.{FragKey}
use Rattle.ts_base.specs.declared.heads.Piece.{Piece}
use Rattle.ts_base.specs.declared.heads.Version.{Version}
use Rattle.ts_base.specs.declared.names.Part.{Part}
use Rattle.ts_schema.specs.declared.attrs.Attr.{Attr}
use Rattle.ts_schema.specs.declared.frames.Frame.{Frame}
use Rattle.ts_plain.specs.declared.stored.Side.{Side}
use Rattle.ts_plain.specs.declared.stored.StoredHead.{StoredHead}
use Rattle.ts_plain.specs.declared.stored.StoredPiece.{StoredPiece}
use Rattle.ts_plain.specs.Rules.{counted}
use Rattle.ts_plain.specs.Pieces.{no_key, version_in, head_of, piece_of}
use Rattle.ts_plain.specs.Writes.{HasPlace, sides_of, counting_head, stored_cell, stored_for, CountsCells, NamesWrites}
use Rattle.ts_plain.proofs.Places.{at-place_of}
use Rattle.ts_plain.proofs.WrittenPieces.{stored_back}
use Rattle.ts_sparse.specs.Sparse.{parts_of, FitsSparse, IsThere, IsStored}

module _ (frame : Frame) (attrs : List Attr) where
  -- what is stored follows from the piece
  pub one_form : (frag : FragKey) (s t : StoredPiece) → FitsSparse frame attrs frag s → FitsSparse frame attrs frag t → piece_of frag s ≡ piece_of frag t → s ≡ t
  one_form frag s t fs ft same = sym (stored_back frame attrs frag s fs.plain) ∙ ap stored_for same ∙ stored_back frame attrs frag t ft.plain

  -- and it is what is stored for the piece
  pub form_of : (piece : Piece) (look : Part → Option (List ℕ)) (is : IsStored frame attrs piece look) → is.stored ≡ stored_for piece
  form_of piece look is = sym (ap stored_for is.same ∙ stored_back frame attrs piece.head.frag is.stored is.fits.plain)

  -- so the parts of a piece are these, byte for byte
  pub one_spelling : (piece : Piece) (look : Part → Option (List ℕ)) → IsStored frame attrs piece look → All (IsThere look) (parts_of frame attrs (stored_for piece))
  one_spelling piece look is = subst (λ s. All (IsThere look) (parts_of frame attrs s)) (form_of piece look is) is.parts

-- ---- a piece is that of its stored form

pub lows_back : (low high : List ℤ) → length high ≡ length low → map (λ (side : Side). side.low) (sides_of low high) ≡ low
lows_back [] high same = refl
lows_back (l ∷ low) [] same = absurd (omega (arith, same))
lows_back (l ∷ low) (h ∷ high) same = ap (λ ls. l ∷ ls) (lows_back low high (omega (arith, same)))

pub highs_back : (low high : List ℤ) → length high ≡ length low → map (λ (side : Side). side.high) (sides_of low high) ≡ high
highs_back [] [] same = refl
highs_back [] (h ∷ high) same = absurd (omega (arith, same))
highs_back (l ∷ low) [] same = absurd (omega (arith, same))
highs_back (l ∷ low) (h ∷ high) same = ap (λ hs. h ∷ hs) (highs_back low high (omega (arith, same)))

versions_back : (head : StoredHead) (versions : List Version) → All (λ (v : Version). HasPlace head.origins v.key) versions → All (λ (v : Version). v.schema ≡ head.schema) versions
    → versions ≡ map (version_in head) (map (stored_cell head.origins) versions)
versions_back head [] known schemas = refl
versions_back head (v ∷ versions) known schemas =
    let key = at-place_of head.origins v.key no_key (All-head (λ (v : Version). HasPlace head.origins v.key) v versions known) in
    let schema = All-head (λ (v : Version). v.schema ≡ head.schema) v versions schemas in
    let rest = versions_back head versions (All-tail (λ (v : Version). HasPlace head.origins v.key) v versions known) (All-tail (λ (v : Version). v.schema ≡ head.schema) v versions schemas) in
    let there = sym key in
    λ i. record { key = there i; schema = schema i; coords = v.coords; row = v.row } ∷ rest i

-- a piece whose versions are written in the schema of its head, where the head tells of as many cells as it has to of so many
pub counted_back : (piece : Piece) (many : ℕ) → NamesWrites piece → piece.head.cells ≡ counted piece.head.dense (sides_of piece.head.low piece.head.high) many
    → All (λ (v : Version). v.schema ≡ piece.head.schema) piece.versions
    → piece ≡ piece_of piece.head.frag (record { head = counting_head piece.head many; cells = map (stored_cell piece.head.origins) piece.versions })
unfolding piece_of head_of
counted_back piece many names told schemas =
    let head = piece.head in
    let low = sym (lows_back head.low head.high names.corners) in
    let high = sym (highs_back head.low head.high names.corners) in
    let versions = versions_back (counting_head head many) piece.versions names.known schemas in
    λ i. record {
      head = record { frag = head.frag; schema = head.schema; dense = head.dense; consolidated = head.consolidated; low = low i; high = high i; cells = told i; origins = head.origins };
      versions = versions i;
    }

-- such a piece is that of its stored form
pub piece_back : (piece : Piece) → NamesWrites piece → CountsCells piece → All (λ (v : Version). v.schema ≡ piece.head.schema) piece.versions → piece ≡ piece_of piece.head.frag (stored_for piece)
piece_back piece names counts schemas = counted_back piece (length piece.versions) names counts schemas
