-- What a fetch of all of a fragment takes can be written once more, with the head that was read.
use Rattle.std.proofs.Common.{◌≡◌, ℕ, ◌<◌, ◌≤◌, true, List, length, map, Ok, refl, sym, ap, ◌∙◌, subst, arith}
use Rattle.ts_base.specs.declared.keys.FragKey.{FragKey}
use Rattle.ts_base.specs.declared.heads.Head.{Head}
use Rattle.ts_base.specs.declared.heads.Piece.{Piece}
use Rattle.ts_base.specs.declared.heads.Version.{Version}
use Rattle.ts_base.specs.Names.{IsSpelledFrag}
use Rattle.ts_wire.specs.Exact.{IsBytes}
use Rattle.ts_wire.proofs.Laws.{goes_on}
use Rattle.ts_schema.specs.declared.attrs.Attr.{Attr}
use Rattle.ts_schema.specs.declared.frames.Frame.{Frame}
use Rattle.ts_schema.specs.FrameTexts.{IsFrame}
use Rattle.ts_schema.specs.SchemaTexts.{AreAttrs}
use Rattle.ts_schema.specs.Parts.{IsShort}
use Rattle.ts_schema.specs.Wants.{taken}
use Rattle.ts_plain.specs.declared.stored.StoredPiece.{StoredPiece}
use Rattle.ts_plain.specs.Pieces.{version_in, head_of, piece_of}
use Rattle.ts_plain.proofs.WrittenPieces.{stored_back}
use Rattle.ts_footer.specs.declared.footers.Footer.{Footer}
use Rattle.ts_footer.specs.Footers.{footer_stored}
use Rattle.ts_footer.specs.Metas.{meta_of, laid_meta_in, meta_in, head_in}
use Rattle.ts_footer.proofs.MetaObjects.{meta_found, only_head}
use Rattle.ts_model.specs.Consolidated.{IsStorable}
use Rattle.ts_model.specs.States.{all_of}
use Rattle.ts_actor.specs.PieceLaws.{TakesStorable}
use Rattle.ts_sparse.specs.Sparse.{FitsSparse}
use Rattle.ts_sparse_read.specs.TileReads.{is_among}
use Rattle.ts_sparse_read.specs.Opens.{used_in}
use Rattle.ts_sparse_read.specs.Codecs.{IsSparseStorable, sparse_codec}
use Rattle.ts_actor.specs.PlainSources.{fits_storable}
use Rattle.ts_sparse_read.specs.TakenCells.{taken_cells}
use Rattle.ts_sparse_read.specs.WholeTiles.{all_among, stored_of, whole_fits}
use Rattle.ts_actor.specs.PlainStores.{taken_whole, names_own}

-- ---- the head

-- the head that is read of an object is that of its metadata
head_same : (frame : Frame) (attrs : List Attr) (frag : FragKey) (object : List ℕ) (head : Head) (footer : Footer) → IsBytes object → IsShort object → footer_stored frame attrs frag object ≡ Ok footer
    → head_in frame frag object ≡ Ok head → head_of frag footer.head ≡ head
unfolding laid_meta_in meta_of head_of
head_same frame attrs frag object head footer all short read found =
    let meta : meta_in frame attrs frag object ≡ Ok (meta_of frag footer) =
    goes_on (footer_stored frame attrs frag object) (λ f. Ok (meta_of frag f)) footer (Ok (meta_of frag footer)) read refl in
    let was = meta_found frame attrs frag object (meta_of frag footer) all short meta in
    sym (only_head frame attrs (meta_of frag footer) frag object (Ok head) was.1 was.0 found)

-- ---- the piece

-- the piece of a stored form that keeps all rules can be written in tiles
piece_storable : (frame : Frame) (attrs : List Attr) (frag : FragKey) (stored : StoredPiece) → 1 ≤ length frame.domain → FitsSparse frame attrs frag stored → IsSparseStorable frame attrs (piece_of frag stored)
unfolding piece_of head_of
piece_storable frame attrs frag stored some fits =
    let back = stored_back frame attrs frag stored fits.plain in
    record {
      some_dim = some;
      fits = subst (FitsSparse frame attrs frag) (sym back) fits;
      same = ap (piece_of frag) (sym back);
    }

module _ (frame : Frame) (attrs : List Attr) (frag : FragKey) (stored : StoredPiece) where
  -- both ways
  both_storable : IsFrame frame → AreAttrs attrs → IsSpelledFrag frag → FitsSparse frame attrs frag stored → IsStorable frame attrs (piece_of frag stored) × IsSparseStorable frame attrs (piece_of frag stored)
  unfolding piece_of head_of
  both_storable is_frame are_attrs known fits =
      let own = names_own frame frag known stored.head (fits.plain).head in
      (fits_storable frame attrs (piece_of frag stored) stored is_frame are_attrs own fits.plain refl, piece_storable frame attrs frag stored (is_frame.domain).some fits)

  -- a head and versions that are those of the piece are the piece
  piece_same : (head : Head) (versions : List Version) → IsStorable frame attrs (piece_of frag stored) → head_of frag stored.head ≡ head
      → taken (all_of frame attrs) (map (version_in stored.head) stored.cells) ≡ versions → piece_of frag stored ≡ record { head = head; versions = versions }
  unfolding piece_of
  piece_same head versions storable heads took =
      let got : map (version_in stored.head) stored.cells ≡ versions = sym (taken_whole frame attrs (piece_of frag stored) storable) ∙ took in
      λ i. record { head = heads i; versions = got i }

-- ---- what a fetch takes

-- whatever replies come, what a fetch of all of a fragment takes can be written once more
pub sparse_stores : TakesStorable sparse_codec
sparse_stores frame s frag object head gots sizes versions is_frame are_attrs known all short read named ends =
    let want = all_of frame s.attrs in
    let took = taken_cells frame s frag object want gots sizes versions all short ends in
    let used = used_in frame s.attrs took.footer want.attrs in
    let among : (k : ℕ) → k < length s.attrs → is_among want.attrs k ≡ true = λ k within. all_among 0 (length s.attrs) k (omega arith) (omega (arith, within)) in
    let stored = stored_of frame s.attrs frag took.footer took.fits used want.attrs took.parts in
    let fits = whole_fits frame s.attrs frag took.footer took.fits used want.attrs is_frame are_attrs among took.parts took.are in
    let both = both_storable frame s.attrs frag stored is_frame are_attrs known fits in
    let heads = head_same frame s.attrs frag object head took.footer all short took.read read in
    let same = piece_same frame s.attrs frag stored head versions both.0 heads took.took in
    subst (λ (p : Piece). IsStorable frame s.attrs p × IsSparseStorable frame s.attrs p) same both
