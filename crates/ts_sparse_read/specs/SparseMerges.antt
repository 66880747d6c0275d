-- The piece of a consolidation of pieces that are written in tiles can be written in tiles.
use Rattle.std.proofs.Common.{◌≡◌, ℕ, ◌^◌, ◌<◌, ◌≤◌, List, [], ◌∷◌, length, map, sym, ap, ◌∙◌, subst, arith}
use Rattle.std.specs.Prelude.{IsTrue, Contains}
use Rattle.std.specs.List.{All}
use Rattle.std.proofs.lemmas.List.{length-map}
use Rattle.std.proofs.lemmas.List.Elements.{All-head, All-map, All-weaker}
use Rattle.ts_base.specs.declared.keys.Key.{Key}
use Rattle.ts_base.specs.declared.heads.Piece.{Piece}
use Rattle.ts_base.specs.declared.heads.Version.{Version}
use Rattle.ts_domain.specs.declared.dims.Dim.{Dim}
use Rattle.ts_domain.specs.declared.boxes.SubBox.{SubBox}
use Rattle.ts_domain.specs.Boxes.{is_in_box}
use Rattle.ts_domain.specs.Domains.{is_in_domain}
use Rattle.ts_domain.proofs.Between.{are_bounds-is_between, is_between-low, is_between-high}
use Rattle.ts_wire.proofs.Laws.{EachFits-length}
use Rattle.ts_schema.specs.FrameTexts.{IsFrame}
use Rattle.ts_schema.specs.SchemaTexts.{AreAttrs}
use Rattle.ts_schema.specs.declared.attrs.Attr.{Attr}
use Rattle.ts_schema.specs.declared.frames.Frame.{Frame}
use Rattle.ts_plain.specs.declared.stored.StoredCell.{StoredCell}
use Rattle.ts_plain.specs.Pieces.{head_of, piece_of}
use Rattle.ts_plain.specs.Writes.{stored_cell, stored_for}
use Rattle.ts_sparse.specs.Sparse.{leaf_of, FitsTypes}
use Rattle.ts_sparse.proofs.CutLaws.{leaf_is_hull}
use Rattle.ts_model.specs.Pieces.{IsTight}
use Rattle.ts_model.specs.Consolidated.{IsMergedVersion, IsConsolidated}
use Rattle.ts_model.specs.Merging.{AreSources, merged_piece}
use Rattle.ts_model.proofs.Counted.{counted_versions}
use Rattle.ts_model.proofs.ListLemmas.{Contains-here}
use Rattle.ts_model.proofs.MergedFits.{merged_first, sources_tight}
use Rattle.ts_actor.specs.PlainSources.{storable_some}
use Rattle.ts_actor.specs.PlainMerges.{consolidated_fits, merged_back}
use Rattle.ts_sparse_read.specs.Codecs.{IsSparseStorable}
use Rattle.ts_sparse_read.specs.SparseWrites.{LiesBetween, close_fits}

-- a box that has all cells has both corners of their leaf
leaf_within : (dims : List Dim) (origins : List Key) (vs : List Version) (sub : SubBox) → 1 ≤ length vs → All (FitsTypes dims) (map (stored_cell origins) vs) → All (λ (v : Version). IsTrue (is_in_box sub v.coords)) vs
    → IsTrue (is_in_box sub (leaf_of (map (stored_cell origins) vs)).low) × IsTrue (is_in_box sub (leaf_of (map (stored_cell origins) vs)).high)
leaf_within dims origins [] sub some typed inside = absurd (omega (arith, some))
leaf_within dims origins (v ∷ vs) sub some typed inside =
    let whole : SubBox = record { low = map (λ (d : Dim). d.low) dims; high = [] } in
    let cells = map (stored_cell origins) (v ∷ vs) in
    let leaf = leaf_of cells in
    let long : All (λ (c : StoredCell). length c.coords ≡ length whole.low) cells =
    All-weaker (FitsTypes dims) (λ (c : StoredCell). length c.coords ≡ length whole.low) (λ c fits. EachFits-length _ dims c.coords fits ∙ sym (length-map dims (λ (d : Dim). d.low))) cells typed in
    let is = leaf_is_hull whole (stored_cell origins v) (map (stored_cell origins) vs) long in
    let covered = is.least sub (All-map (λ (c : StoredCell). IsTrue (is_in_box sub c.coords)) (stored_cell origins) (v ∷ vs) inside) in
    let here = All-head (λ (c : StoredCell). IsTrue (is_in_box leaf c.coords)) (stored_cell origins v) (map (stored_cell origins) vs) is.covers in
    let bounds = are_bounds-is_between leaf.low leaf.high v.coords here in
    (covered leaf.low (is_between-low leaf.low leaf.high bounds), covered leaf.high (is_between-high leaf.low leaf.high bounds))

-- the leaf of a piece that is written in tiles has the corners of its head
leaf_corners : (frame : Frame) (attrs : List Attr) (q : Piece) → IsSparseStorable frame attrs q
    → ((leaf_of (stored_for q).cells).low ≡ q.head.low) × ((leaf_of (stored_for q).cells).high ≡ q.head.high)
unfolding piece_of head_of
leaf_corners frame attrs q is = (
  ap (λ (b : SubBox). b.low) (is.fits).tight ∙ sym (ap (λ (p : Piece). p.head.low) is.same),
  ap (λ (b : SubBox). b.high) (is.fits).tight ∙ sym (ap (λ (p : Piece). p.head.high) is.same),
)

-- no smaller box has the cells of a piece that is written in tiles
pub storable_tight : (frame : Frame) (attrs : List Attr) (q : Piece) → 1 ≤ length q.versions → IsSparseStorable frame attrs q → IsTight q.head.low q.head.high q.versions
storable_tight frame attrs q some is sub inside =
    let within = leaf_within frame.domain q.head.origins q.versions sub some (is.fits).typed inside in
    let corners = leaf_corners frame attrs q is in
    (subst (λ c. IsTrue (is_in_box sub c)) corners.0 within.0, subst (λ c. IsTrue (is_in_box sub c)) corners.1 within.1)

-- ---- the piece of a consolidation

-- a piece that can be written in tiles has a version
some_versions : (frame : Frame) (attrs : List Attr) (q : Piece) → IsFrame frame → AreAttrs attrs → IsSparseStorable frame attrs q → 1 ≤ length q.versions
some_versions frame attrs q is_frame are_attrs is = storable_some frame attrs q is_frame are_attrs (record { fits = (is.fits).plain; same = is.same })

-- what pieces are merged into that are written in tiles can be written in tiles too
pub sparse_merged : (frame : Frame) (attrs : List Attr) (id : ℕ) (p : Piece) (ps : List Piece) → AreSources frame attrs (p ∷ ps) → ((q : Piece) → Contains (p ∷ ps) q → IsSparseStorable frame attrs q)
    → IsConsolidated frame attrs (merged_piece frame id p ps) → (merged_piece frame id p ps).head.cells < 2 ^ 32 → IsSparseStorable frame attrs (merged_piece frame id p ps)
sparse_merged frame attrs id p ps are each is few =
    let made = merged_piece frame id p ps in
    let first = Contains-here p ps in
    let some = merged_first frame id p ps (some_versions frame attrs p are.is_frame are.are_attrs (each p first)) in
    let counted = counted_versions frame attrs made is in
    let fewer : length made.versions < 2 ^ 32 = omega (arith, counted, few) in
    let tight = sources_tight frame attrs id p ps are is.few is.few_origins (λ q at. storable_tight frame attrs q (some_versions frame attrs q are.is_frame are.are_attrs (each q at)) (each q at)) in
    close_fits frame attrs made is.is_frame is.are_attrs (consolidated_fits frame attrs made is some) (merged_back frame attrs made is) is.corners some fewer
    (All-weaker (IsMergedVersion frame attrs made.head) (λ (v : Version). IsTrue (is_in_domain frame.domain v.coords)) (λ v of. of.inside) made.versions is.versions)
    (All-weaker (IsMergedVersion frame attrs made.head) (LiesBetween made.head.low made.head.high) (λ v of. of.hull) made.versions is.versions)
    tight
