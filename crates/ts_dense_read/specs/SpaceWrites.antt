-- The piece that one write makes in a dense array can be written in space tiles.
use Rattle.std.proofs.Common.{◌≡◌, ℕ, ◌^◌, ◌<◌, ◌≤◌, true, false, nat_le, List, [], ◌∷◌, ◌++◌, length, sym, ap, ◌∙◌, subst, arith}
use Rattle.std.specs.List.{All}
use Rattle.std.proofs.lemmas.Bool.{and_parts, leb-true}
use Rattle.std.proofs.lemmas.List.{length-map}
use Rattle.ts_base.specs.declared.heads.Piece.{Piece}
use Rattle.ts_domain.specs.Dims.{IsSoundDim}
use Rattle.ts_domain.proofs.DomainLemmas.{All-IsDomain}
use Rattle.ts_order.proofs.TilesLemmas.{cells_of-tile_box, length-tiles_in}
use Rattle.ts_wire.specs.Exact.{InTurn, EachFits}
use Rattle.ts_schema.specs.declared.attrs.Attr.{Attr}
use Rattle.ts_schema.specs.declared.frames.Frame.{Frame}
use Rattle.ts_schema.specs.FrameTexts.{IsFrame}
use Rattle.ts_schema.specs.SchemaTexts.{AreAttrs}
use Rattle.ts_plain.specs.declared.stored.Side.{Side}
use Rattle.ts_plain.specs.declared.stored.StoredHead.{StoredHead}
use Rattle.ts_plain.specs.declared.stored.StoredCell.{StoredCell}
use Rattle.ts_plain.specs.Rules.{volume, counted}
use Rattle.ts_plain.specs.Plain.{FitsSide, FitsHead, FitsCell}
use Rattle.ts_plain.specs.Pieces.{head_of, piece_of}
use Rattle.ts_plain.specs.Writes.{box_of, stored_cell, stored_for, hulled_for}
use Rattle.ts_plain.proofs.Volumes.{counted_whole}
use Rattle.ts_dense.specs.Slots.{tiles_over}
use Rattle.ts_dense.proofs.HullOrder.{cells_of-box_of, hull_box}
use Rattle.ts_model.specs.Pieces.{IsClose, IsOrdinary}
use Rattle.ts_actor.specs.PlainWrites.{volume_between, ordinary_fits, ordinary_back}
use Rattle.ts_dense_read.specs.SpaceCodecs.{IsSpaceStorable}

-- ---- how many tiles

-- there are at most as many space tiles as cells of the hull
pub few_spaces : (frame : Frame) (hull : List Side) → All IsSoundDim frame.domain → EachFits FitsSide frame.domain hull → length (tiles_over frame (box_of hull)) ≤ volume hull
few_spaces frame hull sound fits =
    let box = hull_box frame.domain hull fits in
    let many = length-tiles_in frame.domain frame.tile (box_of hull) sound box.0 box.1 in
    let few = cells_of-tile_box frame.domain frame.tile (box_of hull) sound box.0 box.1 in
    omega (arith, many, few, cells_of-box_of hull)

-- ---- how many cells a head counts

-- a head that counts so many cells
abbrev counting : StoredHead → ℕ → StoredHead
counting head n = record head { cells = n }

-- the rules of cells do not ask how many the head counts
pub cells_counted : (frame : Frame) (attrs : List Attr) (head : StoredHead) (n : ℕ) (front cells : List StoredCell) → InTurn (FitsCell frame attrs head) front cells → InTurn (FitsCell frame attrs (counting head n)) front cells
cells_counted frame attrs head n front [] fits = tt
cells_counted frame attrs head n front (c ∷ cells) fits =
    let is = fits.0 in
    (record { coords = is.coords; rises = is.rises; origin = is.origin; known = is.known; row = is.row }, cells_counted frame attrs head n (front ++ c ∷ []) cells fits.1)

-- a head that counts as many keeps the same rules
head_counted : (frame : Frame) (p : Piece) (n : ℕ) → (stored_for p).head.cells ≡ n → FitsHead frame p.head.frag (stored_for p).head → FitsHead frame p.head.frag (counting (stored_for p).head n)
head_counted frame p n same fits = subst (λ m. FitsHead frame p.head.frag (counting (stored_for p).head m)) same fits

-- the head that is read of what is stored of a dense piece counts as many cells as its own
pub head_cells_back : (p : Piece) → p.head.dense ≡ true → p.head.cells ≡ volume (hulled_for p).head.hull → p.head.cells < 2 ^ 64 → p.head.cells ≡ (piece_of p.head.frag (hulled_for p)).head.cells
unfolding piece_of head_of
head_cells_back p dense whole few =
    let hull = (hulled_for p).head.hull in
    sym (ap (λ d. counted d hull p.head.cells) dense ∙ counted_whole hull p.head.cells whole few)

-- ---- the piece

-- a piece that a plain object holds is the one that what is stored of it in space tiles holds, where the heads count as many cells
pub hulled_back : (p : Piece) → p ≡ piece_of p.head.frag (stored_for p) → p.head.cells ≡ (piece_of p.head.frag (hulled_for p)).head.cells → p ≡ piece_of p.head.frag (hulled_for p)
unfolding piece_of head_of
hulled_back p same cells =
    let low = ap (λ (q : Piece). q.head.low) same in
    let high = ap (λ (q : Piece). q.head.high) same in
    let versions = ap (λ (q : Piece). q.versions) same in
    let head = p.head in
    λ i. record {
      head = record { frag = head.frag; schema = head.schema; dense = head.dense; consolidated = head.consolidated; low = low i; high = high i; cells = cells i; origins = head.origins };
      versions = versions i;
    }

-- a piece of a dense array whose stored form keeps all rules can be written in space tiles, where its head counts the cells of its hull, in 32 bits
pub hulled_fits : (frame : Frame) (attrs : List Attr) (p : Piece) → IsFrame frame → AreAttrs attrs → frame.dense ≡ true → p.head.dense ≡ frame.dense → FitsHead frame p.head.frag (hulled_for p).head
    → InTurn (FitsCell frame attrs (stored_for p).head) [] (stored_for p).cells → p ≡ piece_of p.head.frag (stored_for p) → p.head.cells ≡ volume (hulled_for p).head.hull → p.head.cells < 2 ^ 32
    → (p.head.consolidated ≡ false → length p.versions ≡ p.head.cells) → IsSpaceStorable frame attrs p
hulled_fits frame attrs p is_frame are_attrs dense kind head cells same whole few full =
    let long = length-map p.versions (stored_cell p.head.origins) in
    let tiles = few_spaces frame (hulled_for p).head.hull (All-IsDomain frame.domain is_frame.domain) head.hull in
    record {
      fits = record {
        sound = is_frame;
        dense = dense;
        head = head;
        counts_hull = whole;
        no_hole = λ single. long ∙ full single;
        cells = cells_counted frame attrs (stored_for p).head p.head.cells [] (stored_for p).cells cells;
        few_attrs = leb-true (length attrs) 64 (and_parts (nat_le 1 (length attrs)) (nat_le (length attrs) 64) are_attrs.count).1;
        few = omega (arith, tiles, whole, few);
      };
      same = hulled_back p same (head_cells_back p (kind ∙ dense) whole (omega (arith, few)));
    }

-- the piece that one write makes in a dense array can be written in space tiles
pub space_ordinary : (frame : Frame) (attrs : List Attr) (p : Piece) → frame.dense ≡ true → IsOrdinary frame attrs p → IsClose p → IsSpaceStorable frame attrs p
space_ordinary frame attrs p dense is close =
    let fits = ordinary_fits frame attrs p is in
    let counts : (stored_for p).head.cells ≡ p.head.cells = omega (arith, is.cells) in
    hulled_fits frame attrs p is.is_frame is.are_attrs dense is.dense (head_counted frame p p.head.cells counts fits.head) fits.cells (ordinary_back frame attrs p is)
    (is.whole dense ∙ sym (volume_between p.head.low p.head.high is.corners)) (omega (arith, is.cells, close.few)) (λ single. sym is.cells)
