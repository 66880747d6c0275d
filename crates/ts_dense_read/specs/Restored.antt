-- What a fetch of all of a fragment takes can be written once more, with the head that was read.
use Rattle.std.proofs.Common.{◌≡◌, ℕ, ◌<◌, Bool, true, false, not, cond, nat_le, nat_eq, List, [], ◌∷◌, length, map, Ok, Err, refl, sym, ap, ◌∙◌, subst, inl, inr, arith, ℤ}
use Rattle.std.specs.Prelude.{IsTrue, if◌then◌else◌}
use Rattle.std.specs.List.{flat_map, All, AllByRecursion}
use Rattle.std.proofs.lemmas.Bool.{true≢false, and_parts, leb-true, le-leb, eq-eqb}
use Rattle.std.proofs.lemmas.List.{length-map}
use Rattle.std.proofs.lemmas.List.Elements.{All-nil, All-cons, All-head, All-tail}
use Rattle.ts_base.specs.declared.keys.FragKey.{FragKey}
use Rattle.ts_base.specs.declared.heads.Head.{Head}
use Rattle.ts_base.specs.declared.heads.Piece.{Piece}
use Rattle.ts_base.specs.declared.heads.Version.{Version}
use Rattle.ts_base.specs.Names.{IsSpelledFrag}
use Rattle.ts_domain.specs.Boxes.{is_in_box}
use Rattle.ts_domain.specs.Dims.{IsSoundDim}
use Rattle.ts_domain.proofs.DomainLemmas.{All-IsDomain}
use Rattle.ts_order.proofs.InOrder.{InOrder, all_weaker}
use Rattle.ts_order.proofs.TilesLemmas.{length-tiles_in}
use Rattle.ts_wire.specs.Exact.{IsBytes, EachFits}
use Rattle.ts_wire.proofs.Laws.{goes_on}
use Rattle.ts_schema.specs.declared.attrs.Attr.{Attr}
use Rattle.ts_schema.specs.declared.frames.Frame.{Frame}
use Rattle.ts_schema.specs.FrameTexts.{IsFrame}
use Rattle.ts_schema.specs.SchemaTexts.{AreAttrs}
use Rattle.ts_schema.specs.Parts.{IsShort}
use Rattle.ts_schema.specs.Wants.{taken}
use Rattle.ts_plain.specs.declared.stored.StoredHead.{StoredHead}
use Rattle.ts_plain.specs.declared.stored.StoredCell.{StoredCell}
use Rattle.ts_plain.specs.declared.stored.StoredPiece.{StoredPiece}
use Rattle.ts_plain.specs.Rules.{volume, is_full, may_hold}
use Rattle.ts_plain.specs.Plain.{FitsCoord, FitsHead}
use Rattle.ts_plain.specs.Pieces.{version_in, head_of, piece_of}
use Rattle.ts_plain.specs.Writes.{box_of}
use Rattle.ts_plain.specs.Merges.{global_order}
use Rattle.ts_footer.specs.declared.footers.Footer.{Footer}
use Rattle.ts_footer.specs.declared.tilings.Tiling.TheVariants.{Dense}
use Rattle.ts_footer.specs.Footers.{dense_footer_stored, FitsDenseFooter}
use Rattle.ts_footer.specs.Metas.{meta_of, laid_meta_in, dense_meta_in, dense_head_in}
use Rattle.ts_footer.proofs.FooterReads.{some_cell}
use Rattle.ts_footer.proofs.MetaObjects.{laid_found, laid_meta_found, laid_only_head}
use Rattle.ts_model.specs.Consolidated.{IsStorable}
use Rattle.ts_model.specs.States.{all_of}
use Rattle.ts_actor.specs.PieceLaws.{TakesStorable}
use Rattle.ts_actor.specs.PlainStores.{names_own}
use Rattle.ts_dense.specs.Slots.{coords_over, no_origin, is_hole, cells_in}
use Rattle.ts_dense.specs.Dense.{FitsDense}
use Rattle.ts_dense.proofs.HullOrder.{hull_box, coords_many, coords_in_turn, coords_inside}
use Rattle.ts_dense.proofs.SpaceTiles.{coords_of}
use Rattle.ts_sparse_read.specs.TileReads.{is_among}
use Rattle.ts_sparse_read.specs.InOrder.{on_hull}
use Rattle.ts_sparse_read.specs.WholeTiles.{all_among}
use Rattle.ts_dense_read.specs.SpaceCodecs.{IsSpaceStorable, space_codec}
use Rattle.ts_dense_read.specs.ReadSlots.{taken_slots}
use Rattle.ts_dense_read.specs.InOrder.{kept_in_order}
use Rattle.ts_dense_read.specs.KnownOrigins.{IsKnown}
use Rattle.ts_dense_read.specs.WholeSlots.{IsRead, AreWhole, counts_hull, slots_whole}
use Rattle.ts_dense_read.specs.SpaceStores.{IsCell, cells_in_turn, all_taken, dense_again, dense_storable}

-- ---- the head

-- the head that is read of an object is that of its metadata
head_same : (frame : Frame) (attrs : List Attr) (frag : FragKey) (object : List ℕ) (head : Head) (footer : Footer) → IsBytes object → IsShort object → dense_footer_stored frame attrs frag object ≡ Ok footer
    → dense_head_in frame frag object ≡ Ok head → head_of frag footer.head ≡ head
unfolding laid_meta_in meta_of head_of
head_same frame attrs frag object head footer all short read found =
    let meta : dense_meta_in frame attrs frag object ≡ Ok (meta_of frag footer) =
    goes_on (dense_footer_stored frame attrs frag object) (λ f. Ok (meta_of frag f)) footer (Ok (meta_of frag footer)) read refl in
    let was = laid_meta_found Dense frame attrs frag object (meta_of frag footer) all short meta in
    sym (laid_only_head Dense frame attrs (meta_of frag footer) frag object (Ok head) was.1 was.0 found)

-- ---- slots with cells

-- slots none of which is a hole are cells
all_cells : (slots : List StoredCell) → All (λ (s : StoredCell). s.origin ≡ 0) slots → cells_in slots ≡ slots
all_cells [] first = refl
all_cells (s ∷ slots) first =
    let none : is_hole s ≡ false = ap (λ (origin : ℕ). nat_eq origin no_origin) (All-head (λ (s : StoredCell). s.origin ≡ 0) s slots first) in
    ap (λ b. cond (not b) (s ∷ cells_in slots) (cells_in slots)) none ∙ ap (λ (more : List StoredCell). s ∷ more) (all_cells slots (All-tail (λ (s : StoredCell). s.origin ≡ 0) s slots first))

module _ (frame : Frame) (attrs : List Attr) (head : StoredHead) where
  -- in an ordinary fragment each slot is of the first write
  first_each : head.consolidated ≡ false → (slots : List StoredCell) → All (IsRead attrs head) slots → All (λ (s : StoredCell). s.origin ≡ 0) slots
  first_each ordinary [] all = All-nil (λ (s : StoredCell). s.origin ≡ 0)
  first_each ordinary (s ∷ slots) all =
      All-cons (λ (s : StoredCell). s.origin ≡ 0) s slots ((All-head (IsRead attrs head) s slots all).first ordinary) (first_each ordinary slots (All-tail (IsRead attrs head) s slots all))

  -- a slot on the sides of the hull that is no hole is a cell
  cell_of : (s : StoredCell) → is_hole s ≡ false → EachFits FitsCoord head.hull s.coords → IsRead attrs head s → IsCell frame attrs head s
  cell_of s full on is = record { coords = on; known = by is.known; row = is.row }
    where
      by : IsKnown (length head.origins) s.origin → s.origin < length head.origins
      by (inl below) = below
      by (inr none) = absurd (true≢false (sym (ap (λ (origin : ℕ). nat_eq origin no_origin) none) ∙ full))

  -- the slots that are no holes are cells
  cells_each : (slots : List StoredCell) → All (IsRead attrs head) slots → AllByRecursion (λ (x : List ℤ). EachFits FitsCoord head.hull x) (coords_of slots) → All (IsCell frame attrs head) (cells_in slots)
  cells_each [] all on = All-nil (IsCell frame attrs head)
  cells_each (s ∷ slots) all on = by (is_hole s) refl (cells_each slots (All-tail (IsRead attrs head) s slots all) on.1)
    where
      by : (b : Bool) → is_hole s ≡ b → All (IsCell frame attrs head) (cells_in slots) → All (IsCell frame attrs head) (cond (not b) (s ∷ cells_in slots) (cells_in slots))
      by true e rest = rest
      by false e rest = All-cons (IsCell frame attrs head) s (cells_in slots) (cell_of s e on.0 (All-head (IsRead attrs head) s slots all)) rest

-- ---- what was read keeps all rules

module _ (frame : Frame) (attrs : List Attr) (frag : FragKey) (footer : Footer) (fits : FitsDenseFooter frame attrs frag footer) (is_frame : IsFrame frame) (are_attrs : AreAttrs attrs) (dense : frame.dense ≡ true) where
  -- the dimensions are sound
  sound : All IsSoundDim frame.domain
  sound = All-IsDomain frame.domain is_frame.domain

  -- the metadata counts the cells of the hull
  counts : (footer.head).cells ≡ volume (footer.head).hull
  counts = counts_hull frame attrs frag footer fits is_frame.domain

  -- its head has the cells of its hull, so it is that of a plain fragment too
  head_fits : FitsHead frame frag footer.head
  head_fits =
      let h = fits.head in
      record { schema = h.schema; kind = h.kind; span = h.span; hull = h.hull; cells = h.cells; as_many = by (is_full frame.dense (footer.head).consolidated); few_origins = h.few_origins; some_origin = h.some_origin; origins = h.origins }
    where
      by : (b : Bool) → may_hold b (footer.head).hull (footer.head).cells ≡ true
      by true = eq-eqb (footer.head).cells (volume (footer.head).hull) counts
      by false = le-leb 1 (footer.head).cells (some_cell _ frame frag footer.head fits.head)

  -- the head of the metadata with the cells of these slots
  abbrev stored_of : List StoredCell → StoredPiece
  stored_of slots = record { head = footer.head; cells = cells_in slots }

  -- with those of all slots of the hull, of which all attributes were read, it keeps all rules
  whole_fits : (slots : List StoredCell) → AreWhole attrs footer.head (coords_over frame (box_of footer.head.hull)) slots → FitsDense frame attrs frag (stored_of slots)
  whole_fits slots are =
      let hull = (footer.head).hull in
      let box = hull_box frame.domain hull (fits.head).hull in
      let same = sym are.stands in
      let up = subst (InOrder (global_order frame)) same (coords_in_turn frame hull sound (fits.head).hull) in
      let on = all_weaker (λ (x : List ℤ). IsTrue (is_in_box (box_of hull) x)) (λ (x : List ℤ). EachFits FitsCoord hull x) (coords_over frame (box_of hull)) (λ x inside. on_hull frame.domain hull x (fits.head).hull inside)
      (coords_inside frame hull sound (fits.head).hull) in
      let long : length slots ≡ (footer.head).cells = sym (length-map slots (λ (c : StoredCell). c.coords)) ∙ ap length are.stands ∙ coords_many frame hull sound (fits.head).hull ∙ sym counts in
      let tiles = length-tiles_in frame.domain frame.tile (box_of hull) sound box.0 box.1 in
      let total = fits.tiles in
      let few = fits.few in
      record {
        sound = is_frame;
        dense = dense;
        head = head_fits;
        counts_hull = counts;
        no_hole = λ ordinary. ap length (all_cells slots (first_each frame attrs footer.head ordinary slots are.each)) ∙ long;
        cells = cells_in_turn frame attrs footer.head (fits.head).few_origins (cells_in slots) (kept_in_order (global_order frame) slots up)
            (cells_each frame attrs footer.head slots are.each (subst (AllByRecursion (λ (x : List ℤ). EachFits FitsCoord hull x)) same on));
        few_attrs = leb-true (length attrs) 64 (and_parts (nat_le 1 (length attrs)) (nat_le (length attrs) 64) are_attrs.count).1;
        few = omega (arith, tiles, total, few);
      }

-- ---- the piece

module _ (frame : Frame) (attrs : List Attr) (frag : FragKey) (stored : StoredPiece) where
  -- it can be written once more, in space tiles too
  both_storable : IsFrame frame → AreAttrs attrs → IsSpelledFrag frag → FitsDense frame attrs frag stored → IsStorable frame attrs (piece_of frag stored) × IsSpaceStorable frame attrs (piece_of frag stored)
  both_storable is_frame are_attrs known fits =
      (dense_again frame attrs frag stored fits are_attrs (names_own frame frag known stored.head fits.head), dense_storable frame attrs frag stored fits)

  -- a head and versions that are those of the piece are the piece
  piece_same : (head : Head) (versions : List Version) → taken (all_of frame attrs) (map (version_in stored.head) stored.cells) ≡ map (version_in stored.head) stored.cells → head_of frag stored.head ≡ head
      → taken (all_of frame attrs) (map (version_in stored.head) stored.cells) ≡ versions → piece_of frag stored ≡ record { head = head; versions = versions }
  unfolding piece_of
  piece_same head versions left heads took =
      let got : map (version_in stored.head) stored.cells ≡ versions = sym left ∙ took in
      λ i. record { head = heads i; versions = got i }

-- ---- what a fetch takes

-- whatever replies come, what a fetch of all of a fragment takes can be written once more
pub space_stores : TakesStorable space_codec
space_stores frame s frag object head gots sizes versions is_frame are_attrs known all short read named ends =
    let want = all_of frame s.attrs in
    let took = taken_slots frame s frag object want gots sizes versions ends in
    let fits = (laid_found Dense frame s.attrs frag object took.footer all short took.read).0 in
    let among : (k : ℕ) → k < length s.attrs → is_among want.attrs k ≡ true = λ k within. all_among 0 (length s.attrs) k (omega arith) (omega (arith, within)) in
    let slots = flat_map (λ (t : List StoredCell). t) took.parts in
    let are = slots_whole frame s.attrs frag took.footer fits is_frame.domain want.attrs among took.got took.parts took.ranges took.are in
    let stored : StoredPiece = record { head = took.footer.head; cells = cells_in slots } in
    let keeps = whole_fits frame s.attrs frag took.footer fits is_frame are_attrs took.dense slots are in
    let both = both_storable frame s.attrs frag stored is_frame are_attrs known keeps in
    let head_read : dense_head_in frame frag object ≡ Ok head = subst (λ b. (if b then dense_head_in frame frag object else Err 0) ≡ Ok head) took.dense read in
    let heads = head_same frame s.attrs frag object head took.footer all short took.read head_read in
    let left = all_taken frame s.attrs frag stored keeps are_attrs (names_own frame frag known took.footer.head keeps.head) in
    let same = piece_same frame s.attrs frag stored head versions left heads took.took in
    subst (λ (p : Piece). IsStorable frame s.attrs p × IsSpaceStorable frame s.attrs p) same both
