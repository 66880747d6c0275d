-- The piece that dense tiles hold can be written once more: one write made it, or a consolidation.
use Rattle.std.proofs.Common.{◌≡◌, ℕ, suc, ◌^◌, ◌<◌, ◌≤◌, Bool, true, false, not, ◌&&◌, ◌||◌, cond, nat_lt, List, [], ◌∷◌, ◌++◌, length, map, filter, Option, Some, None, refl, sym, ap, ◌∙◌, subst, inl, inr, arith, ℤ}
use Rattle.std.specs.Prelude.{IsTrue}
use Rattle.std.specs.List.{All, AllByRecursion}
use Rattle.std.specs.Ordering.{is_gt}
use Rattle.std.specs.declared.cmp.Ordering.TheVariants.{Less}
use Rattle.std.proofs.lemmas.Bool.{true≢false, and_parts, and_from, lt-ltb, ltb-true, leb-true, eqb-true, false_from_ne_true}
use Rattle.std.proofs.lemmas.List.{length-map}
use Rattle.std.proofs.lemmas.List.Elements.{All-nil, All-cons, All-head, All-tail, All-contains}
use Rattle.std.proofs.lemmas.List.Sums.{length-filter, count_by-le-length}
use Rattle.ts_base.specs.declared.keys.FragKey.{FragKey}
use Rattle.ts_base.specs.declared.names.Part.{Part}
use Rattle.ts_base.specs.declared.values.Val.{Val}
use Rattle.ts_base.specs.declared.heads.Piece.{Piece}
use Rattle.ts_base.specs.declared.heads.Version.{Version}
use Rattle.ts_base.specs.Coords.{coords_eq}
use Rattle.ts_domain.specs.Boxes.{is_in_box}
use Rattle.ts_domain.specs.Dims.{IsSoundDim}
use Rattle.ts_domain.proofs.DomainLemmas.{All-IsDomain}
use Rattle.ts_order.proofs.InOrder.{InOrder}
use Rattle.ts_order.proofs.HullCells.{global_strict}
use Rattle.ts_wire.specs.Exact.{InTurn, EachFits}
use Rattle.ts_schema.specs.declared.attrs.Attr.{Attr}
use Rattle.ts_schema.specs.declared.frames.Frame.{Frame}
use Rattle.ts_schema.specs.declared.schemas.Schema.{Schema}
use Rattle.ts_schema.specs.declared.wants.Want.{Want}
use Rattle.ts_schema.specs.Wants.{is_wanted, cut, taken}
use Rattle.ts_schema.specs.FrameTexts.{IsFrame}
use Rattle.ts_schema.specs.SchemaTexts.{FitsAttr, AreAttrs}
use Rattle.ts_plain.specs.declared.stored.StoredHead.{StoredHead}
use Rattle.ts_plain.specs.declared.stored.StoredCell.{StoredCell}
use Rattle.ts_plain.specs.declared.stored.StoredPiece.{StoredPiece}
use Rattle.ts_plain.specs.Rules.{last_of, may_count, origin_rises}
use Rattle.ts_plain.specs.Plain.{FitsCoord, FitsValue, FitsCell, FitsPlain}
use Rattle.ts_plain.specs.Pieces.{version_in, head_of, piece_of}
use Rattle.ts_plain.specs.Writes.{box_of}
use Rattle.ts_plain.specs.Merges.{global_order}
use Rattle.ts_model.specs.Consolidated.{NamesOwn, IsMergedVersion, ComesBefore, IsConsolidated, IsStorable, Rise}
use Rattle.ts_model.specs.States.{all_of}
use Rattle.ts_actor.specs.PlainSources.{fits_storable}
use Rattle.ts_actor.specs.PlainStores.{taken_whole}
use Rattle.ts_sparse.specs.Cuts.{MayFollow, Rise as CellsRise}
use Rattle.ts_sparse.proofs.OrderLaws.{AllAlone, rises_in_turn}
use Rattle.ts_dense.specs.Slots.{coords_over, is_hole, cells_in, slots_of}
use Rattle.ts_dense.specs.Dense.{FitsDense, IsDense}
use Rattle.ts_dense.proofs.HullOrder.{coords_in_turn, coords_inside}
use Rattle.ts_dense.proofs.SlotLaws.{coords_decide, IsSlotOf, each_slot, cells_back, slots_of_many}
use Rattle.ts_dense.proofs.SpaceTiles.{coords_of, slots_stand}
use Rattle.ts_dense.proofs.FormLaws.{stored_back}
use Rattle.ts_sparse_read.specs.InOrder.{on_hull}
use Rattle.ts_dense_read.specs.SpaceCodecs.{IsSpaceStorable}

-- ---- cells in global order

module _ (frame : Frame) (attrs : List Attr) (head : StoredHead) where
  -- a cell on the sides of the hull, of one of the origins, with a value for each attribute
  pub record IsCell (c : StoredCell) : Type 0 where
    pub coords : EachFits FitsCoord head.hull c.coords
    pub known : c.origin < length head.origins
    pub row : EachFits FitsValue attrs c.row

  -- cells that keep all rules are such
  pub cells_are : (front cells : List StoredCell) → InTurn (FitsCell frame attrs head) front cells → All IsCell cells
  cells_are front [] fits = All-nil IsCell
  cells_are front (c ∷ cells) fits =
      let known = and_parts (nat_lt c.origin (length head.origins)) (origin_rises frame.dense (last_of front) c.coords c.origin) (fits.0).known in
      All-cons IsCell c cells (record { coords = (fits.0).coords; known = ltb-true c.origin (length head.origins) known.0; row = (fits.0).row }) (cells_are (front ++ c ∷ []) cells fits.1)

  -- what comes before other coordinates has others
  apart : (a b : List ℤ) → global_order frame a b ≡ Less → coords_eq a b ≡ false
  apart a b less =
      false_from_ne_true (coords_eq a b) (λ same. global_strict frame.domain frame.tile frame.cell b (subst (λ (x : List ℤ). global_order frame x b ≡ Less) ((coords_decide a b).0 same) less))

  -- a cell may stand behind one with earlier coordinates
  may_follow : (a b : StoredCell) → global_order frame a.coords b.coords ≡ Less → b.origin < length head.origins → MayFollow frame head (Some a) b
  may_follow a b less known = record {
    rises = ap (λ o. not (is_gt o)) less;
    known = and_from (nat_lt b.origin (length head.origins)) (origin_rises frame.dense (Some a) b.coords b.origin) (lt-ltb b.origin (length head.origins) known)
        (ap (λ same. not same || (not frame.dense && nat_lt a.origin b.origin)) (apart a.coords b.coords less));
  }

  -- cells in global order may stand one behind another, behind one that comes before them
  rise_from : (a : StoredCell) (cells : List StoredCell) → AllByRecursion (λ (y : List ℤ). global_order frame a.coords y ≡ Less) (coords_of cells) → InOrder (global_order frame) (coords_of cells) → All IsCell cells
      → CellsRise frame head (Some a) cells
  rise_from a [] less up all = tt
  rise_from a (c ∷ cells) less up all = (may_follow a c less.0 (All-head IsCell c cells all).known, rise_from c cells up.0 up.1 (All-tail IsCell c cells all))

  -- and so from the first on
  rise_all : (cells : List StoredCell) → InOrder (global_order frame) (coords_of cells) → All IsCell cells → CellsRise frame head None cells
  rise_all [] up all = tt
  rise_all (c ∷ cells) up all = (
    record {
      rises = refl;
      known = and_from (nat_lt c.origin (length head.origins)) (origin_rises frame.dense None c.coords c.origin) (lt-ltb c.origin (length head.origins) (All-head IsCell c cells all).known) refl;
    },
    rise_from c cells up.0 up.1 (All-tail IsCell c cells all),
  )

  -- each keeps what a cell keeps by itself
  alone_all : length head.origins < 256 ^ 4 → (cells : List StoredCell) → All IsCell cells → AllAlone frame head attrs cells
  alone_all few [] all = tt
  alone_all few (c ∷ cells) all =
      let is = All-head IsCell c cells all in
      let known = is.known in
      (record { coords = is.coords; origin = omega (arith, known, few); row = is.row }, alone_all few cells (All-tail IsCell c cells all))

  -- cells in global order keep all rules
  pub cells_in_turn : length head.origins < 256 ^ 4 → (cells : List StoredCell) → InOrder (global_order frame) (coords_of cells) → All IsCell cells → InTurn (FitsCell frame attrs head) [] cells
  cells_in_turn few cells up all = rises_in_turn frame head attrs [] cells (rise_all cells up all) (alone_all few cells all)

-- ---- holes filled

-- the fills of the attributes
abbrev fill_row : List Attr → List Val
fill_row attrs = map (λ (a : Attr). a.fill) attrs

-- each may stand under its attribute
fills : (front attrs : List Attr) → InTurn FitsAttr front attrs → EachFits FitsValue attrs (fill_row attrs)
fills front [] fits = tt
fills front (a ∷ attrs) fits = (((fits.0).value, (fits.0).fill), fills (front ++ a ∷ []) attrs fits.1)

module _ (attrs : List Attr) where
  -- the slot, where a hole is made a cell of the first write
  abbrev filled : StoredCell → StoredCell
  filled slot = cond (is_hole slot) (record { coords = slot.coords; origin = 0; row = fill_row attrs }) slot

  -- it stands where it stood
  filled_coords : (slots : List StoredCell) → coords_of (map filled slots) ≡ coords_of slots
  filled_coords [] = refl
  filled_coords (s ∷ slots) = ap (λ (x : List ℤ). x ∷ coords_of (map filled slots)) (by (is_hole s)) ∙ ap (λ (xs : List (List ℤ)). s.coords ∷ xs) (filled_coords slots)
    where
      by : (b : Bool) → (cond b (record { coords = s.coords; origin = 0; row = fill_row attrs }) s).coords ≡ s.coords
      by true = refl
      by false = refl

  module _ (head : StoredHead) where
    -- the versions of the cells are among those of the filled slots, in their order
    kept_all : (P : Version → Type 0) (slots : List StoredCell) → All P (map (version_in head) (map filled slots)) → All P (map (version_in head) (cells_in slots))
    kept_all P [] all = All-nil P
    kept_all P (s ∷ slots) all = by (is_hole s) all (λ more. kept_all P slots more)
      where
        fill : StoredCell
        fill = record { coords = s.coords; origin = 0; row = fill_row attrs }

        by : (b : Bool) → All P (version_in head (cond b fill s) ∷ map (version_in head) (map filled slots)) → (All P (map (version_in head) (map filled slots)) → All P (map (version_in head) (cells_in slots)))
            → All P (map (version_in head) (cond (not b) (s ∷ cells_in slots) (cells_in slots)))
        by true all more = more (All-tail P (version_in head fill) (map (version_in head) (map filled slots)) all)
        by false all more =
            let others = map (version_in head) (map filled slots) in
            All-cons P (version_in head s) (map (version_in head) (cells_in slots)) (All-head P (version_in head s) others all) (more (All-tail P (version_in head s) others all))

    kept_rise : (frame : Frame) (slots : List StoredCell) → Rise frame (map (version_in head) (map filled slots)) → Rise frame (map (version_in head) (cells_in slots))
    kept_rise frame [] rise = tt
    kept_rise frame (s ∷ slots) rise = by (is_hole s) rise (kept_rise frame slots rise.1)
      where
        fill : StoredCell
        fill = record { coords = s.coords; origin = 0; row = fill_row attrs }

        by : (b : Bool) → Rise frame (version_in head (cond b fill s) ∷ map (version_in head) (map filled slots)) → Rise frame (map (version_in head) (cells_in slots))
            → Rise frame (map (version_in head) (cond (not b) (s ∷ cells_in slots) (cells_in slots)))
        by true all more = more
        by false all more = (kept_all (ComesBefore frame (version_in head s)) slots all.0, more)

    kept_few : (slots : List StoredCell) → length (map (version_in head) (cells_in slots)) ≤ length (map (version_in head) (map filled slots))
    kept_few slots =
        let many = length-filter (λ (slot : StoredCell). not (is_hole slot)) slots in
        let below = count_by-le-length (λ (slot : StoredCell). not (is_hole slot)) slots in
        let first = length-map (cells_in slots) (version_in head) in
        let second = length-map (map filled slots) (version_in head) in
        let third = length-map slots filled in
        omega (arith, many, below, first, second, third)

-- ---- all is wanted

module _ (want : Want) where
  -- the version is wanted, and left as it is
  abbrev IsLeft : Version → Type 0
  IsLeft v = (is_wanted want v ≡ true) × (cut want v ≡ v)

  -- no more are taken than there are
  fewer : (vs : List Version) → length (taken want vs) ≤ length vs
  fewer vs = omega (arith, length-map (filter (is_wanted want) vs) (cut want), length-filter (is_wanted want) vs, count_by-le-length (is_wanted want) vs)

  -- where all versions are taken as they are, each is
  left_each : (vs : List Version) → taken want vs ≡ vs → All IsLeft vs
  left_each [] same = All-nil IsLeft
  left_each (v ∷ vs) same = by (is_wanted want v) refl same (λ rest. left_each vs rest)
    where
      by : (b : Bool) → is_wanted want v ≡ b → map (cut want) (cond b (v ∷ filter (is_wanted want) vs) (filter (is_wanted want) vs)) ≡ v ∷ vs → (taken want vs ≡ vs → All IsLeft vs) → All IsLeft (v ∷ vs)
      by true e h more =
          let here : cut want v ≡ v = cc (h) in
          let rest : taken want vs ≡ vs = cc (h) in
          All-cons IsLeft v vs (e, here) (more rest)
      by false e h more =
          let long : length (taken want vs) ≡ suc (length vs) = ap length h in
          absurd (omega (arith, long, fewer vs))

  -- and back
  left_all : (vs : List Version) → All IsLeft vs → taken want vs ≡ vs
  left_all [] all = refl
  left_all (v ∷ vs) all =
      let is = All-head IsLeft v vs all in
      ap (λ b. map (cut want) (cond b (v ∷ filter (is_wanted want) vs) (filter (is_wanted want) vs))) is.0 ∙ ap (λ (x : Version). x ∷ taken want vs) is.1
      ∙ ap (λ (ws : List Version). v ∷ ws) (left_all vs (All-tail IsLeft v vs all))

-- ---- what is stored, with its holes filled

module _ (frame : Frame) (attrs : List Attr) (frag : FragKey) (s : StoredPiece) (fits : FitsDense frame attrs frag s) (are_attrs : AreAttrs attrs) where
  -- its dimensions are sound
  sound : All IsSoundDim frame.domain
  sound = All-IsDomain frame.domain (fits.sound).domain

  -- there is an origin
  some_origin : 1 ≤ length s.head.origins
  some_origin = by s.head.consolidated refl
    where
      by : (b : Bool) → s.head.consolidated ≡ b → 1 ≤ length s.head.origins
      by true e = leb-true 1 (length s.head.origins) (subst (λ (c : Bool). may_count c (length s.head.origins) ≡ true) e (fits.head).some_origin)
      by false e = let one = eqb-true (length s.head.origins) 1 (subst (λ (c : Bool). may_count c (length s.head.origins) ≡ true) e (fits.head).some_origin) in omega (arith, one)

  -- each slot, a hole filled, is a cell
  filled_cells : (slots : List StoredCell) → All (IsSlotOf s.cells) slots → AllByRecursion (λ (x : List ℤ). IsTrue (is_in_box (box_of s.head.hull) x)) (coords_of slots) → All (IsCell frame attrs s.head) (map (filled attrs) slots)
  filled_cells [] of inside = All-nil (IsCell frame attrs s.head)
  filled_cells (t ∷ slots) of inside =
      All-cons (IsCell frame attrs s.head) (filled attrs t) (map (filled attrs) slots) (by (is_hole t) refl (All-head (IsSlotOf s.cells) t slots of)) (filled_cells slots (All-tail (IsSlotOf s.cells) t slots of) inside.1)
    where
      by : (b : Bool) → is_hole t ≡ b → IsSlotOf s.cells t → IsCell frame attrs s.head (cond b (record { coords = t.coords; origin = 0; row = fill_row attrs }) t)
      by true e is = record { coords = on_hull frame.domain s.head.hull t.coords (fits.head).hull inside.0; known = some_origin; row = fills [] attrs are_attrs.each }
      by false e (inl same) = absurd (true≢false (sym (ap is_hole same) ∙ e))
      by false e (inr is) = All-contains (IsCell frame attrs s.head) s.cells t (cells_are frame attrs s.head [] s.cells fits.cells) is

  -- the fragment with its holes filled
  abbrev whole : StoredPiece
  whole = record { head = s.head; cells = map (filled attrs) (slots_of frame s) }

  -- is one that a plain object could store
  whole_fits : FitsPlain frame attrs frag whole
  unfolding slots_of
  whole_fits =
      let slots = slots_of frame s in
      let same = sym (slots_stand frame attrs frag s fits) in
      let inside = subst (AllByRecursion (λ (x : List ℤ). IsTrue (is_in_box (box_of s.head.hull) x))) same (coords_inside frame s.head.hull sound (fits.head).hull) in
      let up = subst (InOrder (global_order frame)) (same ∙ sym (filled_coords attrs slots)) (coords_in_turn frame s.head.hull sound (fits.head).hull) in
      record {
        head = fits.head;
        count = length-map slots (filled attrs) ∙ slots_of_many frame attrs frag s fits ∙ sym fits.counts_hull;
        cells = cells_in_turn frame attrs s.head (fits.head).few_origins (map (filled attrs) slots) up (filled_cells slots (each_slot (coords_over frame (box_of s.head.hull)) s.cells) inside);
      }

  -- so it can be written once more
  whole_again : NamesOwn (head_of frag s.head) → IsStorable frame attrs (piece_of frag whole)
  unfolding piece_of head_of
  whole_again own = fits_storable frame attrs (piece_of frag whole) whole fits.sound are_attrs own whole_fits refl

  -- the same piece, its cells taken of its slots
  abbrev by_slots : StoredPiece
  by_slots = record { head = s.head; cells = cells_in (slots_of frame s) }

  -- is that piece
  slots_same : piece_of frag by_slots ≡ piece_of frag s
  slots_same = ap (λ (cells : List StoredCell). piece_of frag (record { head = s.head; cells = cells })) (cells_back frame attrs frag s fits)

  -- all versions are taken where all is wanted
  pub all_taken : NamesOwn (head_of frag s.head) → taken (all_of frame attrs) (map (version_in s.head) s.cells) ≡ map (version_in s.head) s.cells
  unfolding piece_of
  all_taken own =
      let want = all_of frame attrs in
      let each = left_each want (map (version_in s.head) (map (filled attrs) (slots_of frame s))) (taken_whole frame attrs (piece_of frag whole) (whole_again own)) in
      let kept = left_all want (map (version_in s.head) (cells_in (slots_of frame s))) (kept_all attrs s.head (IsLeft want) (slots_of frame s) each) in
      subst (λ (cells : List StoredCell). taken want (map (version_in s.head) cells) ≡ map (version_in s.head) cells) (cells_back frame attrs frag s fits) kept

  -- where a consolidation made it
  made_again : s.head.consolidated ≡ true → IsConsolidated frame attrs (piece_of frag whole) → IsConsolidated frame attrs (piece_of frag by_slots)
  unfolding piece_of head_of
  made_again made is =
      let slots = slots_of frame s in
      let below = kept_few attrs s.head slots in
      let few = is.few in
      record {
        is_frame = is.is_frame;
        are_attrs = is.are_attrs;
        schema = is.schema;
        consolidated = made;
        dense = is.dense;
        cells = λ sparse. absurd (true≢false (sym fits.dense ∙ sparse));
        whole = is.whole;
        some = is.some;
        few = omega (arith, below, few);
        low = is.low;
        high = is.high;
        corners = is.corners;
        are_keys = is.are_keys;
        few_origins = is.few_origins;
        ascend = is.ascend;
        span = is.span;
        versions = kept_all attrs s.head (IsMergedVersion frame attrs (head_of frag s.head)) slots is.versions;
        rise = kept_rise attrs s.head frame slots is.rise;
      }

  -- where one write made it, it has no hole
  write_again : s.head.consolidated ≡ false → NamesOwn (head_of frag s.head) → IsStorable frame attrs (piece_of frag s)
  unfolding piece_of head_of
  write_again ordinary own = fits_storable frame attrs (piece_of frag s) s fits.sound are_attrs own (record { head = fits.head; count = fits.no_hole ordinary; cells = fits.cells }) refl

  -- a piece whose stored form keeps all rules can be written once more
  pub dense_again : NamesOwn (head_of frag s.head) → IsStorable frame attrs (piece_of frag s)
  unfolding piece_of head_of
  dense_again own = by s.head.consolidated refl
    where
      consolidation : s.head.consolidated ≡ true → IsStorable frame attrs (piece_of frag whole) → IsStorable frame attrs (piece_of frag s)
      consolidation made (inl is) = absurd (true≢false (sym made ∙ is.consolidated))
      consolidation made (inr is) = inr (subst (IsConsolidated frame attrs) slots_same (made_again made is))

      by : (b : Bool) → s.head.consolidated ≡ b → IsStorable frame attrs (piece_of frag s)
      by true made = consolidation made (whole_again own)
      by false ordinary = write_again ordinary own

-- the piece of a stored form that keeps all rules can be written in space tiles
pub dense_storable : (frame : Frame) (attrs : List Attr) (frag : FragKey) (s : StoredPiece) → FitsDense frame attrs frag s → IsSpaceStorable frame attrs (piece_of frag s)
unfolding piece_of head_of
dense_storable frame attrs frag s fits =
    let back = stored_back frame attrs frag s fits in
    record { fits = subst (FitsDense frame attrs frag) (sym back) fits; same = ap (piece_of frag) (sym back) }

-- ---- what the parts hold

-- a piece that the parts hold can be written once more, in space tiles too
pub space_storable : (frame : Frame) (s : Schema) (p : Piece) (look : Part → Option (List ℕ)) → IsFrame frame → AreAttrs s.attrs → NamesOwn p.head → IsDense frame s p look
    → IsStorable frame s.attrs p × IsSpaceStorable frame s.attrs p
unfolding piece_of
space_storable frame s p look is_frame are_attrs own is =
    let names = subst (λ (q : Piece). NamesOwn q.head) is.same own in
    subst (λ (q : Piece). IsStorable frame s.attrs q × IsSpaceStorable frame s.attrs q) (sym is.same)
    (dense_again frame s.attrs p.head.frag is.stored is.fits are_attrs names, dense_storable frame s.attrs p.head.frag is.stored is.fits)
