-- The piece that a plain object holds can be written once more: one write made it, or a consolidation.
use Rattle.std.proofs.Common.{◌≡◌, ℕ, zero, suc, ◌*◌, ℤ, Bool, true, false, ◌&&◌, nat_lt, List, [], ◌∷◌, ◌++◌, length, map, get_or, Some, inl, inr, refl, sym, ap, ◌∙◌, subst, arith}
use Rattle.std.specs.Prelude.{IsTrue, Contains, int_le, nat_eq, not, ◌||◌, ◌<◌, ◌≤◌, ◌+◌, ◌-◌, ◌^◌, min}
use Rattle.std.specs.List.{All, AllByRecursion}
use Rattle.std.specs.List.Sorted.{IsStrictlySortedBy}
use Rattle.std.specs.Bool.{beq}
use Rattle.std.specs.Cmp.{tied_itself}
use Rattle.std.specs.Cmp.Lexicographic.{lists_equiv}
use Rattle.std.specs.Ordering.{is_lt, is_gt, ordering_then}
use Rattle.std.specs.declared.cmp.Ordering.{Ordering}
use Rattle.std.specs.declared.cmp.Ordering.TheVariants.{Less, Equal, Greater}
use Rattle.std.proofs.Math.Nat.{mul-le-mul_left}
use Rattle.std.proofs.lemmas.Int.{ints}
use Rattle.std.proofs.lemmas.Bool.{true≢false, and_parts, and_from, eq-eqb, eqb-true, leb-true, ltb-true}
use Rattle.std.proofs.lemmas.Cmp.{int_eq_equiv}
use Rattle.std.proofs.lemmas.List.{length-map, length_push}
use Rattle.std.proofs.lemmas.Option.{slice_get-get_or}
use Rattle.std.proofs.lemmas.List.Elements.{All-nil, All-cons, All-head, All-tail, All-weaker}
use Rattle.std.proofs.lemmas.Map.Keys.{sorted_tail, Less-from_sorted}
use Rattle.ts_base.specs.declared.keys.Key.{Key}
use Rattle.ts_base.specs.declared.keys.FragKey.{FragKey}
use Rattle.ts_base.specs.declared.values.Val.{Val}
use Rattle.ts_base.specs.declared.heads.Head.{Head}
use Rattle.ts_base.specs.declared.heads.Piece.{Piece}
use Rattle.ts_base.specs.declared.heads.Version.{Version}
use Rattle.ts_base.specs.Keys.{key_cmp, frag_of}
use Rattle.ts_base.specs.Coords.{coords_eq}
use Rattle.ts_base.specs.Exact.{key_total}
use Rattle.ts_domain.specs.declared.dims.Dim.{Dim}
use Rattle.ts_domain.specs.Bounds.{count_between, is_between, are_bounds, cells_between}
use Rattle.ts_domain.specs.Domains.{is_in_domain}
use Rattle.ts_domain.proofs.Between.{count_between-le, are_bounds-cons}
use Rattle.ts_order.proofs.OrderLemmas.{global_total, global_cmp-exact}
use Rattle.ts_wire.specs.Exact.{InTurn, EachFits}
use Rattle.ts_schema.specs.declared.attrs.Attr.{Attr}
use Rattle.ts_schema.specs.declared.frames.Frame.{Frame}
use Rattle.ts_schema.specs.FrameTexts.{IsFrame}
use Rattle.ts_schema.specs.SchemaTexts.{AreAttrs}
use Rattle.ts_plain.specs.declared.stored.Side.{Side}
use Rattle.ts_plain.specs.declared.stored.StoredHead.{StoredHead}
use Rattle.ts_plain.specs.declared.stored.StoredCell.{StoredCell}
use Rattle.ts_plain.specs.declared.stored.StoredPiece.{StoredPiece}
use Rattle.ts_plain.specs.Rules.{volume, counted, last_of, is_full, may_hold, may_count, rises_from, may_end, coords_rise, origin_rises}
use Rattle.ts_plain.specs.Plain.{FitsCoord, FitsSide, FitsOrigin, FitsValue, FitsCell, FitsPlain}
use Rattle.ts_plain.specs.Pieces.{no_key, origin_key, version_in, head_of, piece_of, IsPlainObject}
use Rattle.ts_plain.specs.Writes.{stored_for}
use Rattle.ts_plain.specs.Merges.{version_cmp, VersionsAscend, LiesInside, IsOrdered}
use Rattle.ts_plain.proofs.Volumes.{counted_whole}
use Rattle.ts_plain.proofs.OrderedPieces.{cells_inside, cells_ascend}
use Rattle.ts_plain.proofs.WrittenPieces.{last_pushed, origins_ascend}
use Rattle.ts_model.specs.Commands.{global_order}
use Rattle.ts_model.specs.Deeds.{RowFits, IsKey}
use Rattle.ts_model.specs.Pieces.{Climb, IsVersion}
use Rattle.ts_model.specs.Consolidated.{IsSpan, NamesOwn, IsMergedVersion, ComesBefore, Rise, IsStorable}
use Rattle.ts_model.proofs.ListLemmas.{Contains-nil, Contains-here, Contains-there, Contains-only, Contains-cons, Contains-slice_get}
use Rattle.ts_model.proofs.Members.{key_found, key_there}
use Rattle.ts_actor.specs.PlainCodec.{IsPlainStorable}
use Rattle.ts_actor.specs.PlainMerges.{LastOf, t_upto}

-- ---- the hull

-- the corners of a hull
abbrev lows : List Side → List ℤ
lows hull = map (λ side. side.low) hull

abbrev highs : List Side → List ℤ
highs hull = map (λ side. side.high) hull

low_inside : (dims : List Dim) (hull : List Side) → EachFits FitsSide dims hull → IsTrue (is_in_domain dims (lows hull))
low_inside [] [] fits = refl
low_inside [] (side ∷ hull) fits = absurd fits
low_inside (d ∷ dims) [] fits = absurd fits
low_inside (d ∷ dims) (side ∷ hull) fits = and_from (int_le d.low side.low && int_le side.low d.high) (is_in_domain dims (lows hull)) (fits.0).low.1 (low_inside dims hull fits.1)

-- what is between is within
through : (a b c d : ℤ) → int_le a b ≡ true → int_le b c ≡ true → int_le c d ≡ true → int_le a c && int_le c d ≡ true
through a b c d ab bc cd = grind (arith, ints)

high_inside : (dims : List Dim) (hull : List Side) → EachFits FitsSide dims hull → IsTrue (is_in_domain dims (highs hull))
high_inside [] [] fits = refl
high_inside [] (side ∷ hull) fits = absurd fits
high_inside (d ∷ dims) [] fits = absurd fits
high_inside (d ∷ dims) (side ∷ hull) fits =
    let low = and_parts (int_le d.low side.low) (int_le side.low d.high) (fits.0).low.1 in
    let high = and_parts (int_le side.low side.high) (int_le side.high d.high) (fits.0).high.1 in
    and_from (int_le d.low side.high && int_le side.high d.high) (is_in_domain dims (highs hull)) (through d.low side.low side.high d.high low.0 high.0 high.1) (high_inside dims hull fits.1)

corners_ordered : (dims : List Dim) (hull : List Side) → EachFits FitsSide dims hull → IsTrue (are_bounds (lows hull) (highs hull))
corners_ordered [] [] fits = refl
corners_ordered [] (side ∷ hull) fits = absurd fits
corners_ordered (d ∷ dims) [] fits = absurd fits
corners_ordered (d ∷ dims) (side ∷ hull) fits =
    and_from (int_le side.low side.high) (are_bounds (lows hull) (highs hull)) (and_parts (int_le side.low side.high) (int_le side.high d.high) (fits.0).high.1).0 (corners_ordered dims hull fits.1)

-- coordinates on the sides lie between the corners
between_corners : (hull : List Side) (coords : List ℤ) → EachFits FitsCoord hull coords → IsTrue (is_between (lows hull) (highs hull) coords)
between_corners [] [] fits = refl
between_corners [] (x ∷ coords) fits = absurd fits
between_corners (side ∷ hull) [] fits = absurd fits
between_corners (side ∷ hull) (x ∷ coords) fits = and_from (int_le side.low x && int_le x side.high) (is_between (lows hull) (highs hull) coords) fits.0.1 (between_corners hull coords fits.1)

-- as many cells lie between the sides as between their corners, and there is one or more
volume_is : (hull : List Side) → volume hull ≡ cells_between (lows hull) (highs hull)
volume_is [] = refl
volume_is (side ∷ hull) = ap (λ n. count_between side.low side.high * n) (volume_is hull)

some_between : (low high : List ℤ) → IsTrue (are_bounds low high) → 1 ≤ cells_between low high
some_between [] [] is = omega arith
some_between [] (h ∷ high) is = absurd (cc)
some_between (l ∷ low) [] is = absurd (cc)
some_between (l ∷ low) (h ∷ high) is =
    let parts = are_bounds-cons l h low high is in
    let side = count_between-le l h parts.0 in
    let rest = mul-le-mul_left (count_between l h) (some_between low high parts.1) in
    omega (arith, parts.0, side, rest)

-- ---- rows and origins

rows_back : (attrs : List Attr) (row : List Val) → EachFits FitsValue attrs row → RowFits attrs row
rows_back [] [] fits = tt
rows_back [] (v ∷ row) fits = absurd fits
rows_back (a ∷ attrs) [] fits = absurd fits
rows_back (a ∷ attrs) (v ∷ row) fits = (fits.0.0, fits.0.1, rows_back attrs row fits.1)

module _ (frag : FragKey) (consolidated : Bool) (count : ℕ) where
  keys_are : (front ks : List Key) → InTurn (FitsOrigin frag consolidated count) front ks → All IsKey ks
  keys_are front [] fits = All-nil IsKey
  keys_are front (k ∷ ks) fits = All-cons IsKey k ks (record { t = (fits.0).range.0; id = (fits.0).range.1 }) (keys_are (front ++ k ∷ []) ks fits.1)

module _ (frag : FragKey) where
  -- the first origin has the least timestamp, the last one the greatest
  first_is : (count : ℕ) (k : Key) (ks : List Key) → InTurn (FitsOrigin frag true count) [] (k ∷ ks) → k.t ≡ frag.t1
  first_is count k ks fits = eqb-true k.t frag.t1 (and_parts (nat_eq k.t frag.t1) (may_end frag (nat_eq 1 count) k) (fits.0).in_place).0

  last_is : (count : ℕ) (front ks : List Key) → count ≡ length front + length ks → InTurn (FitsOrigin frag true count) front ks → LastOf frag ks
  last_is count front [] all fits = tt
  last_is count front (k ∷ []) all fits =
      let end = (and_parts (rises_from frag (last_of front) k) (may_end frag (nat_eq (length front + 1) count) k) (fits.0).in_place).1 in
      eqb-true k.t frag.t2 (sym (ap (λ b. not b || nat_eq k.t frag.t2) (eq-eqb (length front + 1) count (omega (arith, all)))) ∙ end)
  last_is count front (k ∷ l ∷ ks) all fits = last_is count (front ++ k ∷ []) (l ∷ ks) (let more = length_push front k in omega (arith, all, more)) fits.1

  -- one of the origins is the last
  last_there : (k : Key) (ks : List Key) → LastOf frag (k ∷ ks) → (l : Key) × Contains (k ∷ ks) l × (l.t ≡ frag.t2)
  last_there k [] last = (k, Contains-here k [], last)
  last_there k (l ∷ ks) last = let rest = last_there l ks last in (rest.0, Contains-there k (l ∷ ks) rest.0 rest.1, rest.2)

  -- none is stamped later
  upto_last : (ks : List Key) → IsStrictlySortedBy key_cmp ks → LastOf frag ks → (l : Key) → Contains ks l → l.t ≤ frag.t2
  upto_last [] up last l at = absurd (Contains-nil l at)
  upto_last (k ∷ []) up last l at = let same = ap (λ (x : Key). x.t) (Contains-only k l at) in omega (arith, same, last)
  upto_last (k ∷ m ∷ ks) up last l at =
      let rest = sorted_tail key_cmp k (m ∷ ks) up in
      elim (Contains-cons k (m ∷ ks) l at) [
        | inl same ↦
            let upto = t_upto k m (ap is_lt (Less-from_sorted key_cmp (k ∷ m ∷ ks) 0 1 k up (omega arith) (omega arith))) in
            let high = upto_last (m ∷ ks) rest last m (Contains-here m ks) in
            let t = ap (λ (x : Key). x.t) same in
            omega (arith, upto, high, t)
        | inr there ↦ upto_last (m ∷ ks) rest last l there
      ]

-- none is stamped before the first
from_first : (k : Key) (ks : List Key) → IsStrictlySortedBy key_cmp (k ∷ ks) → (l : Key) → Contains (k ∷ ks) l → k.t ≤ l.t
from_first k ks up l at = by at.0 at.1 at.2
  where
    by : (i : ℕ) → i < length (k ∷ ks) → get_or (k ∷ ks) i l ≡ l → k.t ≤ l.t
    by zero less same = let t = ap (λ (x : Key). x.t) same in omega (arith, t)
    by (suc i) less same = t_upto k l (ap is_lt (sym (ap (key_cmp k) same) ∙ Less-from_sorted key_cmp (k ∷ ks) 0 (suc i) l up (omega arith) less))

-- so the fragment spans its origins
spans : (frag : FragKey) (ks : List Key) → 1 ≤ length ks → IsStrictlySortedBy key_cmp ks → InTurn (FitsOrigin frag true (length ks)) [] ks → IsSpan frag ks
spans frag [] some up fits = absurd (omega (arith, some))
spans frag (k ∷ ks) some up fits =
    let first = first_is frag (length (k ∷ ks)) k ks fits in
    let last = last_is frag (length (k ∷ ks)) [] (k ∷ ks) (omega arith) fits in
    record {
      from_on = λ l at. let upto = from_first k ks up l at in omega (arith, first, upto);
      up_to = upto_last frag (k ∷ ks) up last;
      least = (k, Contains-here k ks, first);
      greatest_is = last_there frag k ks last;
    }

-- ---- the order of cells

module _ (frame : Frame) where
  -- versions of one key that ascend climb
  climbs : (k : Key) (vs : List Version) → AllByRecursion (λ (v : Version). v.key ≡ k) vs → VersionsAscend (global_order frame) vs → Climb frame vs
  climbs k [] same up = tt
  climbs k (v ∷ vs) same up = (above vs same.1 up.0, climbs k vs same.1 up.1)
    where
      alone : (o q : Ordering) → q ≡ Equal → ordering_then o q ≡ Less → o ≡ Less
      alone Less q tie h = refl
      alone Equal q tie h = absurd (cc)
      alone Greater q tie h = absurd (cc)

      above : (ws : List Version) → AllByRecursion (λ (w : Version). w.key ≡ k) ws → AllByRecursion (λ (w : Version). version_cmp (global_order frame) v w ≡ Less) ws
          → All (λ (w : Version). global_order frame v.coords w.coords ≡ Less) ws
      above [] own less = All-nil (λ (w : Version). global_order frame v.coords w.coords ≡ Less)
      above (w ∷ ws) own less =
          All-cons (λ (u : Version). global_order frame v.coords u.coords ≡ Less) w ws
          (alone (global_order frame v.coords w.coords) (key_cmp v.key w.key) (ap (key_cmp v.key) (own.0 ∙ sym same.0) ∙ tied_itself key_total v.key) less.0)
          (above ws own.1 less.1)

  -- versions that ascend rise, in a sparse array
  rises_sparse : frame.dense ≡ false → (vs : List Version) → VersionsAscend (global_order frame) vs → Rise frame vs
  rises_sparse sparse [] up = tt
  rises_sparse sparse (v ∷ vs) up = (above vs up.0, rises_sparse sparse vs up.1)
    where
      before : (w : Version) (o : Ordering) → global_order frame v.coords w.coords ≡ o → ordering_then o (key_cmp v.key w.key) ≡ Less → ComesBefore frame v w
      before w Less e h = inl e
      before w Equal e h = inr (sparse, global_cmp-exact frame.domain frame.tile frame.cell v.coords w.coords e, ap is_lt h)
      before w Greater e h = absurd (cc)

      above : (ws : List Version) → AllByRecursion (λ (w : Version). version_cmp (global_order frame) v w ≡ Less) ws → All (ComesBefore frame v) ws
      above [] less = All-nil (ComesBefore frame v)
      above (w ∷ ws) less = All-cons (ComesBefore frame v) w ws (before w (global_order frame v.coords w.coords) refl less.0) (above ws less.1)

  module _ (attrs : List Attr) (head : StoredHead) (dense : frame.dense ≡ true) where
    -- in a dense array a cell that may stand behind another has a later place
    later : (a b : StoredCell) → IsTrue (coords_rise frame (Some a) b.coords) → IsTrue (origin_rises frame.dense (Some a) b.coords b.origin) → global_order frame a.coords b.coords ≡ Less
    later a b rises known = by (global_order frame a.coords b.coords) refl rises
      where
        apart : (s d t : Bool) → s ≡ true → d ≡ true → (not s || (not d && t)) ≡ true → ⊥
        apart true true t e f h = true≢false (sym h)
        apart false d t e f h = true≢false (sym e)
        apart true false t e f h = true≢false (sym f)

        by : (o : Ordering) → global_order frame a.coords b.coords ≡ o → not (is_gt o) ≡ true → o ≡ Less
        by Less e h = refl
        by Greater e h = absurd (true≢false (sym h))
        by Equal e h =
            let same : coords_eq a.coords b.coords ≡ true = subst (λ c. coords_eq a.coords c ≡ true) (global_cmp-exact frame.domain frame.tile frame.cell a.coords b.coords e) ((lists_equiv int_eq_equiv).refl a.coords) in
            absurd (apart (coords_eq a.coords b.coords) frame.dense (nat_lt a.origin b.origin) same dense known)

    later_on : (front : List StoredCell) (a b : StoredCell) → last_of front ≡ Some a → FitsCell frame attrs head front b → global_order frame a.coords b.coords ≡ Less
    later_on front a b last fits =
        later a b (subst (λ o. IsTrue (coords_rise frame o b.coords)) last fits.rises)
        (subst (λ o. IsTrue (origin_rises frame.dense o b.coords b.origin)) last
        (and_parts (nat_lt b.origin (length head.origins)) (origin_rises frame.dense (last_of front) b.coords b.origin) fits.known).1)

    -- what is before the last cell is before all that follow
    all_later : (u : List ℤ) (a : StoredCell) (front cells : List StoredCell) → last_of front ≡ Some a → ((c : List ℤ) → global_order frame a.coords c ≡ Less → global_order frame u c ≡ Less)
        → InTurn (FitsCell frame attrs head) front cells → All (λ (w : Version). global_order frame u w.coords ≡ Less) (map (version_in head) cells)
    all_later u a front [] last carry fits = All-nil (λ (w : Version). global_order frame u w.coords ≡ Less)
    all_later u a front (b ∷ cells) last carry fits =
        let here = carry b.coords (later_on front a b last fits.0) in
        All-cons (λ (w : Version). global_order frame u w.coords ≡ Less) (version_in head b) (map (version_in head) cells) here
        (all_later u b (front ++ b ∷ []) cells (last_pushed front b) (λ c next. (global_total frame.domain frame.tile frame.cell).trans u b.coords c here next) fits.1)

    -- the versions rise
    rises_dense : (front cells : List StoredCell) → InTurn (FitsCell frame attrs head) front cells → Rise frame (map (version_in head) cells)
    rises_dense front [] fits = tt
    rises_dense front (a ∷ cells) fits = (
      All-weaker (λ (w : Version). global_order frame a.coords w.coords ≡ Less) (ComesBefore frame (version_in head a)) (λ w less. inl less) (map (version_in head) cells)
          (all_later a.coords a (front ++ a ∷ []) cells (last_pushed front a) (λ c less. less) fits.1),
      rises_dense (front ++ a ∷ []) cells fits.1,
    )

-- ---- the piece

module _ (frame : Frame) (attrs : List Attr) (frag : FragKey) (stored : StoredPiece) (fits : FitsPlain frame attrs frag stored) (is_frame : IsFrame frame) (are_attrs : AreAttrs attrs) where
  -- its head, its versions, and both
  abbrev held_head : Head
  held_head = record {
    frag = frag;
    schema = stored.head.schema;
    dense = stored.head.dense;
    consolidated = stored.head.consolidated;
    low = lows stored.head.hull;
    high = highs stored.head.hull;
    cells = counted stored.head.dense stored.head.hull stored.head.cells;
    origins = stored.head.origins;
  }

  abbrev held_versions : List Version
  held_versions = map (version_in stored.head) stored.cells

  abbrev held_piece : Piece
  held_piece = record { head = held_head; versions = held_versions }

  count : length held_versions ≡ stored.head.cells
  count = length-map stored.cells (version_in stored.head) ∙ fits.count

  kind : stored.head.dense ≡ frame.dense
  kind = by frame.dense stored.head.dense fits.head.kind
    where
      by : (a b : Bool) → beq a b ≡ true → b ≡ a
      by true true e = refl
      by false false e = refl
      by true false e = absurd (true≢false (sym e))
      by false true e = absurd (true≢false (sym e))

  bounds : IsTrue (are_bounds (lows stored.head.hull) (highs stored.head.hull))
  bounds = corners_ordered frame.domain stored.head.hull fits.head.hull

  -- a full one has each cell between its corners
  full : is_full frame.dense stored.head.consolidated ≡ true → stored.head.cells ≡ cells_between (lows stored.head.hull) (highs stored.head.hull)
  full e =
      eqb-true stored.head.cells (volume stored.head.hull) (subst (λ b. may_hold b stored.head.hull stored.head.cells ≡ true) e fits.head.as_many) ∙ volume_is stored.head.hull

  -- it has a cell
  some : 1 ≤ stored.head.cells
  some = by (is_full frame.dense stored.head.consolidated) refl
    where
      by : (b : Bool) → is_full frame.dense stored.head.consolidated ≡ b → 1 ≤ stored.head.cells
      by true e = let more = some_between (lows stored.head.hull) (highs stored.head.hull) bounds in let all = full e in omega (arith, more, all)
      by false e = leb-true 1 stored.head.cells (subst (λ b. may_hold b stored.head.hull stored.head.cells ≡ true) e fits.head.as_many)

  -- its head counts the cells that it stores, of a dense array those of its hull
  told_sparse : frame.dense ≡ false → held_head.cells ≡ stored.head.cells
  told_sparse e = ap (λ d. counted d stored.head.hull stored.head.cells) (kind ∙ e)

  told_dense : frame.dense ≡ true → held_head.cells ≡ min (cells_between (lows stored.head.hull) (highs stored.head.hull)) (2 ^ 64 - 1)
  told_dense e = ap (λ d. counted d stored.head.hull stored.head.cells) (kind ∙ e) ∙ ap (λ n. min n (2 ^ 64 - 1)) (volume_is stored.head.hull)

  -- where one write made it these are as many
  told_alike : stored.head.consolidated ≡ false → held_head.cells ≡ stored.head.cells
  told_alike ordinary = by frame.dense refl
    where
      by : (b : Bool) → frame.dense ≡ b → held_head.cells ≡ stored.head.cells
      by false e = told_sparse e
      by true e =
          let all = full (ap (λ d. d && not stored.head.consolidated) e ∙ ap (λ b. true && not b) ordinary) in
          ap (λ d. counted d stored.head.hull stored.head.cells) (kind ∙ e) ∙ counted_whole stored.head.hull stored.head.cells (all ∙ sym (volume_is stored.head.hull)) fits.head.cells

  some_told : 1 ≤ held_head.cells
  some_told = by frame.dense refl
    where
      by : (b : Bool) → frame.dense ≡ b → 1 ≤ held_head.cells
      by false e = let same = told_sparse e in omega (arith, same, some)
      by true e = let same = told_dense e in let more = some_between (lows stored.head.hull) (highs stored.head.hull) bounds in subst (λ n. 1 ≤ n) (sym same) (omega (arith, more))

  up : IsStrictlySortedBy key_cmp stored.head.origins
  up = origins_ascend frag stored.head.consolidated stored.head.origins fits.head.some_origin fits.head.origins

  keys : All IsKey stored.head.origins
  keys = keys_are frag stored.head.consolidated (length stored.head.origins) [] stored.head.origins fits.head.origins

  -- each version is one of an origin
  version_is : (front : List StoredCell) (cell : StoredCell) → FitsCell frame attrs stored.head front cell → LiesInside frame (version_in stored.head cell) → IsMergedVersion frame attrs held_head (version_in stored.head cell)
  version_is front cell is inside =
      let known = and_parts (nat_lt cell.origin (length stored.head.origins)) (origin_rises frame.dense (last_of front) cell.coords cell.origin) is.known in
      let room = ltb-true cell.origin (length stored.head.origins) known.0 in
      record {
        by_origin = key_found (origin_key stored.head.origins cell.origin) stored.head.origins
            (Contains-slice_get stored.head.origins cell.origin (origin_key stored.head.origins cell.origin) (slice_get-get_or stored.head.origins cell.origin no_key room));
        in_schema = refl;
        inside = inside;
        hull = between_corners stored.head.hull cell.coords is.coords;
        row = rows_back attrs cell.row is.row;
      }

  versions_are : (front cells : List StoredCell) → InTurn (FitsCell frame attrs stored.head) front cells → All (LiesInside frame) (map (version_in stored.head) cells)
      → All (IsMergedVersion frame attrs held_head) (map (version_in stored.head) cells)
  versions_are front [] is inside = All-nil (IsMergedVersion frame attrs held_head)
  versions_are front (cell ∷ cells) is inside =
      All-cons (IsMergedVersion frame attrs held_head) (version_in stored.head cell) (map (version_in stored.head) cells)
      (version_is front cell is.0 (All-head (LiesInside frame) (version_in stored.head cell) (map (version_in stored.head) cells) inside))
      (versions_are (front ++ cell ∷ []) cells is.1 (All-tail (LiesInside frame) (version_in stored.head cell) (map (version_in stored.head) cells) inside))

  module _ (ordered : IsOrdered frame held_versions) where
    of_origins : All (IsMergedVersion frame attrs held_head) held_versions
    of_origins = versions_are [] stored.cells fits.cells ordered.inside

    -- they rise
    rise : Rise frame held_versions
    rise = by frame.dense refl
      where
        by : (b : Bool) → frame.dense ≡ b → Rise frame held_versions
        by true e = rises_dense frame attrs stored.head e [] stored.cells fits.cells
        by false e = rises_sparse frame e held_versions ordered.ascend

    -- where one write made it
    module _ (ordinary : stored.head.consolidated ≡ false) (k : Key) (only : stored.head.origins ≡ k ∷ []) (named : frag ≡ frag_of k) where
      own : (v : Version) → IsMergedVersion frame attrs held_head v → v.key ≡ k
      own v is = sym (Contains-only k v.key (subst (λ ks. Contains ks v.key) only (key_there v.key stored.head.origins is.by_origin)))

      by_own : (vs : List Version) → All (IsMergedVersion frame attrs held_head) vs → AllByRecursion (λ (v : Version). v.key ≡ k) vs
      by_own [] all = tt
      by_own (v ∷ vs) all = (own v (All-head (IsMergedVersion frame attrs held_head) v vs all), by_own vs (All-tail (IsMergedVersion frame attrs held_head) v vs all))

      of_write : (v : Version) → IsMergedVersion frame attrs held_head v → IsVersion frame attrs held_head k v
      of_write v is = record { by_own = own v is; in_schema = is.in_schema; inside = is.inside; hull = is.hull; row = is.row }

      one_write : IsStorable frame attrs held_piece
      one_write = inl (record {
        is_frame = is_frame;
        are_attrs = are_attrs;
        key = k;
        is_key = All-head IsKey k [] (subst (All IsKey) only keys);
        schema = record { t = fits.head.schema.0; id = fits.head.schema.1 };
        frag = named;
        origins = only;
        consolidated = ordinary;
        dense = kind;
        cells = told_alike ordinary ∙ sym count;
        some = omega (arith, count, some);
        few = omega (arith, count, fits.head.cells);
        low = low_inside frame.domain stored.head.hull fits.head.hull;
        high = high_inside frame.domain stored.head.hull fits.head.hull;
        corners = bounds;
        whole = λ dense. told_alike ordinary ∙ full (ap (λ d. d && not stored.head.consolidated) dense ∙ ap (λ b. true && not b) ordinary);
        versions = All-weaker (IsMergedVersion frame attrs held_head) (IsVersion frame attrs held_head k) of_write held_versions of_origins;
        climb = climbs frame k held_versions (by_own held_versions of_origins) ordered.ascend;
      })

    -- where a consolidation made it
    many_writes : stored.head.consolidated ≡ true → IsStorable frame attrs held_piece
    many_writes made = inr (record {
      is_frame = is_frame;
      are_attrs = are_attrs;
      schema = record { t = fits.head.schema.0; id = fits.head.schema.1 };
      consolidated = made;
      dense = kind;
      cells = λ sparse. told_sparse sparse ∙ sym count;
      whole = told_dense;
      some = some_told;
      few = omega (arith, count, fits.head.cells);
      low = low_inside frame.domain stored.head.hull fits.head.hull;
      high = high_inside frame.domain stored.head.hull fits.head.hull;
      corners = bounds;
      are_keys = keys;
      few_origins = omega (arith, fits.head.few_origins);
      ascend = up;
      span = spans frag stored.head.origins (leb-true 1 (length stored.head.origins) (subst (λ b. may_count b (length stored.head.origins) ≡ true) made fits.head.some_origin)) up
          (subst (λ b. InTurn (FitsOrigin frag b (length stored.head.origins)) [] stored.head.origins) made fits.head.origins);
      versions = of_origins;
      rise = rise;
    })

    -- it can be written
    stored_again : NamesOwn held_head → IsStorable frame attrs held_piece
    stored_again names = by stored.head.consolidated refl
      where
        by : (b : Bool) → stored.head.consolidated ≡ b → IsStorable frame attrs held_piece
        by true made = many_writes made
        by false ordinary = let own = names ordinary in one_write ordinary own.0 own.1 own.2

-- a piece that a plain object can hold has a version
pub storable_some : (frame : Frame) (attrs : List Attr) (p : Piece) → IsFrame frame → AreAttrs attrs → IsPlainStorable frame attrs p → 1 ≤ length p.versions
storable_some frame attrs p is_frame are_attrs is = some frame attrs p.head.frag (stored_for p) is.fits is_frame are_attrs

-- a piece whose stored form keeps all rules can be written once more
pub fits_storable : (frame : Frame) (attrs : List Attr) (p : Piece) (stored : StoredPiece) → IsFrame frame → AreAttrs attrs → NamesOwn p.head → FitsPlain frame attrs p.head.frag stored → p ≡ piece_of p.head.frag stored → IsStorable frame attrs p
unfolding piece_of head_of
fits_storable frame attrs p stored is_frame are_attrs own fits same =
    let up = origins_ascend p.head.frag stored.head.consolidated stored.head.origins fits.head.some_origin fits.head.origins in
    let ordered : IsOrdered frame (map (version_in stored.head) stored.cells) = record {
      inside = cells_inside frame attrs stored.head up [] stored.cells fits.head.hull fits.cells;
      ascend = cells_ascend frame attrs stored.head up [] stored.cells fits.cells;
    } in
    let names = subst (λ (q : Piece). NamesOwn q.head) same own in
    subst (IsStorable frame attrs) (sym same) (stored_again frame attrs p.head.frag stored fits is_frame are_attrs ordered names)

-- what a plain object holds can be written once more
pub plain_source : (frame : Frame) (attrs : List Attr) (p : Piece) (bytes : List ℕ) → IsFrame frame → AreAttrs attrs → NamesOwn p.head → IsPlainObject frame attrs p bytes → IsStorable frame attrs p
plain_source frame attrs p bytes is_frame are_attrs own is = fits_storable frame attrs p is.stored is_frame are_attrs own is.fits is.same
