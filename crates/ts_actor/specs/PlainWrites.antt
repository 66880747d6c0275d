-- The piece that one write makes is one that a plain object holds.
use Rattle.std.proofs.Common.{◌≡◌, ℕ, ◌*◌, ℤ, pos, negsuc, Bool, true, false, ◌&&◌, nat_lt, List, [], ◌∷◌, ◌++◌, length, map, Option, Some, None, refl, sym, ap, ◌∙◌, subst, arith}
use Rattle.std.specs.Prelude.{IsTrue, int_le, ⊤}
use Rattle.std.specs.List.{All}
use Rattle.std.specs.Bool.{beq}
use Rattle.std.specs.Cmp.{tied_itself}
use Rattle.std.specs.declared.cmp.Ordering.TheVariants.{Less}
use Rattle.std.proofs.lemmas.Int.{ints}
use Rattle.std.proofs.lemmas.Bool.{and_parts, and_from, le-leb, eq-eqb}
use Rattle.std.proofs.lemmas.List.{length-map}
use Rattle.std.proofs.lemmas.List.Elements.{All-head, All-tail}
use Rattle.ts_base.specs.declared.keys.Key.{Key}
use Rattle.ts_base.specs.declared.keys.FragKey.{FragKey}
use Rattle.ts_base.specs.declared.values.Val.{Val}
use Rattle.ts_base.specs.declared.heads.Head.{Head}
use Rattle.ts_base.specs.declared.heads.Piece.{Piece}
use Rattle.ts_base.specs.declared.heads.Version.{Version}
use Rattle.ts_base.specs.Keys.{frag_of}
use Rattle.ts_base.specs.Coords.{coords_eq}
use Rattle.ts_domain.specs.declared.dims.Dim.{Dim}
use Rattle.ts_domain.specs.Dims.{IsDim}
use Rattle.ts_domain.specs.Bounds.{count_between, is_between, are_bounds, cells_between}
use Rattle.ts_domain.specs.Domains.{is_in_domain}
use Rattle.ts_order.proofs.OrderLemmas.{global_total}
use Rattle.ts_wire.specs.Exact.{InTurn, EachFits}
use Rattle.ts_wire.specs.Fields.{FitsKey}
use Rattle.ts_wire.specs.Numbers.{FitsInt}
use Rattle.ts_schema.specs.declared.attrs.Attr.{Attr}
use Rattle.ts_schema.specs.declared.frames.Frame.{Frame}
use Rattle.ts_plain.specs.declared.stored.Side.{Side}
use Rattle.ts_plain.specs.declared.stored.StoredCell.{StoredCell}
use Rattle.ts_plain.specs.Rules.{volume, counted, last_of, may_span, is_full, may_hold, may_count, coords_rise, origin_rises}
use Rattle.ts_plain.specs.Plain.{FitsCoord, FitsSide, FitsOrigin, FitsValue, FitsCell, FitsPlain}
use Rattle.ts_plain.specs.Pieces.{no_key, version_in, head_of, piece_of}
use Rattle.ts_plain.specs.Writes.{place_of, HasPlace, sides_of, counting_head, stored_cell, stored_for, HasPlain, CountsCells, NamesWrites}
use Rattle.ts_plain.proofs.KeyLemmas.{key_itself}
use Rattle.ts_plain.proofs.Places.{at-place_of}
use Rattle.ts_plain.proofs.Volumes.{counted_whole}
use Rattle.ts_plain.proofs.WrittenPieces.{last_pushed, stored_back, names_of}
use Rattle.ts_model.specs.Commands.{global_order}
use Rattle.ts_model.specs.Deeds.{RowFits}
use Rattle.ts_model.specs.Pieces.{Climb, IsVersion, IsOrdinary}
use Rattle.ts_base.proofs.Equal.{coords_decide}
use Rattle.ts_actor.specs.PlainCodec.{IsPlainStorable}

-- ---- the hull

-- a number between two bounds of a dimension has room in 16 bytes
coord_fits : (d : Dim) (x : ℤ) → IsDim d → IsTrue (int_le d.low x && int_le x d.high) → FitsInt 16 true x
coord_fits d (pos a) is h = let above = (is.high).below in let parts = and_parts (int_le d.low (pos a)) (int_le (pos a) d.high) h in omega (arith, ints, above, parts.1)
coord_fits d (negsuc a) is h = let below = (is.low).above in let parts = and_parts (int_le d.low (negsuc a)) (int_le (negsuc a) d.high) h in omega (arith, ints, below, parts.0)

-- the coordinates lie in their dimensions
abbrev Inside : List Dim → List ℤ → Type 0
Inside dims coords = IsTrue (is_in_domain dims coords)

-- coordinates that lie in their dimensions have the first one in the first dimension
inside_first : (d : Dim) (dims : List Dim) (x : ℤ) (coords : List ℤ) → Inside (d ∷ dims) (x ∷ coords) → IsTrue (int_le d.low x && int_le x d.high) × Inside dims coords
inside_first d dims x coords h = and_parts (int_le d.low x && int_le x d.high) (is_in_domain dims coords) h

-- the sides between two corners in the domain are those of a hull
pub hull_fits : (dims : List Dim) (low high : List ℤ) → All IsDim dims → Inside dims low → Inside dims high → IsTrue (are_bounds low high) → EachFits FitsSide dims (sides_of low high)
hull_fits [] [] [] are a b c = tt
hull_fits [] [] (h ∷ high) are a b c = absurd (cc)
hull_fits [] (l ∷ low) high are a b c = absurd (cc)
hull_fits (d ∷ dims) [] high are a b c = absurd (cc)
hull_fits (d ∷ dims) (l ∷ low) [] are a b c = absurd (cc)
hull_fits (d ∷ dims) (l ∷ low) (h ∷ high) are a b c =
    let is = All-head IsDim d dims are in
    let least = inside_first d dims l low a in
    let greatest = inside_first d dims h high b in
    let order = and_parts (int_le l h) (are_bounds low high) c in
    let below = and_parts (int_le d.low h) (int_le h d.high) greatest.0 in (
      record { low = (coord_fits d l is least.0, least.0); high = (coord_fits d h is greatest.0, and_from (int_le l h) (int_le h d.high) order.0 below.1) },
      hull_fits dims low high (All-tail IsDim d dims are) least.1 greatest.1 order.1,
    )

-- coordinates between two corners lie on the sides
pub coords_fit : (dims : List Dim) (low high coords : List ℤ) → All IsDim dims → Inside dims coords → IsTrue (is_between low high coords) → EachFits FitsCoord (sides_of low high) coords
coords_fit dims [] [] [] are a b = tt
coords_fit dims [] [] (x ∷ coords) are a b = absurd (cc)
coords_fit dims [] (h ∷ high) coords are a b = absurd (cc)
coords_fit dims (l ∷ low) [] coords are a b = absurd (cc)
coords_fit dims (l ∷ low) (h ∷ high) [] are a b = absurd (cc)
coords_fit [] (l ∷ low) (h ∷ high) (x ∷ coords) are a b = absurd (cc)
coords_fit (d ∷ dims) (l ∷ low) (h ∷ high) (x ∷ coords) are a b =
    let inside = inside_first d dims x coords a in
    let on = and_parts (int_le l x && int_le x h) (is_between low high coords) b in
    ((coord_fits d x (All-head IsDim d dims are) inside.0, on.0), coords_fit dims low high coords (All-tail IsDim d dims are) inside.1 on.1)

-- the corners of the sides between two corners are those corners
pub lows_back : (low high : List ℤ) → IsTrue (are_bounds low high) → low ≡ map (λ (side : Side). side.low) (sides_of low high)
lows_back [] [] h = refl
lows_back [] (y ∷ high) h = absurd (cc)
lows_back (x ∷ low) [] h = absurd (cc)
lows_back (x ∷ low) (y ∷ high) h = ap (λ xs. x ∷ xs) (lows_back low high (and_parts (int_le x y) (are_bounds low high) h).1)

-- the same of the other corner
pub highs_back : (low high : List ℤ) → IsTrue (are_bounds low high) → high ≡ map (λ (side : Side). side.high) (sides_of low high)
highs_back [] [] h = refl
highs_back [] (y ∷ high) h = absurd (cc)
highs_back (x ∷ low) [] h = absurd (cc)
highs_back (x ∷ low) (y ∷ high) h = ap (λ ys. y ∷ ys) (highs_back low high (and_parts (int_le x y) (are_bounds low high) h).1)

-- as many cells lie between the sides as between the corners
pub volume_between : (low high : List ℤ) → IsTrue (are_bounds low high) → volume (sides_of low high) ≡ cells_between low high
volume_between [] [] h = refl
volume_between [] (y ∷ high) h = absurd (cc)
volume_between (x ∷ low) [] h = absurd (cc)
volume_between (x ∷ low) (y ∷ high) h = ap (λ n. count_between x y * n) (volume_between low high (and_parts (int_le x y) (are_bounds low high) h).1)

-- ---- the origin

-- the one origin has the place 0
place_own : (origins : List Key) (own key : Key) → origins ≡ own ∷ [] → key ≡ own → place_of origins key ≡ 0
unfolding place_of
place_own origins own key only same = ap (λ ks. place_of ks key) only ∙ ap (place_of (own ∷ [])) same ∙ rw (key_itself own) refl

-- the one origin has a place
has_own : (origins : List Key) (own key : Key) → origins ≡ own ∷ [] → key ≡ own → HasPlace origins key
has_own origins own key only same = omega (arith, place_own origins own key only same, ap length only)

-- the key of its write is the one origin of a fragment
own_fits : (frag : FragKey) (consolidated : Bool) (origins : List Key) (own : Key) → FitsKey own → frag ≡ frag_of own → consolidated ≡ false → origins ≡ own ∷ []
    → InTurn (FitsOrigin frag consolidated (length origins)) [] origins
own_fits frag consolidated origins own fits named ordinary only =
    subst (λ ks. InTurn (FitsOrigin frag consolidated (length ks)) [] ks) (sym only)
    (subst (λ b. InTurn (FitsOrigin frag b 1) [] (own ∷ [])) (sym ordinary)
    (subst (λ f. InTurn (FitsOrigin f false 1) [] (own ∷ [])) (sym named) (record { range = fits; in_place = key_itself own }, tt)))

-- ---- the cells

-- each value of a row has a spelling, and its attribute may have it
pub row_fits : (attrs : List Attr) (row : List Val) → RowFits attrs row → EachFits FitsValue attrs row
row_fits [] [] h = tt
row_fits [] (v ∷ row) h = absurd h
row_fits (a ∷ attrs) [] h = absurd h
row_fits (a ∷ attrs) (v ∷ row) h = ((h.0, h.1), row_fits attrs row h.2)

-- the coordinates come behind the cell before, if there is one
abbrev Behind : Frame → Option StoredCell → List ℤ → Type 0
Behind frame None coords = ⊤
Behind frame (Some before) coords = global_order frame before.coords coords ≡ Less

-- the first version comes behind the cell before
abbrev StartsBehind : Frame → Option StoredCell → List Version → Type 0
StartsBehind frame before [] = ⊤
StartsBehind frame before (v ∷ vs) = Behind frame before v.coords

module _ (frame : Frame) where
  -- what comes behind other coordinates is not at them
  pub not_same : (c d : List ℤ) → global_order frame c d ≡ Less → coords_eq c d ≡ false
  not_same c d less = by (coords_eq c d) refl
    where
      by : (b : Bool) → coords_eq c d ≡ b → b ≡ false
      by false e = refl
      by true e = absurd (let tie = tied_itself (global_total frame.domain frame.tile frame.cell) d in let same = ap (λ x. global_order frame x d) ((coords_decide c d).0 e) in cc)

  -- coordinates behind the cell before keep the rule of global order
  coords_behind : (before : Option StoredCell) (coords : List ℤ) → Behind frame before coords → IsTrue (coords_rise frame before coords)
  coords_behind None coords h = refl
  coords_behind (Some before) coords h = rw h refl

  -- a cell behind the cell before may have any origin
  origin_behind : (dense : Bool) (before : Option StoredCell) (coords : List ℤ) (origin : ℕ) → Behind frame before coords → IsTrue (origin_rises dense before coords origin)
  origin_behind dense None coords origin h = refl
  origin_behind dense (Some before) coords origin h = rw (not_same before.coords coords h) refl

  module _ (attrs : List Attr) (head : Head) (many : ℕ) (own : Key) (dims : All IsDim frame.domain) (only : head.origins ≡ own ∷ []) where
    -- the cell of a version keeps all rules behind the cells before it
    cell_fits : (front : List StoredCell) (v : Version) → IsVersion frame attrs head own v → Behind frame (last_of front) v.coords
        → FitsCell frame attrs (counting_head head many) front (stored_cell head.origins v)
    cell_fits front v is behind =
        let place = place_own head.origins own v.key only is.by_own in
        let count : length head.origins ≡ 1 = ap length only in
        record {
          coords = coords_fit frame.domain head.low head.high v.coords dims is.inside is.hull;
          rises = coords_behind (last_of front) v.coords behind;
          origin = omega (arith, place);
          known = and_from (nat_lt (place_of head.origins v.key) (length head.origins)) _
              (ap (λ n. nat_lt n (length head.origins)) place ∙ ap (nat_lt 0) count) (origin_behind frame.dense (last_of front) v.coords _ behind);
          row = row_fits attrs v.row is.row;
        }

    -- so do the cells of all versions, each behind those before it
    cells_fit : (front : List StoredCell) (vs : List Version) → All (IsVersion frame attrs head own) vs → StartsBehind frame (last_of front) vs → Climb frame vs
        → InTurn (FitsCell frame attrs (counting_head head many)) front (map (stored_cell head.origins) vs)
    cells_fit front [] all first climb = tt
    cells_fit front (v ∷ vs) all first climb =
        let cell = stored_cell head.origins v in
        let next : StartsBehind frame (last_of (front ++ cell ∷ [])) vs = subst (λ o. StartsBehind frame o vs) (sym (last_pushed front cell)) (above vs climb.0) in
        (cell_fits front v (All-head (IsVersion frame attrs head own) v vs all) first, cells_fit (front ++ cell ∷ []) vs (All-tail (IsVersion frame attrs head own) v vs all) next climb.1)
      where
        above : (ws : List Version) → All (λ w. global_order frame v.coords w.coords ≡ Less) ws → StartsBehind frame (Some (stored_cell head.origins v)) ws
        above [] all = tt
        above (w ∷ ws) all = All-head (λ (w : Version). global_order frame v.coords w.coords ≡ Less) w ws all

    -- the versions of the cells that are stored of versions are those versions
    versions_back : (vs : List Version) → All (IsVersion frame attrs head own) vs → vs ≡ map (version_in (counting_head head many)) (map (stored_cell head.origins) vs)
    versions_back [] all = refl
    versions_back (v ∷ vs) all =
        let is = All-head (IsVersion frame attrs head own) v vs all in
        let key = at-place_of head.origins v.key no_key (has_own head.origins own v.key only is.by_own) in
        let schema = is.in_schema in
        let rest = versions_back vs (All-tail (IsVersion frame attrs head own) v vs all) in
        λ i. record { key = (sym key) i; schema = schema i; coords = v.coords; row = v.row } ∷ rest i

-- ---- the piece

-- what is stored of a piece that one write makes keeps all rules
pub ordinary_fits : (frame : Frame) (attrs : List Attr) (p : Piece) → IsOrdinary frame attrs p → FitsPlain frame attrs p.head.frag (stored_for p)
ordinary_fits frame attrs p is =
    let dims = (is.is_frame).domain.valid in
    record {
      head = record {
        schema = (is.schema.t, is.schema.id);
        kind = ap (beq frame.dense) is.dense ∙ same frame.dense;
        span = ap (may_span p.head.frag) is.consolidated ∙ rw is.frag (eq-eqb is.key.t is.key.t refl);
        hull = hull_fits frame.domain p.head.low p.head.high dims is.low is.high is.corners;
        cells = omega (arith, is.few);
        as_many = ap (λ b. may_hold (is_full frame.dense b) (sides_of p.head.low p.head.high) (length p.versions)) is.consolidated ∙ as_many frame.dense is.whole;
        few_origins = omega (arith, ap length is.origins);
        some_origin = ap (λ b. may_count b (length p.head.origins)) is.consolidated ∙ ap (λ ks. may_count false (length ks)) is.origins;
        origins = own_fits p.head.frag p.head.consolidated p.head.origins is.key (is.is_key.t, is.is_key.id) is.frag is.consolidated is.origins;
      };
      count = length-map p.versions (stored_cell p.head.origins);
      cells = cells_fit frame attrs p.head (length p.versions) is.key dims is.origins [] p.versions is.versions (first p.versions) is.climb;
    }
  where
    same : (b : Bool) → beq b b ≡ true
    same true = refl
    same false = refl

    as_many : (dense : Bool) → (dense ≡ true → p.head.cells ≡ cells_between p.head.low p.head.high) → IsTrue (may_hold (is_full dense false) (sides_of p.head.low p.head.high) (length p.versions))
    as_many true whole = eq-eqb (length p.versions) (volume (sides_of p.head.low p.head.high)) (sym is.cells ∙ whole refl ∙ sym (volume_between p.head.low p.head.high is.corners))
    as_many false whole = le-leb 1 (length p.versions) is.some

    first : (vs : List Version) → StartsBehind frame None vs
    first [] = tt
    first (v ∷ vs) = tt

-- the head of a piece that one write makes counts its versions, of a dense array each cell of its hull
ordinary_counts : (frame : Frame) (attrs : List Attr) (p : Piece) → IsOrdinary frame attrs p → CountsCells p
ordinary_counts frame attrs p is = by p.head.dense refl
  where
    by : (dense : Bool) → p.head.dense ≡ dense → p.head.cells ≡ counted dense (sides_of p.head.low p.head.high) (length p.versions)
    by true e =
        sym (counted_whole (sides_of p.head.low p.head.high) p.head.cells (is.whole (sym is.dense ∙ e) ∙ sym (volume_between p.head.low p.head.high is.corners)) (omega (arith, is.cells, is.few)))
    by false e = is.cells

-- a piece that one write makes is the one that what is stored of it holds
pub ordinary_back : (frame : Frame) (attrs : List Attr) (p : Piece) → IsOrdinary frame attrs p → p ≡ piece_of p.head.frag (stored_for p)
unfolding piece_of head_of
ordinary_back frame attrs p is =
    let low = lows_back p.head.low p.head.high is.corners in
    let high = highs_back p.head.low p.head.high is.corners in
    let versions = versions_back frame attrs p.head (length p.versions) is.key (is.is_frame).domain.valid is.origins p.versions is.versions in
    let told = ordinary_counts frame attrs p is in
    let head = p.head in
    λ i. record {
      head = record { frag = head.frag; schema = head.schema; dense = head.dense; consolidated = head.consolidated; low = low i; high = high i; cells = told i; origins = head.origins };
      versions = versions i;
    }

-- ---- which pieces can be stored

-- a piece that some plain object holds can be stored, one of many writes too
pub plain_storable : (frame : Frame) (attrs : List Attr) (p : Piece) → HasPlain frame attrs p → IsPlainStorable frame attrs p
plain_storable frame attrs p has =
    let is = has.spelled in
    let stored : stored_for p ≡ is.stored = ap stored_for is.same ∙ stored_back frame attrs p.head.frag is.stored is.fits in
    record {
      fits = subst (FitsPlain frame attrs p.head.frag) (sym stored) is.fits;
      same = is.same ∙ ap (piece_of p.head.frag) (sym stored);
    }

-- each version of such a piece can name its write
pub storable_names : (frame : Frame) (attrs : List Attr) (p : Piece) → IsPlainStorable frame attrs p → NamesWrites p
storable_names frame attrs p is = subst NamesWrites (sym is.same) (names_of frame attrs p.head.frag (stored_for p) is.fits)
